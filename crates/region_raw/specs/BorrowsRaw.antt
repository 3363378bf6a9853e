-- What the owner of a row of bytes is once a loan of some of them is over.
use Rattle.std.specs.Prelude.{ℕ, List, take}
use Rattle.std.specs.Borrow.{MutBor, Bor, Fml, Array, u8, follows}
use Rattle.region_raw.specs.Rows.{overlaid}
use Rattle.region_raw.specs.declared.raw.RawBytes.{RawBytes}
use Rattle.region_raw.specs.contracts.raw.RawBytes.{the_row}

-- the owner with values in place of those from an index on, at most n
abbrev pub with_run : RawBytes → ℕ → ℕ → List ℕ → RawBytes
with_run c at n ws = record c { bytes = overlaid c.bytes at (take n ws) }

-- the owner ends with what was last written to the borrowed bytes, n from an index on
abbrev pub BorrowsRun : MutBor RawBytes → ℕ → ℕ → MutBor (List ℕ) → Fml
BorrowsRun s at n r = follows the_row (Array u8 0) s.ghost_name r.ghost_name (with_run s.now at n)

-- the owner ends so if the bytes are the second of two borrowed runs
abbrev pub BorrowsSecond : MutBor RawBytes → ℕ → ℕ → Bor (List ℕ) × MutBor (List ℕ) → Fml
BorrowsSecond s at n r = follows the_row (Array u8 0) s.ghost_name r.1.ghost_name (with_run s.now at n)
