-- What a block is once a loan of some of its bytes is over.
use Rattle.std.specs.Prelude.{ℕ, List, Option, take}
use Rattle.std.specs.Borrow.{Bor, MutBor, Fml, Array, u8, follows}
use Rattle.region_raw.specs.Rows.{overlaid}
use Rattle.region_raw.specs.contracts.block.Block.{the_row}

-- the block ends with what was last written to the borrowed bytes, n from an index on
abbrev pub BorrowsRun : MutBor (List (Option ℕ)) → ℕ → ℕ → MutBor (List ℕ) → Fml
BorrowsRun s at n r = follows the_row (Array u8 0) s.ghost_name r.ghost_name (λ ws. overlaid s.now at (take n ws))

-- the block ends so if the bytes are the second of two borrowed runs
abbrev pub BorrowsSecond : MutBor (List (Option ℕ)) → ℕ → ℕ → Bor (List ℕ) × MutBor (List ℕ) → Fml
BorrowsSecond s at n r = follows the_row (Array u8 0) s.ghost_name r.1.ghost_name (λ ws. overlaid s.now at (take n ws))
