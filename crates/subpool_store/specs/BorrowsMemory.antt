-- What the pages of a region are once a loan of some of their bytes is over.
use Rattle.std.specs.Prelude.{ℕ, List, take}
use Rattle.std.specs.Borrow.{Fml, MutBor, Bor, Array, u8, follows}
use Rattle.region_raw.specs.Pages.{with_part}
use Rattle.subpool_store.specs.Memory.{MemoryState}
use Rattle.subpool_store.specs.contracts.memory.Memory.{the_row}

-- the pages with values in place of the n bytes from an index on
abbrev pub with_bytes : MemoryState → ℕ → ℕ → List ℕ → MemoryState
with_bytes m at n ws = record { held = m.held; bytes = with_part m.bytes at (take n ws) }

-- the pages end with what was last written to the borrowed bytes, n from an index on
abbrev pub BorrowsPart : MutBor MemoryState → ℕ → ℕ → MutBor (List ℕ) → Fml
BorrowsPart s at n r = follows the_row (Array u8 0) s.ghost_name r.ghost_name (with_bytes s.now at n)

-- the pages end so if the bytes are the second of two borrowed parts
abbrev pub BorrowsSecond : MutBor MemoryState → ℕ → ℕ → Bor (List ℕ) × MutBor (List ℕ) → Fml
BorrowsSecond s at n r = follows the_row (Array u8 0) s.ghost_name r.1.ghost_name (with_bytes s.now at n)
