-- What a region is once a loan of some of its bytes is over.
use Rattle.std.specs.Prelude.{ℕ, List, take}
use Rattle.std.specs.Borrow.{Fml, MutBor, Bor, Array, u8, follows}
use Rattle.region_raw.specs.Pages.{Pages, with_part}
use Rattle.region_raw.specs.contracts.region.Region.{the_row}

-- the region ends with what was last written to the borrowed bytes, n from an index on
abbrev pub BorrowsPart : MutBor Pages → ℕ → ℕ → MutBor (List ℕ) → Fml
BorrowsPart s at n r = follows the_row (Array u8 0) s.ghost_name r.ghost_name (λ ws. with_part s.now at (take n ws))

-- the region ends so if the bytes are the second of two borrowed parts
abbrev pub BorrowsSecond : MutBor Pages → ℕ → ℕ → Bor (List ℕ) × MutBor (List ℕ) → Fml
BorrowsSecond s at n r = follows the_row (Array u8 0) s.ghost_name r.1.ghost_name (λ ws. with_part s.now at (take n ws))
