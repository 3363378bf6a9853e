-- What a region is once a loan of some of its bytes is over.
use Rattle.std.specs.Prelude.{ℕ, List, take}
use Rattle.std.specs.Borrow.{Lends, MutBor, Fml, Array, u8}
use Rattle.mvs_model.specs.Place.{PlaceValue}
use Rattle.subpool_store.specs.WrittenBytes.{region_written}
use Rattle.subpool_store.specs.declared.region_store.RegionStore.{RegionStore}
use Rattle.subpool_store.specs.contracts.region_store.RegionStore.{the_row}

-- the region ends with what was last written at the place
abbrev pub BorrowsRegion : MutBor RegionStore → PlaceValue → MutBor (List ℕ) → Fml
BorrowsRegion h p r = Lends the_row (Array u8 0) h r (λ w. region_written h.now p.addr (take p.len w))
