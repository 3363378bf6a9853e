-- What storage is once a loan of some of its bytes is over.
use Rattle.std.specs.Prelude.{ℕ, List}
use Rattle.std.specs.Borrow.{Lends, MutBor, Fml, Array, u8}
use Rattle.mvs_model.specs.Place.{PlaceValue}
use Rattle.subpool_store.specs.Value.{StoreValue}
use Rattle.subpool_store.specs.WrittenBytes.{written}
use Rattle.subpool_store.specs.declared.store.Store.{Store}
use Rattle.subpool_store.specs.contracts.store.Store.{the_row}

-- the storage with the bytes written over those of a place, and the count as it is
abbrev pub with_written : StoreValue → PlaceValue → List ℕ → StoreValue
with_written v p w = record { storage = written v.storage p w; steps = v.steps }

-- storage ends with what was last written at the place
abbrev pub BorrowsBytes : MutBor Store → PlaceValue → MutBor (List ℕ) → Fml
BorrowsBytes st p r = Lends the_row (Array u8 0) st r (with_written st.now p)
