-- The parts of a store's value.
use Rattle.std.proofs.Common.{◌≡◌, ℕ}
use Rattle.mvs_model.specs.Storage.{Storage}
use Rattle.subpool_store.specs.Value.{StoreValue}

-- the storage of a store, where its value is known
pub stored : {st : Storage} {steps : ℕ} {v : StoreValue} → record { storage = st; steps = steps } ≡ v → st ≡ v.storage
stored is i = (is i).storage
