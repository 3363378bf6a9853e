-- What a contract sees of `Store`.
use Rattle.std.specs.Prelude.{ℕ, refl}
use Rattle.std.specs.Coded.{Coded, code_by, coded×, coded_ℕ}
use Rattle.mvs_model.specs.Storage.{Storage, storage_code}
use Rattle.subpool_store.specs.Joined.{store_of}
use Rattle.subpool_store.specs.Region.{RegionState}

-- The storage, and how high the latest obtain counted.
pub record StoreValue : Type 0 where
  pub storage : Storage
  pub steps : ℕ

-- a code, for a model's value
abbrev pub store_code : Coded StoreValue
store_code = code_by (Storage × ℕ) (coded× storage_code coded_ℕ) (λ v. (v.storage, v.steps)) (λ p. record { storage = p.0; steps = p.1 }) (λ _. refl)

-- what the two regions, the byte of a grant and the count are together
abbrev pub value_of : RegionState → RegionState → ℕ → ℕ → StoreValue
value_of b a fill steps = record { storage = store_of b a fill; steps = steps }
