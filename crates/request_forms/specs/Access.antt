-- What access to the bytes of a store leaves.
use Rattle.std.specs.Prelude.{◌≡◌, ℕ, ◌+◌, ◌-◌, if◌then◌else◌}
use Rattle.std.specs.FinMap.{get}
use Rattle.mvs_model.specs.Place.{place_at}
use Rattle.mvs_model.specs.Storage.{Storage, IsStorage, has_address}

-- Some bytes from an address on are those at a distance after another address, and nothing else has changed.
pub record Copied (old : Storage) (to from n : ℕ) (new : Storage) : Type 0 where
  pub regions : new.regions ≡ old.regions
  pub held : new.held ≡ old.held
  pub bytes : (x : ℕ) → get new.bytes x ≡ (if has_address (place_at to n) x then get old.bytes (from + (x - to)) else get old.bytes x)
  pub storage : IsStorage new
