-- A flag of a part, and the number of its taken cells with it, is changed.
use Rattle.std.specs.Prelude.{◌≡◌, ℕ, ◌+◌, ◌<◌, ◌≤◌, ◌/◌, ◌⊎◌, ◌==◌, Bool, if◌then◌else◌}
use Rattle.mvs_model.specs.Storage.{Storage, IsStorage}
use Rattle.cell_pool.specs.Layout.{byte_of, taken_at, flag}

-- The byte is one of those that a change of a cell's flag may change.
abbrev pub IsMark : ℕ → ℕ → ℕ → Type 0
IsMark a i x = ((a + 8 ≤ x) × (x < a + 12)) ⊎ (x ≡ a + 16 + i / 8)

-- The flag of a cell now has the value, the part has this number of taken cells, and nothing else has changed.
pub record Marks (old : Storage) (a i : ℕ) (v : Bool) (taken : ℕ) (new : Storage) : Type 0 where
  pub storage : IsStorage new
  pub regions : new.regions ≡ old.regions
  pub held : new.held ≡ old.held
  pub flags : (k : ℕ) → flag (byte_of new) a k ≡ (if k == i then v else flag (byte_of old) a k)
  pub count : taken_at (byte_of new) a ≡ taken
  pub others : (x : ℕ) → (IsMark a i x → ⊥) → byte_of new x ≡ byte_of old x
