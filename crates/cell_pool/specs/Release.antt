-- The parts of a pool are given back.
use Rattle.std.specs.Prelude.{◌≡◌, ℕ, ◌+◌, ◌/◌, ◌≤◌, Bool, None}
use Rattle.std.specs.FinMap.{get}
use Rattle.mvs_model.specs.Finite.{Changes, any_below}
use Rattle.mvs_model.specs.Storage.{Storage, IsStorage, IsWhole, HeldBy, covers}
use Rattle.mvs_model.specs.Pools.{part_length}
use Rattle.cell_pool.specs.Layout.{byte_of, count_at}
use Rattle.cell_pool.specs.Roots.{Root, part_at, part_of}

-- The part at the address is of whole doublewords that the subpool of the pool holds.
pub record HoldsPart (st : Storage) (r : Root) (a : ℕ) : Type 0 where
  pub few : count_at (byte_of st) a ≤ 65536
  pub low : a + part_length r.cell_size (count_at (byte_of st) a) ≤ 0x3000000
  pub whole : IsWhole (part_at (byte_of st) r.cell_size a).place
  pub held : HeldBy st r.subpool (part_at (byte_of st) r.cell_size a).place

-- whether one of the first n parts of the pool has the doubleword
unfoldable pub in_first : (ℕ → ℕ) → Root → ℕ → ℕ → Bool
in_first m r n d = any_below (λ j. covers (part_of m r j).place d) n

-- The doublewords of the first n parts of the pool are now free and have no bytes. Nothing else has changed.
pub record DropsParts (old : Storage) (r : Root) (n : ℕ) (new : Storage) : Type 0 where
  pub storage : IsStorage new
  pub regions : new.regions ≡ old.regions
  pub held : Changes (get old.held) (in_first (byte_of old) r n) None (get new.held)
  pub bytes : Changes (get old.bytes) (λ a. in_first (byte_of old) r n (a / 8)) None (get new.bytes)
