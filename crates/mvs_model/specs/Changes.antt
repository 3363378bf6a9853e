-- What the requests do to the state.
use Rattle.std.specs.Prelude.{◌≡◌, ℕ, ◌+◌, ◌<◌, ◌≤◌, Bool, true, not, ◌==◌, List, [], ◌∷◌, ◌++◌, Option, Some, None, if◌then◌else◌}
use Rattle.std.specs.List.{list_any, AllByRecursion}
use Rattle.std.specs.FinMap.{get}
use Rattle.std.specs.FinSet as set
use Rattle.mvs_model.specs.declared.name.Name.{Name}
use Rattle.mvs_model.specs.Place.{PlaceValue}
use Rattle.mvs_model.specs.Want.{WantValue}
use Rattle.mvs_model.specs.Finite.{Changes, Keeps}
use Rattle.mvs_model.specs.Name.{same_name}
use Rattle.mvs_model.specs.Storage.{Chosen, NoPlace, covers, Covers, has_address}
use Rattle.mvs_model.specs.Owners.{Owners, SubpoolOf, Enters, AreDescendants, Ends, ends_with}
use Rattle.mvs_model.specs.Pools.{Pool, part_want, cell_at, in_parts, in_taken}
use Rattle.mvs_model.specs.State.{State, plain, pooled, holder, granted}

-- A grant of one area for a number of the task: the place is as requested; the subpool of the task for this number holds its
-- doublewords, and is created if it did not exist; the bytes are the fill byte; nothing else has changed. (Assembler Services
-- Reference, GETMAIN)
pub record GrantTo (old : State) (t : Name) (number : ℕ) (want : WantValue) (p : PlaceValue) (new : State) : Type 0 where
  pub subpool : ℕ
  pub is_subpool : SubpoolOf old.owners t number subpool
  pub chosen : Chosen old.regions (holder old) subpool want p
  pub regions : new.regions ≡ old.regions
  pub held : Changes (get old.held) (covers p) (Some (plain subpool)) (get new.held)
  pub bytes : Changes (get old.bytes) (has_address p) (Some old.regions.fill) (get new.bytes)
  pub owners : Enters old.owners t number subpool new.owners
  pub pools : new.pools ≡ old.pools

-- There is no place of the least length in the subpool that the task has or would have under the number.
abbrev pub ShortOf : State → Name → ℕ → WantValue → Type 0
ShortOf old t number want = (s : ℕ) × SubpoolOf old.owners t number s × NoPlace old.regions (holder old) s want

-- Grants one after another, one place for each request. (Assembler Services Reference, GETMAIN, list requests; all or none is this
-- project's choice)
abbrev pub ListGrant : State → Name → ℕ → List WantValue → List PlaceValue → State → Type 0
ListGrant old t number [] [] new = new ≡ old
ListGrant old t number [] (p ∷ ps) new = ⊥
ListGrant old t number (want ∷ wants) [] new = ⊥
ListGrant old t number (want ∷ wants) (p ∷ ps) new = (mid : State) × GrantTo old t number want p mid × ListGrant mid t number wants ps new

-- whether a place of the list has the doubleword
abbrev pub any_covers : List PlaceValue → ℕ → Bool
any_covers ps d = list_any (λ p. covers p d) ps

-- whether a place of the list has the address
abbrev pub any_has : List PlaceValue → ℕ → Bool
any_has ps a = list_any (λ p. has_address p a) ps

-- each doubleword of the place is held by s outside the pools
abbrev pub HeldPlain : State → ℕ → PlaceValue → Type 0
HeldPlain st s p = (d : ℕ) → Covers p d → get st.held d ≡ Some (plain s)

-- the places have no doubleword in common
abbrev pub Misses : PlaceValue → PlaceValue → Type 0
Misses p q = (d : ℕ) → Covers p d → Covers q d → ⊥

-- no two places of the list have a doubleword in common
abbrev pub Disjoint : List PlaceValue → Type 0
Disjoint [] = Unit {0}
Disjoint (p ∷ ps) = AllByRecursion (Misses p) ps × Disjoint ps

-- The places may be released: each is held by s outside the pools, and no two overlap. (Assembler Services Reference,
-- FREEMAIN; that overlapping members are refused is this project's choice)
abbrev pub Releasable : State → ℕ → List PlaceValue → Type 0
Releasable st s ps = AllByRecursion (HeldPlain st s) ps × Disjoint ps

-- The places are free now, their bytes are gone, and all else is as before. (Assembler Services Reference, FREEMAIN)
pub record Frees (old : State) (ps : List PlaceValue) (new : State) : Type 0 where
  pub regions : new.regions ≡ old.regions
  pub held : Changes (get old.held) (any_covers ps) None (get new.held)
  pub bytes : Changes (get old.bytes) (any_has ps) None (get new.bytes)
  pub owners : new.owners ≡ old.owners
  pub pools : new.pools ≡ old.pools

-- What the subpools that pass the test hold is free now, and their pools are gone, with the bytes that then cannot be
-- read any more.
pub record Drops (old : State) (test : ℕ → Bool) (new : State) : Type 0 where
  pub regions : new.regions ≡ old.regions
  pub held : Keeps (get old.held) (λ _ h. not (test h.subpool)) (get new.held)
  pub pools : Keeps (get old.pools) (λ _ p. not (test p.subpool)) (get new.pools)
  pub bytes : Keeps (get old.bytes) (λ a _. granted new a) (get new.bytes)

-- The whole of a subpool is released; the subpool stays, empty. (Assembler Services Reference, FREEMAIN, subpool release)
pub record Empties (old : State) (s : ℕ) (new : State) : Type 0 where
  pub drops : Drops old (λ u. u == s) new
  pub owners : new.owners ≡ old.owners

-- The task ends with its descendants, and what they own is freed. (Assembler Services Guide, owning and sharing subpools)
pub record End (old : State) (t : Name) (new : State) : Type 0 where
  pub fallen : List Name
  pub is_fallen : AreDescendants old.owners t fallen
  pub drops : Drops old (ends_with old.owners t fallen) new
  pub owners : Ends old.owners t fallen new.owners

-- the pool with a further part
abbrev pub with_part : Pool → ℕ → PlaceValue → Pool
with_part pool count p = record pool { parts = pool.parts ++ record { place = p; count = count } ∷ [] }

-- A part with this number of cells is added to the pool: its doublewords are now held for the pool, the bytes do not change, and
-- these are the owners. (Assembler Services Reference, CPOOL)
pub record Extends (old : State) (name : Name) (pool : Pool) (count : ℕ) (p : PlaceValue) (owners : Owners) (new : State) : Type 0 where
  pub chosen : Chosen old.regions (holder old) pool.subpool (part_want pool.cell_size count pool.side) p
  pub regions : new.regions ≡ old.regions
  pub held : Changes (get old.held) (covers p) (Some (pooled pool.subpool)) (get new.held)
  pub bytes : new.bytes ≡ old.bytes
  pub owners_are : new.owners ≡ owners
  pub pools : Changes (get old.pools) (λ n. same_name n name) (Some (with_part pool count p)) (get new.pools)

-- A cell of the pool is taken: its bytes are the fill byte, and all else is as before. (Assembler Services Reference, CPOOL
-- GET; the fill byte is this project's choice)
pub record TakesCell (old : State) (name : Name) (pool : Pool) (c : ℕ) (new : State) : Type 0 where
  pub regions : new.regions ≡ old.regions
  pub held : new.held ≡ old.held
  pub bytes : Changes (get old.bytes) (has_address (cell_at pool c)) (Some old.regions.fill) (get new.bytes)
  pub owners : new.owners ≡ old.owners
  pub pools : Changes (get old.pools) (λ n. same_name n name) (Some (record pool { taken = set.insert pool.taken c })) (get new.pools)

-- A taken cell of the pool is given back: its bytes go, and all else is as before. (Assembler Services Reference, CPOOL FREE)
pub record GivesCell (old : State) (name : Name) (pool : Pool) (c : ℕ) (new : State) : Type 0 where
  pub regions : new.regions ≡ old.regions
  pub held : new.held ≡ old.held
  pub bytes : Changes (get old.bytes) (has_address (cell_at pool c)) None (get new.bytes)
  pub owners : new.owners ≡ old.owners
  pub pools : Changes (get old.pools) (λ n. same_name n name) (Some (record pool { taken = set.remove pool.taken c })) (get new.pools)

-- The pool is deleted: its parts are free, the bytes of its taken cells are removed, and nothing else has changed. (Assembler
-- Services Reference, CPOOL DELETE)
pub record DropsPool (old : State) (name : Name) (pool : Pool) (new : State) : Type 0 where
  pub regions : new.regions ≡ old.regions
  pub held : Changes (get old.held) (in_parts pool) None (get new.held)
  pub bytes : Changes (get old.bytes) (in_taken pool) None (get new.bytes)
  pub owners : new.owners ≡ old.owners
  pub pools : Changes (get old.pools) (λ n. same_name n name) None (get new.pools)

-- each byte of the place may be read and written
abbrev pub Granted : State → PlaceValue → Type 0
Granted st p = (a : ℕ) → p.addr ≤ a → a < p.addr + p.len → granted st a ≡ true

-- The bytes of the place are now others, and all else is as before.
pub record Writes (old : State) (p : PlaceValue) (value : ℕ → Option ℕ) (new : State) : Type 0 where
  pub regions : new.regions ≡ old.regions
  pub held : new.held ≡ old.held
  pub bytes : (a : ℕ) → get new.bytes a ≡ (if has_address p a then value a else get old.bytes a)
  pub owners : new.owners ≡ old.owners
  pub pools : new.pools ≡ old.pools
