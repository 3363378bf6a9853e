-- The end of a task, over a store and the owners.
use Rattle.std.proofs.Common.{◌≡◌, ℕ, ◌/◌, true, false, cond, List, [], Option, None, refl, sym, ap, subst, not, ◌↔◌, Contains, arith}
use Rattle.std.specs.FinMap.{FinMap, get}
use Rattle.std.proofs.lemmas.Grind.{common_steps}
use Rattle.mvs_model.proofs.Types.{Name, Code, Abended}
use Rattle.mvs_model.specs.Name.{name_cmp}
use Rattle.mvs_model.specs.Finite.{Keeps, kept, has}
use Rattle.mvs_model.specs.Storage.{Storage, holder as held_by, IsStorage, is_one_of, ReleaseEach}
use Rattle.mvs_model.specs.Owners.{Owners, AreDescendants, ends_with, Ends}
use Rattle.mvs_model.specs.Pools.{Pool}
use Rattle.mvs_model.specs.View.{state_of}
use Rattle.mvs_model.specs.Changes.{End, Drops}
use Rattle.mvs_model.specs.Consequences.{Abends}
use Rattle.mvs_model.proofs.Elements.{one_of_contained, contained_one_of}
use Rattle.mvs_model.proofs.SeenRelease.{drops_seen}
use Rattle.mvs_model.proofs.Stand.{Stand}
use Rattle.mvs_model.proofs.Tests.{same_test}

-- no subpool is released at first
kept_all : {X : Type 0} (v : Option X) → v ≡ kept (λ _. true) v
kept_all v = grind (arith, common_steps)

has_none : {X : Type 0} (v : Option X) → has (λ _. false) v ≡ false
has_none v = grind (arith, common_steps)

pub releases_none : (st : Storage) → ReleaseEach st [] st
releases_none st = record { regions = refl; held = λ d. kept_all (get st.held d); bytes = λ a. ap (λ b. cond b None (get st.bytes a)) (sym (has_none (held_by st (a / 8)))) }

-- the same of the pools of the subpools
pub keeps_none : (f : Name → Option Pool) → Keeps f (λ _ p. not (is_one_of [] p.subpool)) f
keeps_none f name = kept_all (f name)

-- the end of a task, whose subpools and those of its descendants were released with their pools
module _ (st new : Storage) (o after : Owners) (pools fewer : FinMap name_cmp Pool) (t : Name) (fallen : List Name) (freed : List ℕ) (is : IsStorage st) (now : IsStorage new) (stand : Stand st pools) (stands : Stand new fewer)
    (is_fallen : AreDescendants o t fallen) (ends : Ends o t fallen after) (frees : (s : ℕ) → Contains freed s ↔ (ends_with o t fallen s ≡ true)) (each : ReleaseEach st freed new)
    (less : Keeps (get pools) (λ _ p. not (is_one_of freed p.subpool)) (get fewer)) where
  freed_is : is_one_of freed ≡ ends_with o t fallen
  freed_is = λ i s. same_test _ _ (λ e. (frees s).0 (contained_one_of freed s e)) (λ e. one_of_contained freed s ((frees s).1 e)) i

  pub end_seen : End (state_of st o pools) t (state_of new after fewer)
  end_seen = record {
    fallen = fallen;
    is_fallen = is_fallen;
    drops = subst (λ test. Drops (state_of st o pools) test (state_of new after fewer)) freed_is (drops_seen st new o after pools fewer (is_one_of freed) is now stand stands each.held each.bytes less each.regions);
    owners = ends;
  }

  -- an abend of a task
  pub abends_seen : (code : Code) → Abends (state_of st o pools) t code (Abended code fallen) (state_of new after fewer)
  unfolding end_seen
  abends_seen code = (end_seen, refl)
