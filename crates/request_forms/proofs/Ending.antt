-- A task's end, from what the tasks, the store and the pools leave.
use Rattle.std.proofs.Common.{◌≡◌, ℕ, List, [], Option, Some, ap, subst}
use Rattle.std.specs.Prelude.{not, ◌↔◌, true}
use Rattle.std.specs.List.{Contains}
use Rattle.std.specs.Option.{unwrap_or}
use Rattle.std.specs.FinMap.{FinMap, get}
use Rattle.mvs_model.specs.declared.name.Name.{Name}
use Rattle.mvs_model.specs.declared.code.Code.TheVariants.{User}
use Rattle.mvs_model.specs.declared.request.Reply.TheVariants.{Abended}
use Rattle.mvs_model.specs.Name.{name_cmp}
use Rattle.mvs_model.specs.Finite.{Keeps}
use Rattle.mvs_model.specs.Changes.{End}
use Rattle.mvs_model.specs.Owners.{Owners, AreDescendants, Ends, ends_with}
use Rattle.mvs_model.specs.Consequences.{Abends}
use Rattle.mvs_model.specs.Storage.{Storage, ReleaseEach, is_one_of}
use Rattle.mvs_model.proofs.SeenEnd.{abends_seen}
use Rattle.cell_pool.specs.Agree.{Agree}
use Rattle.cell_pool.specs.Roots.{Root, pools_of}
use Rattle.task_owner.specs.Tasks.{TasksValue, name_at, name_of}
use Rattle.request_forms.specs.Machine.{machine_state}
use Rattle.request_forms.proofs.Pooling.{stands}

-- the name of a task that was found by its name
pub found_name : (d : TasksValue) (t : ℕ) (name : Name) → name_at d t ≡ Some name → name_of d t ≡ name
found_name d t name e = ap (λ (v : Option Name). unwrap_or v []) e

module _ (roots fewer : FinMap name_cmp Root) (st new : Storage) (agree : Agree roots st) (after_agree : Agree fewer new) (o after : Owners) (t : Name) (fallen : List Name) (freed : List ℕ)
    (released : ReleaseEach st freed new) (gone : Keeps (get (pools_of roots st)) (λ _ p. not (is_one_of freed p.subpool)) (get (pools_of fewer new))) where
  pub ends_state : (name : Name) → name ≡ t → AreDescendants o name fallen → Ends o name fallen after → ((s : ℕ) → Contains freed s ↔ (ends_with o name fallen s ≡ true))
      → (e : End (machine_state roots st o) t (machine_state fewer new after)) × (fallen ≡ e.fallen)
  ends_state name is falls ends listed =
      let abends : Abends (machine_state roots st o) t (User 0) (Abended (User 0) fallen) (machine_state fewer new after) =
      abends_seen st new o after (pools_of roots st) (pools_of fewer new) _ _ _ agree.parts.storage after_agree.parts.storage (stands roots st o agree) (stands fewer new after after_agree)
      (subst (λ n. AreDescendants o n fallen) is falls) (subst (λ n. Ends o n fallen after) is ends) (subst (λ n. (s : ℕ) → Contains freed s ↔ (ends_with o n fallen s ≡ true)) is listed) released gone (User 0) in
      let same : Abended (User 0) fallen ≡ Abended (User 0) abends.0.fallen = abends.1 in (abends.0, cc)
