-- A mother first gets what she shares, and then the subtask is admitted.
use Rattle.std.proofs.Common.{◌≡◌, ℕ, ◌<◌, false, [], Some, is_some, unwrap_or, sym, ap, subst, ◌∙◌}
use Rattle.std.specs.FinMap.{get, len}
use Rattle.mvs_model.specs.declared.name.Name.{Name}
use Rattle.mvs_model.specs.declared.want.Residence.{Residence}
use Rattle.mvs_model.specs.Name.{same_name}
use Rattle.mvs_model.specs.Gifts.{GiftsValue, shares}
use Rattle.mvs_model.specs.Finite.{Changes}
use Rattle.mvs_model.specs.Owners.{Owners, is_active, gives_shared, Attach}
use Rattle.task_owner.specs.Tasks.{TasksValue, name_of}
use Rattle.task_owner.specs.Handing.{SharesBelow, Admits}
use Rattle.mvs_model.specs.Causes.{Passed, attach_causes}
use Rattle.std.proofs.lemmas.Bool.{leb-false}
use Rattle.task_owner.proofs.Entering.{same_tasks, still_owned}

module _ (old now : TasksValue) (mother : ℕ) (name : Name) (gifts : GiftsValue) (made : SharesBelow old mother gifts 128 now) where
  same_mother : name_of now mother ≡ name_of old mother
  same_mother = ap (λ o. unwrap_or o []) (made.names mother)

  tasks_are : now.owners.tasks ≡ old.owners.tasks
  tasks_are = same_tasks (name_of old mother) (shares gifts) old.owners now.owners 128 made.made

  module _ (passed : Passed (attach_causes old.owners (name_of old mother) name gifts)) where
    ok : (is_active old.owners name ≡ false) × (len old.owners.tasks < 32) × (gives_shared old.owners (name_of old mother) gifts ≡ false)
    ok = (passed.0, leb-false 32 (len old.owners.tasks) passed.1.0, passed.1.1.0)

    pub still_new : is_active now.owners name ≡ false
    still_new = ap (λ tasks. is_some (get tasks name)) tasks_are ∙ ok.0

    pub still_room : len now.owners.tasks < 32
    still_room = subst (λ tasks. len tasks < 32) (sym tasks_are) ok.1

    pub still_given : gives_shared now.owners (name_of now mother) gifts ≡ false
    still_given = ap (λ t. gives_shared now.owners t gifts) same_mother ∙ still_owned (name_of old mother) gifts (shares gifts) old.owners now.owners 128 made.made ok.2

  pub attaches : (residence : Residence) (new : Owners) → Admits now.owners (name_of now mother) name gifts residence new → Attach old.owners (name_of old mother) name gifts residence new
  attaches residence new a = by (subst (λ t. Admits now.owners t name gifts residence new) same_mother a) where
    by : Admits now.owners (name_of old mother) name gifts residence new → Attach old.owners (name_of old mother) name gifts residence new
    by r = record {
      ready = now.owners;
      made = made.made;
      tasks = subst (λ tasks. Changes (get tasks) (same_name name) (Some (record { mother = Some (name_of old mother); residence = residence })) (get new.tasks)) tasks_are r.tasks;
      table = r.table;
      owner = r.owner;
    }
