use Rattle.std.proofs.Common.{◌≡◌, ◌||◌, Some, ◌++◌, ◌∷◌, [], ap, sym, ◌∙◌}
use Rattle.mvs_model.specs.Storage.{is_one_of}
use Rattle.task_owner.specs.Seats.{item_at}
use Rattle.task_owner.specs.Family.{is_of}
use Rattle.task_owner.specs.declared.task_slot.TaskSlot.{TaskSlot}
use Rattle.task_owner.proofs.family.remove_family.Goals as goal
use Rattle.task_owner.proofs.Families.{falls_first, falls_more}
use Rattle.task_owner.proofs.Collecting.{freed_more, none_freed, nothing_rises}

pub family-init : goal.family-init
family-init c = record {
  falls = λ x h. falls_first _ _ x c.requires.distinct h _ _ c.empty-names.ensures c.remove.ensures.updates c.remove.ensures.len c.remove.ensures.capacity;
  freed = freed_more c.args.active.now c.remove.new.self c.args.owned.now c.args.t [] c.collect_owned.new.freed c.remove.ensures.updates.changed c.remove.ensures.updates.others
      (none_freed c.args.active.now c.args.owned.now c.requires.owners)
      (λ s. c.collect_owned.ensures.members s ∙ ap (λ xs. is_of c.args.t (item_at c.args.owned.now s) || is_one_of xs s) c.requires.none);
  rising = c.collect_owned.ensures.rising (nothing_rises _ c.requires.none);
}

pub family-preserved : goal.family-preserved
family-preserved c = record {
  falls = λ x h.
      let o = c.in-Some.ensures in
      let found : Some c.remove-in-Some.result ≡ Some o.1 = sym c.remove-in-Some.ensures.value ∙ o.2 in
      let same : c.remove-in-Some.result ≡ o.1 = cc in
      falls_more _ _ x c.requires.distinct h c.requires.mothers c.family.active c.remove-in-Some.new.self c.family.names c.in-Some.key o.0 o.1 (c.family.invariant.falls x h) o.2 o.3 o.4 c.remove-in-Some.ensures.updates
      _ (c.push.ensures ∙ ap (λ (y : TaskSlot). c.family.names ++ y.name ∷ []) same) c.remove-in-Some.ensures.len c.remove-in-Some.ensures.capacity;
  freed = freed_more c.family.active c.remove-in-Some.new.self c.args.owned.now c.in-Some.key c.family.freed c.collect_owned-in-Some.new.freed c.remove-in-Some.ensures.updates.changed c.remove-in-Some.ensures.updates.others
      c.family.invariant.freed c.collect_owned-in-Some.ensures.members;
  rising = c.collect_owned-in-Some.ensures.rising c.family.invariant.rising;
}
