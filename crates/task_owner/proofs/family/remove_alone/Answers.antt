use Rattle.std.proofs.Common.{◌||◌, [], ap, ◌∙◌}
use Rattle.mvs_model.specs.Storage.{is_one_of}
use Rattle.task_owner.specs.Seats.{item_at}
use Rattle.task_owner.specs.Family.{is_of}
use Rattle.task_owner.proofs.family.remove_alone.Goals as goal
use Rattle.task_owner.proofs.Families.{falls_first, closed_alone}
use Rattle.task_owner.proofs.Collecting.{freed_more, none_freed}

pub returns : goal.returns
returns c = record {
  falls = λ x h. falls_first _ _ x c.requires.distinct h _ [] (λ _. []) c.remove.ensures.updates c.remove.ensures.len c.remove.ensures.capacity;
  closed = closed_alone c.args.active.now c.remove.new.self c.args.t c.requires.mothers c.requires.alone c.remove.ensures.updates;
  freed = freed_more c.args.active.now c.remove.new.self c.args.owned.now c.args.t [] c.collect_owned.new.freed c.remove.ensures.updates.changed c.remove.ensures.updates.others
      (none_freed c.args.active.now c.args.owned.now c.requires.owners)
      (λ s. c.collect_owned.ensures.members s ∙ ap (λ xs. is_of c.args.t (item_at c.args.owned.now s) || is_one_of xs s) c.requires.none);
}
