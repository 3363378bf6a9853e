use Rattle.std.proofs.Common.{◌≡◌, true, false, sym, ◌∙◌}
use Rattle.slab.specs.Slab.{get}
use Rattle.task_owner.proofs.Collecting.{nothing_lost}
use Rattle.task_owner.proofs.freed.drop_entries.Goals as goal

pub returns-then-not-is_held-clause-each : goal.returns-then-not-is_held-clause-each
returns-then-not-is_held-clause-each c = λ k. nothing_lost c.args.number c.args.subpool (get c.args.active.now k)
    (λ x found has. let f : false ≡ true = sym c.if-not-is_held.true ∙ c.is_held.ensures.1 (k, x, found, has) in cc)
