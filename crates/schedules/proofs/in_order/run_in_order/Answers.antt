use Rattle.std.proofs.Common.{map, subst, sym}
use Rattle.std.specs.List.{AllByRecursion}
use Rattle.mvs_model.specs.Lines.{IsUnended}
use Rattle.schedules.proofs.Reordered.{all_unended}
use Rattle.schedules.proofs.in_order.run_in_order.Goals as goal

pub run_numbers-requires-clause-unended : goal.run_numbers-requires-clause-unended
run_numbers-requires-clause-unended g c =
    let ordered = c.args.ordered.now in
    subst (λ x. AllByRecursion IsUnended (map (λ l. l.now) x)) (sym c.deref.ensures.value) (all_unended (map (λ l. l.now) ordered.lines.items) ordered.unended)
