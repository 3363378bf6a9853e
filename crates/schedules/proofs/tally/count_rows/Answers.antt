use Rattle.std.proofs.Common.{◌∙◌, ap, sym}
use Rattle.std.specs.Prelude.{slice_set}
use Rattle.std.proofs.lemmas.List.Edits.{map_over_more}
use Rattle.schedules.specs.Tallies.{counted}
use Rattle.schedules.proofs.tally.count_rows.Goals as goal

pub loop-row-preserved : goal.loop-row-preserved
loop-row-preserved c =
    let rows = c.loop-row.rows in
    let i = c.loop-row.row-index in
    ap (slice_set rows i) c.count_row.ensures
    ∙ ap (λ x. slice_set rows i (counted c.args.schedule.now x)) (sym c.row-item.is)
    ∙ map_over_more (counted c.args.schedule.now) c.args.rows.now rows i c.row-item.result c.loop-row-test.true c.loop-row.invariant c.row-item.is
