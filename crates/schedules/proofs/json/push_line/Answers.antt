use Rattle.std.proofs.Common.{◌≡◌, ◌++◌, codes, subst, sym, true}
use Rattle.std.specs.Prelude.{OnOk}
use Rattle.schedules.specs.JsonReports.{head_json, line_json, rows_json}
use Rattle.schedules.proofs.Joined.{four}
use Rattle.schedules.proofs.json.push_line.Goals as goal

pub returns : goal.returns
returns c =
    let line = c.args.line.now in
    let step = c.in-Some.step.now in
    let old = c.args.report.now.items in
    subst (λ o. OnOk c.push-2.result (c.push-2.new.report.items ≡ old ++ line_json line o)) (sym c.in-Some.ensures)
    (four c.push-2.result old c.push_head.new.report.items c.push.new.report.items c.push_rows.new.report.items c.push-2.new.report.items (head_json line) (codes "\",\"answers\":[") (rows_json line step true step.tally.rows.items) (codes "]}\n") c.in_ok-push_head.ensures c.in_ok-push.ensures c.in_ok-push_rows.ensures c.push-2.ensures)
