use Rattle.std.proofs.Common.{◌++◌, ◌∙◌, ap, codes}
use Rattle.std.specs.Prelude.{decimal}
use Rattle.schedules.specs.Reports.{shown}
use Rattle.schedules.proofs.Joined.{four}
use Rattle.schedules.proofs.json.push_count.Goals as goal

pub returns : goal.returns
returns c =
    let line = c.args.line.now in
    let row = c.args.row.now in
    four c.push_number.result c.args.report.now.items c.push.new.report.items c.push_answer.new.report.items c.push-2.new.report.items c.push_number.new.report.items (codes "{\"text\":\"") (shown line row.answer.text) (codes "\",\"schedules\":") (decimal row.count) c.in_ok-push.ensures (c.in_ok-push_answer.ensures ∙ ap (λ t. c.push.new.report.items ++ shown line t) c.text.ensures) c.in_ok-push-2.ensures c.push_number.ensures
