use Rattle.std.proofs.Common.{◌++◌, ◌∙◌, ap, codes, decimal}
use Rattle.expected_answers.specs.Reports.{escaped}
use Rattle.line_text.proofs.Appending.{trailing}
use Rattle.expected_answers.proofs.report.push_junit_message.Goals as goal

pub returns : goal.returns
returns c =
    trailing c.args.report.now.items c.push.new.report.items c.push-2.new.report.items (codes "\"><failure message=\"") ((escaped c.args.message.now) ++ (codes "\"/></testcase>\n")) c.in_ok-push.ensures
    (trailing c.push.new.report.items c.push_escaped.new.report.items c.push-2.new.report.items (escaped c.args.message.now) (codes "\"/></testcase>\n") c.in_ok-push_escaped.ensures
    c.in_ok-push-2.ensures)
