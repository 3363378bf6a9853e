use Rattle.std.proofs.Common.{◌++◌, ◌∙◌, ap, codes, decimal}
use Rattle.expected_answers.specs.Reports.{tests}
use Rattle.line_text.proofs.Appending.{trailing}
use Rattle.expected_answers.proofs.report.push_plan.Goals as goal

pub returns : goal.returns
returns c =
    trailing c.args.report.now.items c.push.new.report.items c.push-2.new.report.items (codes "TAP version 13\n1..") ((decimal (tests c.args.counts.now)) ++ (codes "\n")) c.in_ok-push.ensures
    (trailing c.push.new.report.items c.push_number.new.report.items c.push-2.new.report.items (decimal (tests c.args.counts.now)) (codes "\n") (c.in_ok-push_number.ensures ∙ ap (λ x. c.push.new.report.items ++ decimal x) c.tests.ensures)
    c.in_ok-push-2.ensures)
