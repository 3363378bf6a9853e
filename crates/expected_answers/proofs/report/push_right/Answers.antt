use Rattle.std.proofs.Common.{◌++◌, ◌∙◌, ap, codes, decimal}
use Rattle.expected_answers.specs.Reports.{total}
use Rattle.line_text.proofs.Appending.{trailing}
use Rattle.expected_answers.proofs.report.push_right.Goals as goal

pub returns : goal.returns
returns c =
    trailing c.args.report.now.items c.push_number.new.report.items c.push-2.new.report.items (decimal c.args.counts.now.right) ((codes " of ") ++ ((decimal (total c.args.counts.now)) ++ (codes " right, "))) c.in_ok-push_number.ensures
    (trailing c.push_number.new.report.items c.push.new.report.items c.push-2.new.report.items (codes " of ") ((decimal (total c.args.counts.now)) ++ (codes " right, ")) c.in_ok-push.ensures
    (trailing c.push.new.report.items c.push_number-2.new.report.items c.push-2.new.report.items (decimal (total c.args.counts.now)) (codes " right, ") (c.in_ok-push_number-2.ensures ∙ ap (λ x. c.push.new.report.items ++ decimal x) c.total.ensures)
    c.in_ok-push-2.ensures))
