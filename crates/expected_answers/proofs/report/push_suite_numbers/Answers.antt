use Rattle.std.proofs.Common.{◌++◌, ◌∙◌, ap, codes, decimal}
use Rattle.expected_answers.specs.Reports.{failures, tests}
use Rattle.line_text.proofs.Appending.{trailing}
use Rattle.expected_answers.proofs.report.push_suite_numbers.Goals as goal

pub returns : goal.returns
returns c =
    trailing c.args.report.now.items c.push.new.report.items c.push-3.new.report.items (codes "\" tests=\"") ((decimal (tests c.args.counts.now)) ++ ((codes "\" failures=\"") ++ ((decimal (failures c.args.counts.now)) ++ (codes "\">\n")))) c.in_ok-push.ensures
    (trailing c.push.new.report.items c.push_number.new.report.items c.push-3.new.report.items (decimal (tests c.args.counts.now)) ((codes "\" failures=\"") ++ ((decimal (failures c.args.counts.now)) ++ (codes "\">\n"))) (c.in_ok-push_number.ensures ∙ ap (λ x. c.push.new.report.items ++ decimal x) c.tests.ensures)
    (trailing c.push_number.new.report.items c.push-2.new.report.items c.push-3.new.report.items (codes "\" failures=\"") ((decimal (failures c.args.counts.now)) ++ (codes "\">\n")) c.in_ok-push-2.ensures
    (trailing c.push-2.new.report.items c.push_number-2.new.report.items c.push-3.new.report.items (decimal (failures c.args.counts.now)) (codes "\">\n") (c.in_ok-push_number-2.ensures ∙ ap (λ x. c.push-2.new.report.items ++ decimal x) c.failures.ensures)
    c.in_ok-push-3.ensures)))
