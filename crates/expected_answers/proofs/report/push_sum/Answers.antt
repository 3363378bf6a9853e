use Rattle.std.proofs.Common.{◌++◌, ◌∙◌, ap, codes, decimal}
use Rattle.expected_answers.specs.Reports.{right_of}
use Rattle.line_text.proofs.Appending.{trailing}
use Rattle.expected_answers.proofs.report.push_sum.Goals as goal

pub returns : goal.returns
returns c =
    trailing c.args.report.now.items c.push_right.new.report.items c.push-2.new.report.items (right_of c.args.counts.now) ((decimal c.args.counts.now.wrong) ++ ((codes " wrong, ") ++ ((decimal c.args.counts.now.missing) ++ (codes " not answered\n")))) c.in_ok-push_right.ensures
    (trailing c.push_right.new.report.items c.push_number.new.report.items c.push-2.new.report.items (decimal c.args.counts.now.wrong) ((codes " wrong, ") ++ ((decimal c.args.counts.now.missing) ++ (codes " not answered\n"))) c.in_ok-push_number.ensures
    (trailing c.push_number.new.report.items c.push.new.report.items c.push-2.new.report.items (codes " wrong, ") ((decimal c.args.counts.now.missing) ++ (codes " not answered\n")) c.in_ok-push.ensures
    (trailing c.push.new.report.items c.push_number-2.new.report.items c.push-2.new.report.items (decimal c.args.counts.now.missing) (codes " not answered\n") c.in_ok-push_number-2.ensures
    c.in_ok-push-2.ensures)))
