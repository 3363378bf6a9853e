use Rattle.std.proofs.Common.{◌++◌, ◌∙◌, ap, codes, decimal}
use Rattle.expected_answers.specs.Reports.{label_of}
use Rattle.line_text.proofs.Appending.{trailing}
use Rattle.expected_answers.proofs.report.push_tap_line.Goals as goal

pub returns : goal.returns
returns c =
    trailing c.args.report.now.items c.push.new.report.items c.push_label.new.report.items c.args.passed.now ((decimal c.args.case.index) ++ ((codes " - ") ++ (label_of c.args.case.line))) c.in_ok-push.ensures
    (trailing c.push.new.report.items c.push_number.new.report.items c.push_label.new.report.items (decimal c.args.case.index) ((codes " - ") ++ (label_of c.args.case.line)) c.in_ok-push_number.ensures
    (trailing c.push_number.new.report.items c.push-2.new.report.items c.push_label.new.report.items (codes " - ") (label_of c.args.case.line) c.in_ok-push-2.ensures
    c.in_ok-push_label.ensures))
