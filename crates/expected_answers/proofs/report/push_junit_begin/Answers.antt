use Rattle.std.proofs.Common.{◌++◌, ◌∙◌, ap, codes, decimal}
use Rattle.expected_answers.specs.Reports.{label_of}
use Rattle.line_text.proofs.Appending.{trailing}
use Rattle.expected_answers.proofs.report.push_junit_begin.Goals as goal

pub returns : goal.returns
returns c =
    trailing c.args.report.now.items c.push.new.report.items c.push_label.new.report.items (codes "<testcase classname=\"") (c.args.name.now ++ ((codes "\" name=\"") ++ (label_of c.args.line))) c.in_ok-push.ensures
    (trailing c.push.new.report.items c.push-2.new.report.items c.push_label.new.report.items c.args.name.now ((codes "\" name=\"") ++ (label_of c.args.line)) c.in_ok-push-2.ensures
    (trailing c.push-2.new.report.items c.push-3.new.report.items c.push_label.new.report.items (codes "\" name=\"") (label_of c.args.line) c.in_ok-push-3.ensures
    c.in_ok-push_label.ensures))
