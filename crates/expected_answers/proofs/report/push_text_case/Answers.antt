use Rattle.std.proofs.Common.{◌++◌, ◌∙◌, ap, codes, decimal}
use Rattle.expected_answers.specs.Reports.{place_of}
use Rattle.line_text.proofs.Appending.{trailing}
use Rattle.expected_answers.proofs.report.push_text_case.Goals as goal

pub returns : goal.returns
returns c =
    trailing c.args.report.now.items c.push.new.report.items c.push-4.new.report.items c.args.name.now ((place_of c.args.line) ++ ((codes ": ") ++ (c.args.message.now ++ (codes "\n")))) c.in_ok-push.ensures
    (trailing c.push.new.report.items c.push_place.new.report.items c.push-4.new.report.items (place_of c.args.line) ((codes ": ") ++ (c.args.message.now ++ (codes "\n"))) c.in_ok-push_place.ensures
    (trailing c.push_place.new.report.items c.push-2.new.report.items c.push-4.new.report.items (codes ": ") (c.args.message.now ++ (codes "\n")) c.in_ok-push-2.ensures
    (trailing c.push-2.new.report.items c.push-3.new.report.items c.push-4.new.report.items c.args.message.now (codes "\n") c.in_ok-push-3.ensures
    c.in_ok-push-4.ensures)))
