use Rattle.std.proofs.Common.{◌++◌, ◌∙◌, ap, codes, decimal}
use Rattle.line_text.proofs.Appending.{trailing}
use Rattle.expected_answers.proofs.report.push_tap_message.Goals as goal

pub returns : goal.returns
returns c =
    trailing c.args.report.now.items c.push.new.report.items c.push-3.new.report.items (codes "\n  ---\n  message: |\n    ") (c.args.message.now ++ (codes "\n  ...\n")) c.in_ok-push.ensures
    (trailing c.push.new.report.items c.push-2.new.report.items c.push-3.new.report.items c.args.message.now (codes "\n  ...\n") c.in_ok-push-2.ensures
    c.in_ok-push-3.ensures)
