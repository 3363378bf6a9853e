use Rattle.std.proofs.Common.{◌++◌, ◌∙◌, ap, codes, decimal}
use Rattle.expected_answers.specs.Reports.{suite_numbers}
use Rattle.line_text.proofs.Appending.{trailing}
use Rattle.expected_answers.proofs.report.push_suite.Goals as goal

pub returns : goal.returns
returns c =
    trailing c.args.report.now.items c.push.new.report.items c.push_suite_numbers.new.report.items (codes "<?xml version=\"1.0\" encoding=\"UTF-8\"?>\n<testsuites>\n<testsuite name=\"") (c.args.name.now ++ (suite_numbers c.args.counts.now)) c.in_ok-push.ensures
    (trailing c.push.new.report.items c.push-2.new.report.items c.push_suite_numbers.new.report.items c.args.name.now (suite_numbers c.args.counts.now) c.in_ok-push-2.ensures
    c.in_ok-push_suite_numbers.ensures)
