use Rattle.std.proofs.Common.{◌≡◌, ◌+◌, ◌-◌, ◌<◌, ◌≤◌, ◌^◌, ◌++◌, length}
use Rattle.mvs_model.specs.Lines.{lines_of}
use Rattle.expected_answers.specs.ExpectedAnswers.{expected_answers}
use Rattle.expected_answers.specs.Reports.{cases_from, counted, total}
use Rattle.expected_answers.proofs.report.push_rest.Given as goal

abbrev pub invariant-answers : goal.invariant-answers
invariant-answers l = record {
  room : l.answers.number + length l.answers.script.now < 2 ^ 32;
  few : l.index ≤ l.answers.number;
  fewer : total l.counts < l.answers.number;
  text : l.report.items ++ cases_from l.form.format l.form.is_hidden l.name l.index (expected_answers l.answers.number (lines_of l.answers.script.now) (lines_of l.answers.printed.now))
      ≡ l.initial.report.items ++ cases_from l.form.format l.form.is_hidden l.name 2 (expected_answers l.initial.answers.number (lines_of l.initial.answers.script.now) (lines_of l.initial.answers.printed.now));
  same : counted l.counts (expected_answers l.answers.number (lines_of l.answers.script.now) (lines_of l.answers.printed.now))
      ≡ counted l.fn.first (expected_answers l.initial.answers.number (lines_of l.initial.answers.script.now) (lines_of l.initial.answers.printed.now));
}

abbrev pub decreases-answers : goal.decreases-answers
decreases-answers l = 4294967296 - l.answers.number
