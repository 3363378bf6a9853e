use Rattle.std.proofs.Common.{ap, ◌∙◌}
use Rattle.std.specs.Prelude.{filter}
use Rattle.mvs_model.specs.Lines.{lines_of}
use Rattle.expected_answers.specs.ExpectedAnswers.{ends_step, last_or}
use Rattle.language_server.proofs.Noting.{last_more}
use Rattle.language_server.proofs.differences.last_of.Goals as goal

pub loop-output-preserved : goal.loop-output-preserved
loop-output-preserved c =
    last_more c.args.outputs.now c.output-item.result c.loop-output.output-index c.loop-output.last.now c.last_end-last.result.now c.loop-output-test.true c.output-item.is
    (c.last_end-last.ensures ∙ ap (λ l. last_or c.loop-output.last.now (filter ends_step (lines_of l))) c.others.ensures)
    ∙ c.loop-output.invariant
