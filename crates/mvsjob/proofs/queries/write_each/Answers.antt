use Rattle.std.proofs.Common.{[], ◌∙◌}
use Rattle.std.proofs.lemmas.Result.{err_from_is_err_and}
use Rattle.line_text.proofs.Appending.{lines_more, lines_front}
use Rattle.mvsjob.specs.Queries.{question}
use Rattle.mvsjob.proofs.queries.write_each.Goals as goal

pub returns-in_err-write_question : goal.returns-in_err-write_question
returns-in_err-write_question g c =
    let p = err_from_is_err_and c.from_residual.result c.from_residual.ensures.1 in
    rw (p.1) (record {
      bytes = lines_front (question c.args.task.now) [] c.args.names.now _ _ _ c.loop-name.name-index c.name-item.result c.loop-name-test.true c.name-item.is c.loop-name.invariant.so_far c.in_err-write_question.ensures.bytes;
      ok = tt;
      err = c.in_err-write_question.ensures.err;
    })

pub loop-name-preserved : goal.loop-name-preserved
loop-name-preserved g c = record {
  so_far = lines_more (question c.args.task.now) [] c.args.names.now _ _ _ c.loop-name.name-index c.name-item.result c.loop-name-test.true c.name-item.is c.loop-name.invariant.so_far c.in_ok-write_question.ensures.bytes;
  same = c.in_ok-write_question.ensures.ok ∙ c.loop-name.invariant.same;
}
