use Rattle.std.proofs.Common.{[], ◌∙◌}
use Rattle.std.proofs.lemmas.Result.{err_from_is_err_and}
use Rattle.explanation.specs.FactTexts.{fact_line}
use Rattle.line_text.proofs.Appending.{lines_more, lines_front}
use Rattle.mvs_job.proofs.granting.print_facts.Goals as goal

pub returns-in_err-print_fact : goal.returns-in_err-print_fact
returns-in_err-print_fact g c =
    let p = err_from_is_err_and c.from_residual.result c.from_residual.ensures.1 in
    rw (p.1) (record { bytes = lines_front fact_line [] c.args.facts.now _ _ _ c.loop-fact.fact-index c.fact-item.result c.loop-fact-test.true c.fact-item.is c.loop-fact.invariant.so_far c.in_err-print_fact.ensures.bytes; ok = tt; err = c.in_err-print_fact.ensures.err })

pub loop-fact-preserved : goal.loop-fact-preserved
loop-fact-preserved g c = record {
  so_far = lines_more fact_line [] c.args.facts.now _ _ _ c.loop-fact.fact-index c.fact-item.result c.loop-fact-test.true c.fact-item.is c.loop-fact.invariant.so_far c.in_ok-print_fact.ensures.bytes;
  same = c.in_ok-print_fact.ensures.ok ∙ c.loop-fact.invariant.same;
}
