use Rattle.std.proofs.Common.{refl, ap, arith, ◌≡◌, ◌∙◌, drop}
use Rattle.std.proofs.lemmas.List.{take_rest}
use Rattle.std.proofs.lemmas.Result.{err_from_is_err_and}
use Rattle.mvs_job.proofs.LineEnd.{none_left}
use Rattle.mvs_job.proofs.Looping.{at_end, at_fault, at_next, at_start, at_stop}
use Rattle.mvs_job.proofs.driver.run_lines.Goals as goal

pub lines-init : goal.lines-init
lines-init g c = record {
  at = at_start g.C.Consumer.piece (g.C.Consumer.knows c.args.consumer.now) _ c.args.script.now c.new-walk.result _ c.new-walk.ensures c.requires.new;
  within = omega arith;
  number = let e : c.new-walk.result.number ≡ 1 = ap (λ w. w.number) c.new-walk.ensures in omega (arith, e);
  same = refl;
}

pub lines-preserved : goal.lines-preserved
lines-preserved g c = record {
  at = at_next g.C.Consumer.piece (g.C.Consumer.knows c.args.consumer.now) _ c.args.script.now _ _ _ c.lines.at c.line_end-len.result c.lines.walk c.run_entry.new.walk _ _ (take_rest c.args.script.now c.lines.at) c.line_end-len.ensures.lines c.lines.invariant.at c.in_ok-continues.ensures.number _ c.if-not-continues.false (c.in_ok-continues.ensures.ran c.args.consumer.now);
  within = let e = c.line_end-len.ensures.within in omega (arith, e, c.lines-test.true);
  number = omega (arith, c.in_ok-continues.ensures.number, c.lines.invariant.number);
  same = c.in_ok-continues.ensures.ok ∙ c.lines.invariant.same;
}

pub returns-then-not-continues-clause-written : goal.returns-then-not-continues-clause-written
returns-then-not-continues-clause-written g c =
    at_fault g.C.Consumer.piece (g.C.Consumer.knows c.args.consumer.now) _ c.args.script.now _ _ _ c.lines.at c.line_end-len.result c.lines.walk c.run_entry.new.walk _ _ (take_rest c.args.script.now c.lines.at) c.line_end-len.ensures.lines c.lines.invariant.at _ c.if-not-continues.true (c.in_ok-continues.ensures.ran c.args.consumer.now)

pub returns-in_err-continues-clause-written : goal.returns-in_err-continues-clause-written
returns-in_err-continues-clause-written g c =
    let p = err_from_is_err_and c.from_residual.result c.from_residual.ensures.1 in
    rw (p.1, p.2) (at_stop g.C.Consumer.piece (g.C.Consumer.knows c.args.consumer.now) _ c.args.script.now _ _ _ c.lines.at c.line_end-len.result c.lines.walk c.run_entry.new.walk c.lines.consumer c.run_entry.new.consumer (take_rest c.args.script.now c.lines.at) c.line_end-len.ensures.lines c.lines.invariant.at c.in_err-continues.field-0.0 (c.in_err-continues.ensures.ran c.args.consumer.now))

pub returns-clause-written : goal.returns-clause-written
returns-clause-written g c =
    at_end g.C.Consumer.piece (g.C.Consumer.knows c.args.consumer.now) _ c.args.script.now _ _ (drop c.lines.at c.args.script.now) c.lines.walk c.lines.consumer c.run_end.new.consumer c.lines.invariant.at (none_left c.args.script.now c.lines.at (omega (arith, c.lines-test.false))) c.run_end.result (c.run_end.ensures.ran c.args.consumer.now)
