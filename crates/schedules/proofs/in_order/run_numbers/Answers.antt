use Rattle.std.proofs.Common.{◌≡◌, ◌<◌, ◌∙◌, ap, arith, length, map, refl}
use Rattle.std.proofs.lemmas.Result.{err_from_is_err_and}
use Rattle.mvs_job.proofs.Driving.{run_start}
use Rattle.schedules.specs.InOrder.{knows_with_numbers, with_numbers}
use Rattle.schedules.proofs.Reordered.{run_ends, run_faulty, run_on, run_stops}
use Rattle.schedules.proofs.in_order.run_numbers.Goals as goal

pub lines-init : goal.lines-init
lines-init g c =
    let numbers = c.args.numbers.now in
    record {
      run = run_start (with_numbers numbers g.C.Consumer.piece) (knows_with_numbers numbers (g.C.Consumer.knows c.args.consumer.now)) _ c.new-walk.result _ c.new-walk.ensures c.requires.new;
      within = omega arith;
      number = let e : c.new-walk.result.number ≡ 1 = ap (λ w. w.number) c.new-walk.ensures in omega (arith, e);
      same = refl;
    }

pub lines-preserved : goal.lines-preserved
lines-preserved g c =
    let numbers = c.args.numbers.now in
    let at = c.lines.at in
    let within : at < length numbers = omega (arith, c.lines-test.true) in
    record {
      run = run_on (with_numbers numbers g.C.Consumer.piece) (knows_with_numbers numbers (g.C.Consumer.knows c.args.consumer.now)) _ (map (λ l. l.now) c.args.lines.now) numbers c.requires.unended _ _ at within c.lines.walk c.run_entry_as.new.walk _ _ c.line_at-line.result.now c.line_at-line.ensures c.lines.invariant.run c.in_ok-continues.ensures.number _ c.if-not-continues.false (c.in_ok-continues.ensures.ran c.args.consumer.now);
      within = omega (arith, within);
      number = omega (arith, c.in_ok-continues.ensures.number, c.lines.invariant.number);
      same = c.in_ok-continues.ensures.ok ∙ c.lines.invariant.same;
    }

pub returns-then-not-continues-clause-written : goal.returns-then-not-continues-clause-written
returns-then-not-continues-clause-written g c =
    let numbers = c.args.numbers.now in
    let at = c.lines.at in
    let within : at < length numbers = omega (arith, c.lines-test.true) in
    run_faulty (with_numbers numbers g.C.Consumer.piece) (knows_with_numbers numbers (g.C.Consumer.knows c.args.consumer.now)) _ (map (λ l. l.now) c.args.lines.now) numbers c.requires.unended _ _ at within c.lines.walk c.run_entry_as.new.walk _ _ c.line_at-line.result.now c.line_at-line.ensures c.lines.invariant.run _ c.if-not-continues.true (c.in_ok-continues.ensures.ran c.args.consumer.now)

pub returns-in_err-continues-clause-written : goal.returns-in_err-continues-clause-written
returns-in_err-continues-clause-written g c =
    let numbers = c.args.numbers.now in
    let at = c.lines.at in
    let within : at < length numbers = omega (arith, c.lines-test.true) in
    let p = err_from_is_err_and c.from_residual.result c.from_residual.ensures.1 in
    rw (p.1, p.2) (run_stops (with_numbers numbers g.C.Consumer.piece) (knows_with_numbers numbers (g.C.Consumer.knows c.args.consumer.now)) _ (map (λ l. l.now) c.args.lines.now) numbers c.requires.unended _ _ at within c.lines.walk c.run_entry_as.new.walk c.lines.consumer c.run_entry_as.new.consumer c.line_at-line.result.now c.line_at-line.ensures c.lines.invariant.run c.in_err-continues.field-0.0 (c.in_err-continues.ensures.ran c.args.consumer.now))

pub returns-clause-written : goal.returns-clause-written
returns-clause-written g c =
    let numbers = c.args.numbers.now in
    run_ends (with_numbers numbers g.C.Consumer.piece) (knows_with_numbers numbers (g.C.Consumer.knows c.args.consumer.now)) _ (map (λ l. l.now) c.args.lines.now) numbers c.requires.unended _ _ c.lines.at c.lines.invariant.within (λ less. absurd (omega (arith, less, c.lines-test.false))) c.lines.walk c.lines.consumer c.run_end_as.new.consumer c.lines.invariant.run c.run_end_as.result (c.run_end_as.ensures.ran c.args.consumer.now)
