use Rattle.std.proofs.Common.{Decides as Tests, ◌≡◌, ◌++◌, ◌∙◌, ◌+◌, ◌-◌, ap, arith, drop, length, subst, sym, take}
use Rattle.std.proofs.lemmas.List.{take_rest}
use Rattle.std.proofs.lemmas.Slice.Eq.{slice_eq-Decides}
use Rattle.std.specs.Prelude.{IfSome}
use Rattle.mvs_model.specs.Runs.{IsPrinting}
use Rattle.mvs_model.specs.Texts.{printing}
use Rattle.mvs_job.specs.LineEvents.{events_of_line}
use Rattle.judge.proofs.PrintedLines.{Stands, fits_more, prints_end, prints_fault, some_if, stands_more}
use Rattle.judge.proofs.Decided.{fault_served, line_served, same_test}
use Rattle.judge.proofs.along.run_along.Goals as goal

pub lines-init : goal.lines-init
lines-init c = record {
  stands = λ whole s. s;
  within = omega arith;
  done = c.requires.front;
  number = omega arith;
  empty = c.new-empty.ensures.items;
}

pub lines-preserved : goal.lines-preserved
lines-preserved c =
    let text = c.in_ok-printed.printed.text.items in
    let w = c.lines.walk in
    let w' = c.print_next.new.walk in
    let same = c.in_ok-printed.ensures.printed ∙ ap (λ x. x ++ printing (events_of_line w.number w' c.in_ok-printed.printed.line_event)) c.lines.invariant.empty in
    let left = take (length c.args.output.now - c.lines.done) (drop c.lines.done c.args.output.now) in
    let front = subst (λ x. left ≡ x ++ drop (length x) left) c.as_slice-in-lines.ensures.value (c.begins.ensures.yes c.if-not-begins.false) in
    let len : length c.as_slice-in-lines-2.result.now ≡ length text = ap length c.as_slice-in-lines-2.ensures.value in
    let served = line_served _ w w' _ c.in_ok-printed.printed.line_event text c.in_ok-printed.ensures.served same c.in_default.not-Faulted c.print_next.ensures.number in
    record {
      stands = λ whole s. subst (λ n. Stands whole c.args.script.now c.args.output.now (c.lines.at + (c.line_end-end.result + 1)) (c.lines.done + n) w') (sym len)
          (stands_more whole c.args.script.now c.args.output.now _ left text c.lines.at c.lines.done c.line_end-end.result w w' (take_rest c.args.script.now c.lines.at) (take_rest c.args.output.now c.lines.done) c.line_end-end.ensures.lines (c.lines.invariant.stands whole s) served front);
      within = let e = c.line_end-end.ensures.within in omega (arith, e, c.lines-test.true);
      done = let f = fits_more text left front in omega (arith, f, len, c.lines.invariant.done);
      number = omega (arith, c.print_next.ensures.number, c.lines.invariant.number);
      empty = c.emptied-empty.ensures;
    }

pub returns-in-Faulted : goal.returns-in-Faulted
returns-in-Faulted c = λ whole s.
    let text = c.in_ok-printed.printed.text.items in
    let w = c.lines.walk in
    let w' = c.print_next.new.walk in
    let same = c.in_ok-printed.ensures.printed ∙ ap (λ x. x ++ printing (events_of_line w.number w' c.in_ok-printed.printed.line_event)) c.lines.invariant.empty in
    let left = take (length c.args.output.now - c.lines.done) (drop c.lines.done c.args.output.now) in
    let served = fault_served _ w w' _ c.in_ok-printed.printed.line_event text c.in_ok-printed.ensures.served same _ c.in-Faulted.is in
    let test = subst (λ x. Tests c.eq-is_same.result (left ≡ x)) c.as_slice.ensures.value (slice_eq-Decides same_test _ _ c.eq-is_same.result c.eq-is_same.ensures) in
    subst (λ o. IfSome o (IsPrinting whole c.args.output.now)) (sym c.ended_if.ensures)
    (some_if c.eq-is_same.result _ (IsPrinting whole c.args.output.now) (λ e.
    prints_fault whole c.args.script.now c.args.output.now _ left text c.lines.at c.lines.done c.line_end-end.result w w' (take_rest c.args.script.now c.lines.at) (take_rest c.args.output.now c.lines.done) c.line_end-end.ensures.lines (c.lines.invariant.stands whole s) served (test.0 e)))

pub returns-then-not-begins : goal.returns-then-not-begins
returns-then-not-begins c = λ whole s. tt

pub returns : goal.returns
returns c = λ whole s.
    let left = take (length c.args.output.now - c.lines.done) (drop c.lines.done c.args.output.now) in
    let test = subst (λ x. Tests c.eq-is_same-2.result (left ≡ x)) c.as_slice-2.ensures.value (slice_eq-Decides same_test _ _ c.eq-is_same-2.result c.eq-is_same-2.ensures) in
    subst (λ o. IfSome o (IsPrinting whole c.args.output.now)) (sym c.ended_if-2.ensures)
    (some_if c.eq-is_same-2.result c.in_ok-outcome.outcome (IsPrinting whole c.args.output.now) (λ e.
    prints_end whole c.args.script.now c.args.output.now left c.in_ok-outcome.last.items c.lines.at c.lines.done c.lines.walk c.in_ok-outcome.outcome (take_rest c.args.output.now c.lines.done) (omega (arith, c.lines-test.false)) (c.lines.invariant.stands whole s) c.in_ok-outcome.ensures (test.0 e)))
