use Rattle.std.proofs.Common.{◌≡◌, ◌<◌, ◌≤◌, ◌∙◌, [], ap, arith, drop, false, get_or, length, map, refl, subst, sym, take, true}
use Rattle.std.specs.Prelude.{IfErr, Some, slice_get}
use Rattle.std.proofs.lemmas.Option.{slice_get_read}
use Rattle.std.proofs.lemmas.Result.{IfErr-weaker, on_ok_weaker}
use Rattle.schedules.specs.Next.{number_of, some_can_run}
use Rattle.schedules.specs.Orders.{RunsNumber}
use Rattle.schedules.specs.Refusals.{HaveRun, IsReasonAt, IsRefusal, IsUnreached, NoneRuns, NoneYet, RunsIf, is_left, numbers_of}
use Rattle.schedules.specs.Searched.{positions}
use Rattle.schedules.proofs.Followed.{begun_more, begun_none, ends_so, fewer}
use Rattle.schedules.proofs.Refused.{refusal, refused_next, refused_rest, refused_short, run_more}
use Rattle.schedules.proofs.order.follow.Goals as goal

pub statements-init : goal.statements-init
statements-init c = record {
  begun = begun_none c.args.lines.now c.args.walk.now c.args.left.now.items c.args.order.now;
  run = NoneYet;
  number = omega arith;
}

pub statements-preserved : goal.statements-preserved
statements-preserved c =
    let lines = c.args.lines.now in
    let order = c.args.order.now in
    let at = c.statements.at in
    let n = c.in-Some.number.now in
    let ran = subst (λ b. RunsIf b lines c.statements.walk c.statements.left.items n c.run_number.new.walk c.run_number.new.left.items) c.if-not-can_run.false c.in_ok-can_run.ensures.runs in
    let runs = ran.0 in
    let number = ran.1 in
    let within : at < length order = c.in-Some.ensures.lookup.3.0 in
    let is : n ≡ get_or order at 0 = c.in-Some.ensures.lookup.3.1 0 in
    let less = fewer lines c.statements.walk c.run_number.new.walk c.statements.left.items c.run_number.new.left.items n runs in
    let before = c.statements.invariant.number in
    record {
      begun = begun_more lines c.statements.walk c.run_number.new.walk c.statements.left.items c.run_number.new.left.items n runs c.args.walk.now c.args.left.now.items order at within is c.statements.invariant.begun;
      run = run_more lines c.args.walk.now c.args.left.now.items order at n c.statements.walk c.run_number.new.walk c.statements.left.items c.run_number.new.left.items within is c.statements.invariant.run runs;
      number = omega (arith, less, number, before);
    }

pub returns-clause-ok : goal.returns-clause-ok
returns-clause-ok c =
    let lines = c.args.lines.now in
    let walk = c.statements.walk in
    let left = c.statements.left.items in
    let none : some_can_run lines walk.step [] left ≡ false = ap (some_can_run lines walk.step []) (sym c.deref.ensures.value) ∙ sym c.some_can_run.ensures ∙ c.statements-test.false in
    on_ok_weaker c.check_unreached.result
    (λ (rest : drop c.statements.at c.args.order.now ≡ numbers_of lines c.deref-2.result.now).
    ends_so lines c.args.walk.now c.args.left.now.items walk left c.args.order.now c.statements.at none c.statements.invariant.begun (rest ∙ ap (numbers_of lines) c.deref-2.ensures.value)) c.check_unreached.ensures.ok

pub returns-clause-refused : goal.returns-clause-refused
returns-clause-refused c all =
    let lines = c.args.lines.now in
    let order = c.args.order.now in
    let walk = c.statements.walk in
    let left = c.statements.left.items in
    let at = c.statements.at in
    let start = c.args.walk.now in
    let none : some_can_run lines walk.step [] left ≡ false = ap (some_can_run lines walk.step []) (sym c.deref.ensures.value) ∙ sym c.some_can_run.ensures ∙ c.statements-test.false in
    let run = subst (λ x. HaveRun lines start x (take at order) walk left) all c.statements.invariant.run in
    IfErr-weaker c.check_unreached.result (IsUnreached lines c.deref-2.result.now order at) (IsRefusal lines start order)
    (λ why u. refusal lines start order why (refused_rest lines start walk left order at run why none (subst (λ x. IsUnreached lines x order at why) c.deref-2.ensures.value u))) c.check_unreached.ensures.refused

pub returns-in_default-clause-refused : goal.returns-in_default-clause-refused
returns-in_default-clause-refused c all =
    let lines = c.args.lines.now in
    let order = c.args.order.now in
    let walk = c.statements.walk in
    let left = c.statements.left.items in
    let at = c.statements.at in
    let start = c.args.walk.now in
    let can : some_can_run lines walk.step [] left ≡ true = ap (some_can_run lines walk.step []) (sym c.deref.ensures.value) ∙ sym c.some_can_run.ensures ∙ c.statements-test.true in
    let run = subst (λ x. HaveRun lines start x (take at order) walk left) all c.statements.invariant.run in
    refused_short lines start walk left order at run c.first_number.result c.in_default.ensures.lookup.3 can (subst (λ x. is_left lines x c.first_number.result ≡ true) c.deref-in_default.ensures.value c.first_number.ensures)

pub why_not-requires-clause-none : goal.why_not-requires-clause-none
why_not-requires-clause-none c n is =
    let lines = c.args.lines.now in
    let order = c.args.order.now in
    let at = c.statements.at in
    let walk = c.statements.walk in
    let left = c.statements.left.items in
    let number = c.in-Some.number.now in
    let cannot = subst (λ b. RunsIf b lines walk left number c.run_number.new.walk c.run_number.new.left.items) c.if-not-can_run.true c.in_ok-can_run.ensures.runs in
    let found = slice_get_read order (length order) at number refl c.in-Some.ensures.lookup.3.0 (c.in-Some.ensures.lookup.3.1 number) in
    let same : number ≡ n = (let e : Some number ≡ Some n = sym found ∙ is in cc) in
    let kept : c.run_number.new.left.items ≡ left = cannot.2 in
    let step = ap (λ w. w.step) cannot.1 in
    let none = subst (NoneRuns lines walk.step left) same cannot.0 in
    subst (λ l. NoneRuns lines c.run_number.new.walk.step l n) (sym (c.deref-then-not-can_run.ensures.value ∙ kept)) (subst (λ s. NoneRuns lines s left n) (sym step) none)

pub returns-then-not-can_run-clause-refused : goal.returns-then-not-can_run-clause-refused
returns-then-not-can_run-clause-refused c all =
    let lines = c.args.lines.now in
    let order = c.args.order.now in
    let at = c.statements.at in
    let walk = c.statements.walk in
    let left = c.statements.left.items in
    let start = c.args.walk.now in
    let number = c.in-Some.number.now in
    let can : some_can_run lines walk.step [] left ≡ true = ap (some_can_run lines walk.step []) (sym c.deref.ensures.value) ∙ sym c.some_can_run.ensures ∙ c.statements-test.true in
    let run = subst (λ x. HaveRun lines start x (take at order) walk left) all c.statements.invariant.run in
    let cannot = subst (λ b. RunsIf b lines walk left number c.run_number.new.walk c.run_number.new.left.items) c.if-not-can_run.true c.in_ok-can_run.ensures.runs in
    let kept : c.run_number.new.left.items ≡ left = cannot.2 in
    let here = subst (λ l. IsReasonAt lines c.run_number.new.walk l order at c.why_not.result) (c.deref-then-not-can_run.ensures.value ∙ kept) c.why_not.ensures in
    let reason = subst (λ w. IsReasonAt lines w left order at c.why_not.result) cannot.1 here in
    refusal lines start order c.why_not.result (refused_next lines start walk left order at run number c.why_not.result c.in-Some.ensures.lookup.3.0 (c.in-Some.ensures.lookup.3.1 0) can cannot.0 reason)
