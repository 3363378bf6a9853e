use Rattle.std.proofs.Common.{Decides as Tests, ◌≡◌, ◌∙◌, ◌+◌, ap, arith, drop, refl, subst, sym}
use Rattle.std.proofs.lemmas.List.{drop-drop, take_rest}
use Rattle.std.proofs.lemmas.Slice.Eq.{slice_eq-Decides}
use Rattle.judge.specs.Deciding.{InBounds}
use Rattle.judge.specs.Excluding.{IsRuling, IsVerdict}
use Rattle.judge.proofs.Decided.{same_test}
use Rattle.judge.proofs.Ruling.{rules_ends, rules_excluded, rules_first, rules_last, rules_next, rules_undecided}
use Rattle.judge.proofs.exclusion.rule.Goals as goal

pub lines-init : goal.lines-init
lines-init c = record {
  follows = (0, refl, rules_first c.args.script.now c.args.output.now _ c.new-walk.ensures);
  within = omega arith;
  number = let e = ap (λ w. w.number) c.new-walk.ensures in omega (arith, e);
  bounds = subst (λ w. InBounds w.step) (sym c.new-walk.ensures) tt;
}

pub lines-preserved : goal.lines-preserved
lines-preserved c =
    let r = rules_next c.args.script.now c.args.output.now _ _ _ c.lines.at c.lines.invariant.follows.0 (c.line_end-end.result + 1) c.lines.walk c.compare_line.new.walk (take_rest c.args.script.now c.lines.at) c.lines.invariant.follows.1 c.line_end-end.ensures.lines c.lines.invariant.follows.2 c.lines.invariant.number c.lines-test.true c.requires.short c.in-Agrees.len (subst (IsVerdict c.lines.walk _ _ c.compare_line.new.walk) c.in-Agrees.is c.in_ok-verdict.ensures.verdict) in
    record {
      follows = (c.lines.invariant.follows.0 + c.in-Agrees.len, c.text_after-left.ensures ∙ ap (drop c.in-Agrees.len) c.lines.invariant.follows.1 ∙ drop-drop c.in-Agrees.len c.lines.invariant.follows.0 c.args.output.now, r.0);
      within = let e = c.line_end-end.ensures.within in omega (arith, e, c.lines-test.true);
      number = omega (arith, c.compare_line.ensures.number, c.lines.invariant.number);
      bounds = c.in_ok-verdict.ensures.bounds;
    }

pub returns-in-Excluded : goal.returns-in-Excluded
returns-in-Excluded c = rules_excluded c.args.script.now c.args.output.now _ _ _ c.lines.at c.lines.invariant.follows.0 (c.line_end-end.result + 1) c.lines.walk c.compare_line.new.walk (take_rest c.args.script.now c.lines.at) c.lines.invariant.follows.1 c.line_end-end.ensures.lines c.lines.invariant.follows.2 (subst (IsVerdict c.lines.walk _ _ c.compare_line.new.walk) c.in-Excluded.is c.in_ok-verdict.ensures.verdict)

pub returns-in-Ends : goal.returns-in-Ends
returns-in-Ends c = rules_ends c.args.script.now c.args.output.now _ _ _ c.lines.at c.lines.invariant.follows.0 (c.line_end-end.result + 1) c.lines.walk c.compare_line.new.walk (take_rest c.args.script.now c.lines.at) c.lines.invariant.follows.1 c.line_end-end.ensures.lines c.lines.invariant.follows.2 (subst (IsVerdict c.lines.walk _ _ c.compare_line.new.walk) c.in-Ends.is c.in_ok-verdict.ensures.verdict)

pub returns-in-Undecided : goal.returns-in-Undecided
returns-in-Undecided c = rules_undecided c.args.script.now c.args.output.now _ _ _ c.lines.at c.lines.invariant.follows.0 (c.line_end-end.result + 1) c.lines.walk c.compare_line.new.walk (take_rest c.args.script.now c.lines.at) c.lines.invariant.follows.1 c.line_end-end.ensures.lines c.lines.invariant.follows.2 (subst (IsVerdict c.lines.walk _ _ c.compare_line.new.walk) c.in-Undecided.is c.in_ok-verdict.ensures.verdict)

pub returns : goal.returns
returns c =
    subst (IsRuling c.args.script.now c.args.output.now) (sym c.ruling_if.ensures)
    (rules_last c.args.script.now c.args.output.now c.in_ok-outcome.last.items c.lines.at c.lines.invariant.follows.0 c.lines.walk c.in_ok-outcome.outcome (omega (arith, c.lines-test.false)) c.lines.invariant.follows.2 c.in_ok-outcome.ensures c.eq-is_same.result
    (subst (λ x. Tests c.eq-is_same.result (x ≡ c.in_ok-outcome.last.items)) c.lines.invariant.follows.1 (subst (λ x. Tests c.eq-is_same.result (c.lines.left.now ≡ x)) c.as_slice.ensures.value (slice_eq-Decides same_test _ _ c.eq-is_same.result c.eq-is_same.ensures))))
