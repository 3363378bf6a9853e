use Rattle.std.proofs.Common.{◌≡◌, ◌≤◌, List, ℕ, ap, length, drop, true, false, arith, length-drop, subst, sym, ◌∙◌}
use Rattle.std.proofs.lemmas.List.{take_rest}
use Rattle.expected_answers.specs.Reports.{is_wide}
use Rattle.expected_answers.proofs.Texts.{narrow_more, wide_more}
use Rattle.expected_answers.proofs.shown.shown_name.Goals as goal

pub bytes-preserved-then-is_wide : goal.bytes-preserved-then-is_wide
bytes-preserved-then-is_wide c =
    let rest = take_rest c.args.name.now c.bytes.at in
    let two : 2 ≤ length (drop c.bytes.at c.args.name.now) = subst (λ t. 2 ≤ length t) rest (c.is_wide.ensures.two c.if-is_wide.true) in
    let wide : is_wide (drop c.bytes.at c.args.name.now) ≡ true = ap is_wide (sym rest) ∙ sym c.is_wide.ensures.value ∙ c.if-is_wide.true in
    record {
      within = omega (arith, length-drop c.bytes.at c.args.name.now, two);
      same = rw c.in_ok-push.ensures.items (wide_more c.bytes.shown.items c.args.name.now c.bytes.at wide ∙ c.bytes.invariant.same);
    }

pub bytes-preserved : goal.bytes-preserved
bytes-preserved c =
    let narrow : is_wide (drop c.bytes.at c.args.name.now) ≡ false = ap is_wide (sym (take_rest c.args.name.now c.bytes.at)) ∙ sym c.is_wide.ensures.value ∙ c.if-is_wide.false in
    record {
      within = omega arith;
      same = rw (c.in_ok-push-2.ensures.items, c.shown_name_byte.ensures) (narrow_more c.bytes.shown.items c.args.name.now c.bytes.at c.bytes-test.true narrow ∙ c.bytes.invariant.same);
    }
