use Rattle.std.proofs.Common.{◌≡◌, ◌+◌, ◌-◌, ◌<◌, ◌∙◌, suc, ap, arith, drop, get_or, length, map, subst, sym, take, true, false, ◌∷◌, ◌==◌}
use Rattle.std.specs.Prelude.{IfSome, slice_get}
use Rattle.std.proofs.lemmas.List.{length-map}
use Rattle.mvs_model.specs.Lines.{lines_of}
use Rattle.schedules.specs.Orders.{IsOrder, all_placed}
use Rattle.schedules.specs.Scripts.{AreStepLines}
use Rattle.std.specs.List.{AllByRecursion}
use Rattle.schedules.proofs.Placing.{step_cut, whole_cut}
use Rattle.schedules.proofs.Reordered.{bytes_of}
use Rattle.schedules.proofs.Statements.{holds_at, tail_is}
use Rattle.schedules.specs.Refusals.{IsStepRefusal, begins_at}
use Rattle.schedules.proofs.Refused.{ends_at, first_is, script_refusal}
use Rattle.std.proofs.lemmas.Bool.{and_parts}
use Rattle.std.proofs.lemmas.Bool.Decides.{Decides-eqb}
use Rattle.std.proofs.lemmas.Result.{err_from_is_err_and}
use Rattle.schedules.proofs.order.order_script.Goals as goal

pub invariant_of-result : goal.invariant_of-result
invariant_of-result c = record {
  unended = bytes_of (map (λ l. l.now) c.in_ok-lines.lines.items) c.in_ok-lines.ensures.unended;
  few = c.in_ok-numbers.ensures.few;
}

pub returns-clause-order : goal.returns-clause-order
returns-clause-order c =
    let script = c.args.script.now in
    let order = c.args.order.now in
    let s = c.in_ok-statements.statements.items in
    let i = c.in-Some-region_of.index in
    let end = c.before_region-end.result in
    let r = c.index.result.now in
    let slice = c.deref-2.result.now in
    let others = take (length slice - (i + 1)) (drop (i + 1) slice) in
    let within : i < length s = subst (λ x. i < length x) c.deref.ensures.value c.in-Some-region_of.ensures.0 in
    let found : IfSome (slice_get s i) (λ l. begins_at c.in-Some.first.now l ≡ true) = subst (λ x. IfSome (slice_get x i) (λ l. begins_at c.in-Some.first.now l ≡ true)) c.deref.ensures.value c.in-Some-region_of.ensures.1 in
    let parts = and_parts r.is_region (r.number == c.in-Some.first.now) (holds_at (λ l. begins_at c.in-Some.first.now l ≡ true) s i r within c.index.ensures found) in
    let number : r.number ≡ c.in-Some.first.now = (Decides-eqb r.number c.in-Some.first.now).0 parts.1 in
    let whole : r.number ∷ take (length order - 1) (drop 1 order) ≡ order =
    ap (λ n. n ∷ take (length order - 1) (drop 1 order)) number ∙ ap (λ x. c.in-Some.first.now ∷ x) (tail_is order 1) ∙ first_is order c.in-Some.first.now c.in-Some.ensures.item.3.0 (c.in-Some.ensures.item.3.1 0) in
    let rest : others ≡ drop (i + 1) s = tail_is slice (i + 1) ∙ ap (drop (i + 1)) c.deref-2.ensures.value in
    let is : get_or s i r ≡ r = sym c.index.ensures in
    let own = take end (drop (i + 1) s) in
    let long : c.len.result ≡ length (lines_of script) =
    let count = c.len.ensures in let ok = c.in_ok-lines.lines.ok.0 in let all = ap length c.in_ok-lines.ensures.lines in let each = length-map c.in_ok-lines.lines.items (λ l. l.now) in omega (arith, count, ok, all, each) in
    let taken : i + 1 + end - i ≡ suc end = omega arith in
    record {
      before = take i s;
      region = r;
      own = own;
      others = drop end (drop (i + 1) s);
      statements = subst (AreStepLines true 1 (lines_of script)) (whole_cut s i end r within is) c.in_ok-statements.ensures.statements;
      begins = parts.0;
      inside = subst (λ x. AllByRecursion (λ l. l.is_region ≡ false) (take end x)) rest c.before_region-end.ensures.none;
      order_is = subst (IsOrder r own) whole (subst (λ x. IsOrder r (take end x) (r.number ∷ take (length order - 1) (drop 1 order))) rest c.in_ok-check_order.ensures.ok);
      numbers_are =
          c.in_ok-numbers.ensures.numbers ∙ ap (λ x. all_placed x order c.len.result) (ap (λ x. take (i + 1 + end - i) (drop i x)) c.deref-3.ensures.value ∙ step_cut s i end r within is (i + 1 + end - i) taken)
          ∙ ap (all_placed (r ∷ own) order) long;
    }

pub returns-in_err-check_order-clause-refused : goal.returns-in_err-check_order-clause-refused
returns-in_err-check_order-clause-refused c =
    let p = err_from_is_err_and c.from_residual-in_err-check_order.result c.from_residual-in_err-check_order.ensures.1 in
    let script = c.args.script.now in
    let order = c.args.order.now in
    let s = c.in_ok-statements.statements.items in
    let i = c.in-Some-region_of.index in
    let end = c.before_region-end.result in
    let r = c.index.result.now in
    let slice = c.deref-2.result.now in
    let others = take (length slice - (i + 1)) (drop (i + 1) slice) in
    let within : i < length s = subst (λ x. i < length x) c.deref.ensures.value c.in-Some-region_of.ensures.0 in
    let rest : others ≡ drop (i + 1) s = tail_is slice (i + 1) ∙ ap (drop (i + 1)) c.deref-2.ensures.value in
    let is : get_or s i r ≡ r = sym c.index.ensures in
    let own = take end (drop (i + 1) s) in
    let found : IfSome (slice_get s i) (λ l. begins_at c.in-Some.first.now l ≡ true) = subst (λ x. IfSome (slice_get x i) (λ l. begins_at c.in-Some.first.now l ≡ true)) c.deref.ensures.value c.in-Some-region_of.ensures.1 in
    let parts = and_parts r.is_region (r.number == c.in-Some.first.now) (holds_at (λ l. begins_at c.in-Some.first.now l ≡ true) s i r within c.index.ensures found) in
    let number : r.number ≡ c.in-Some.first.now = (Decides-eqb r.number c.in-Some.first.now).0 parts.1 in
    let whole : r.number ∷ take (length order - 1) (drop 1 order) ≡ order =
    ap (λ n. n ∷ take (length order - 1) (drop 1 order)) number ∙ ap (λ x. c.in-Some.first.now ∷ x) (tail_is order 1) ∙ first_is order c.in-Some.first.now c.in-Some.ensures.item.3.0 (c.in-Some.ensures.item.3.1 0) in
    let refused = subst (λ o. IsStepRefusal r own o c.in_err-check_order.field-0.0) whole (subst (λ x. IsStepRefusal r (take end x) (r.number ∷ take (length order - 1) (drop 1 order)) c.in_err-check_order.field-0.0) rest c.in_err-check_order.ensures.refused) in
    rw (p.1, p.2)
    (script_refusal script order (take i s) own (drop end (drop (i + 1) s)) r (subst (AreStepLines true 1 (lines_of script)) (whole_cut s i end r within is) c.in_ok-statements.ensures.statements) parts.0
    (subst (λ x. AllByRecursion (λ l. l.is_region ≡ false) (take end x)) rest c.before_region-end.ensures.none) (ends_at (drop (i + 1) s) end (subst (λ x. IfSome (slice_get x end) (λ l. l.is_region ≡ true)) rest c.before_region-end.ensures.region)) _ refused)
