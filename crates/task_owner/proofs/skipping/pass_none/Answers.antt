use Rattle.std.proofs.Common.{◌≡◌, ◌+◌, ◌-◌, inl, inr, take, drop, not, arith, ap, sym, ◌∙◌}
use Rattle.std.specs.Prelude.{is_some}
use Rattle.std.specs.List.{list_all}
use Rattle.std.proofs.lemmas.Bool.{cases_lt}
use Rattle.task_owner.proofs.Nones.{none_within}
use Rattle.task_owner.proofs.skipping.pass_none.Goals as goal

pub loop-at-preserved : goal.loop-at-preserved
loop-at-preserved g c =
    let entries = c.args.entries.now in
    let at = c.loop-at.at in
    let size : (at + 16) - at ≡ 16 = omega arith in
    let none = ap (λ m. list_all (λ s. not (is_some s)) (take m (drop at entries))) (sym size) ∙ sym c.are_none.ensures ∙ c.if-are_none.true in
    record {
      ordered = omega (arith, c.loop-at.invariant.ordered);
      within = omega (arith, c.loop-at.invariant.within, c.loop-at-test.true);
      none = λ n low high. elim (cases_lt n at) [
        | inl before ↦ c.loop-at.invariant.none n low before
        | inr from ↦ none_within entries at n 16 none from high
      ];
    }
