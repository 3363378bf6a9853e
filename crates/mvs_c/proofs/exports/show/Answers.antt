use Rattle.std.proofs.Common.{List, ℕ, arith, sym, subst, ap}
use Rattle.mvs_model.specs.Texts.{printing}
use Rattle.mvs_c.specs.Exports.{HandsOver}
use Rattle.mvs_c.proofs.Outputs.{none_fit}
use Rattle.mvs_c.proofs.exports.show.Goals as goal

pub returns-then-prints_nothing-clause-memory : goal.returns-then-prints_nothing-clause-memory
returns-then-prints_nothing-clause-memory c = λ e. absurd (let f = none_fit _ _ _ _ c.hand_over.ensures in omega (arith, e, f))

pub returns-then-prints_nothing-clause-needed : goal.returns-then-prints_nothing-clause-needed
returns-then-prints_nothing-clause-needed c = λ e. absurd (let f = none_fit _ _ _ _ c.hand_over.ensures in omega (arith, e, f))

pub returns-then-prints_nothing-clause-text : goal.returns-then-prints_nothing-clause-text
returns-then-prints_nothing-clause-text c = λ _.
    subst (λ (t : List ℕ). HandsOver t c.args.out.now c.hand_over.new.out c.hand_over.new.wanted 0 c.hand_over.result) (sym (ap printing (rw (c.if-prints_nothing.true) at c.prints_nothing.ensures))) c.hand_over.ensures

pub returns-in-Err-clause-needed : goal.returns-in-Err-clause-needed
returns-in-Err-clause-needed c = λ _. rw (c.if-prints_nothing.false) at c.prints_nothing.ensures
