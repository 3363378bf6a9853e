use Rattle.std.proofs.Common.{◌≡◌, ◌==◌, Bool, true, false, refl, sym, arith}
use Rattle.std.proofs.lemmas.List.Sums.{position_or_len_is}
use Rattle.explanation.proofs.reasons.line_len.Goals as goal

fails : (b : Bool) → ((b ≡ true) → ⊥) → b ≡ false
fails true h = absurd (h refl)
fails false h = refl

pub returns-in-Some-clause-len : goal.returns-in-Some-clause-len
returns-in-Some-clause-len c =
    let first = c.in-Some.ensures.0 in
    let high = first.high in
    sym (position_or_len_is (λ b. b == 10) c.args.bytes.now c.in-Some.end 0 (omega (arith, high)) (λ k h. fails _ (first.before k (omega arith) h)) (λ h. c.in-Some.ensures.1))

pub returns-in-None-clause-len : goal.returns-in-None-clause-len
returns-in-None-clause-len c = sym (position_or_len_is (λ b. b == 10) c.args.bytes.now _ 0 (omega arith) (λ k h. fails _ (c.in-None.ensures k (omega arith) h)) (λ h. absurd (omega (arith, h))))
