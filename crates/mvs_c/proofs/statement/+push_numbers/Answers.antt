-- The number is in the set or not, and the others follow.
use Rattle.std.proofs.Common.{◌≡◌, ◌∙◌, ℕ, suc, ◌-◌, ◌<◌, false, true, List, [], ◌∷◌, ◌++◌, length, decimal, MatchBool, ap, sym, subst, append_assoc, arith}
use Rattle.mvs_model.specs.Gifts.{has_bit}
use Rattle.mvs_c.specs.Statements.{numbers_text}
use Rattle.mvs_c.proofs.NumberTexts.{no_number, passed, taken}
use Rattle.mvs_c.proofs.statement.+push_numbers.Goals as goal

pub returns-then-count-eq0-clause-text : goal.returns-then-count-eq0-clause-text
returns-then-count-eq0-clause-text t c = no_number c.args.text.now c.args.set c.args.before c.args.count c.if-count-eq0.true

pub returns-then-not-has_number-clause-text : goal.returns-then-not-has_number-clause-text
returns-then-not-has_number-clause-text t c =
    let some : c.args.count ≡ suc (c.args.count - 1) = omega (arith, c.if-count-eq0.false) in
    let number : 128 - c.args.count ≡ 127 - (c.args.count - 1) = omega (arith, c.if-count-eq0.false, c.requires.few) in
    let bit : has_bit c.args.set (128 - c.args.count) ≡ false = sym c.if-not-has_number.ensures in
    let same : numbers_text c.args.set c.args.before c.args.count ≡ numbers_text c.args.set c.args.before (c.args.count - 1) = passed c.args.set c.args.before c.args.count (128 - c.args.count) (c.args.count - 1) some number bit in
    subst (λ (x : List ℕ). MatchBool c.push_numbers.result (c.push_numbers.new.text ≡ c.args.text.now ++ x) (180 < length (c.args.text.now ++ x))) (sym same) c.push_numbers.ensures.text

pub returns-clause-text : goal.returns-clause-text
returns-clause-text t c =
    let some : c.args.count ≡ suc (c.args.count - 1) = omega (arith, c.if-count-eq0.false) in
    let number : 128 - c.args.count ≡ 127 - (c.args.count - 1) = omega (arith, c.if-count-eq0.false, c.requires.few) in
    let bit : has_bit c.args.set (128 - c.args.count) ≡ true = sym c.if-not-has_number.ensures in
    let rest : List ℕ = numbers_text c.args.set 44 (c.args.count - 1) in
    let same : numbers_text c.args.set c.args.before c.args.count ≡ c.args.before ∷ decimal (128 - c.args.count) ++ rest = taken c.args.set c.args.before c.args.count (128 - c.args.count) (c.args.count - 1) some number bit in
    let pushed : c.push_decimal.new.self ≡ c.args.text.now ++ c.args.before ∷ [] ++ decimal (128 - c.args.count)
    = c.push_decimal.ensures.text ∙ ap (λ (n : ℕ). c.push.new.self ++ decimal n) c.from.ensures ∙ ap (λ (l : List ℕ). l ++ decimal (128 - c.args.count)) c.push.ensures.text in
    let path : c.push_decimal.new.self ++ rest ≡ c.args.text.now ++ numbers_text c.args.set c.args.before c.args.count
    = ap (λ (l : List ℕ). l ++ rest) pushed
    ∙ append_assoc (c.args.text.now ++ c.args.before ∷ []) (decimal (128 - c.args.count)) rest
    ∙ append_assoc c.args.text.now (c.args.before ∷ []) (decimal (128 - c.args.count) ++ rest)
    ∙ ap (λ (l : List ℕ). c.args.text.now ++ l) (sym same) in
    subst (λ (x : List ℕ). MatchBool c.push_numbers-2.result (c.push_numbers-2.new.text ≡ x) (180 < length x)) path c.push_numbers-2.ensures.text
