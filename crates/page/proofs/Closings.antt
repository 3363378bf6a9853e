-- The text at the end of a job, which needs no reference.
use Rattle.std.proofs.Common.{◌≡◌, ℕ, ◌<◌, ◌^◌, List, [], ◌∷◌, ◌++◌, codes, decimal, Option, Some, None, Bool, true, false, refl, sym, ap, ◌∙◌, arith}
use Rattle.std.specs.Prelude.{nat_le}
use Rattle.std.specs.List.{list_all}
use Rattle.std.proofs.lemmas.Bool.{and_parts, le-leb, leb-true, ne_eqb}
use Rattle.std.proofs.lemmas.Grind.{flat_map-append}
use Rattle.mvs_model.specs.Reading.{is_digit}
use Rattle.mvs_model.specs.Texts.{printing}
use Rattle.mvs_model.proofs.ValueTexts.{decimal_writes}
use Rattle.mvs_job.specs.LineEvents.{closing}
use Rattle.page.specs.Markup.{escaped, escaped_byte}

digit_same : (b : ℕ) → is_digit b ≡ true → escaped_byte b ≡ b ∷ []
digit_same b is =
    let h = and_parts (nat_le 48 b) (nat_le b 57) is in
    let low = leb-true 48 b h.0 in
    let high = leb-true b 57 h.1 in
    rw (ne_eqb b 38 (λ e. omega (arith, low, e)), ne_eqb b 60 (λ e. omega (arith, high, e)), ne_eqb b 62 (λ e. omega (arith, high, e)), ne_eqb b 34 (λ e. omega (arith, low, e)), ne_eqb b 10 (λ e. omega (arith, low, e)), le-leb 32 b (omega (arith, low)), le-leb b 126 (omega (arith, high))) refl

digits_same : (text : List ℕ) → list_all is_digit text ≡ true → escaped text ≡ text
digits_same [] is = refl
digits_same (b ∷ text) is =
    let h = and_parts (is_digit b) (list_all is_digit text) is in
    ap (λ x. x ++ escaped text) (digit_same b h.0) ∙ ap (λ x. b ∷ x) (digits_same text h.1)

both_same : (a b : List ℕ) → escaped a ≡ a → escaped b ≡ b → escaped (a ++ b) ≡ a ++ b
both_same a b p q = flat_map-append escaped_byte a b ∙ ap (λ x. x ++ escaped b) p ∙ ap (λ x. a ++ x) q

number_same : (n : ℕ) → n < 2 ^ 64 → escaped (decimal n) ≡ decimal n
number_same n small = digits_same (decimal n) (decimal_writes n small).digits

-- what is printed of it is written as it is
pub closing_same : (n : ℕ) (o : Option Bool) → n < 2 ^ 64 → printing (closing n o) ≡ escaped (printing (closing n o))
closing_same n (Some true) small = refl
closing_same n (Some false) small = refl
closing_same n None small =
    let front = both_same (decimal n) (codes " JS0") (number_same n small) refl in
    let digit = both_same (decimal n ++ codes " JS0") (decimal 9) front (number_same 9 (omega arith)) in
    let text = both_same (decimal n ++ codes " JS0" ++ decimal 9) (codes "\nJOB FAULT RC 12\n") digit refl in
    sym (both_same (decimal n ++ codes " JS0" ++ decimal 9 ++ codes "\nJOB FAULT RC 12\n") [] text refl)
