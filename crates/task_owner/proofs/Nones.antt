-- Entries that hold nothing.
use Rattle.std.proofs.Common.{◌≡◌, ℕ, zero, suc, ◌+◌, ◌-◌, ◌<◌, ◌≤◌, true, false, List, [], ◌∷◌, take, drop, get_or, Option, Some, None, not, is_some, refl, sym, ap, ◌∙◌, arith}
use Rattle.std.specs.List.{list_all}
use Rattle.std.proofs.lemmas.Grind.{common_steps}

none_in : {T : Type 0} (os : List (Option T)) → list_all (λ s. not (is_some s)) os ≡ true → (k : ℕ) → get_or os k None ≡ None
none_in [] e k = refl
none_in (None ∷ os) e zero = refl
none_in (None ∷ os) e (suc k) = none_in os e k
none_in (Some s ∷ os) e k = absurd (let f : false ≡ true = e in cc)

pub none_within : {T : Type 0} (os : List (Option T)) (at n m : ℕ) → list_all (λ s. not (is_some s)) (take m (drop at os)) ≡ true → at ≤ n → n < at + m → get_or os n None ≡ None
none_within os at n m e low high =
    let k : ℕ = n - at in
    let place : at + k ≡ n = omega arith in
    let inside : k < m = omega arith in
    let there : get_or (take m (drop at os)) k None ≡ get_or os (at + k) None = grind (arith, common_steps) in
    ap (λ n. get_or os n None) (sym place) ∙ sym there ∙ none_in (take m (drop at os)) e k
