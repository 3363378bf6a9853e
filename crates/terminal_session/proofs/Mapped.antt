-- What `map_err` makes of what a call returned.
use Rattle.std.proofs.Common.{◌≡◌, Result, Ok, Err, refl, sym, ap, ◌∙◌, subst}
use Rattle.std.specs.Prelude.{IsErrAnd, MatchResult, OnOk}

-- the value is that of the call
pub was_ok : {T E D : Type 0} (r : Result T E) (s : Result T D) (Q : E → D → Type 0) (x : T) → MatchResult r (λ y. s ≡ Ok y) (λ e. IsErrAnd s (Q e)) → s ≡ Ok x → r ≡ Ok x
was_ok (Ok y) s Q x same is = ap (λ z. Ok z) (let e : Ok y ≡ Ok x = sym same ∙ is in cc)
was_ok (Err e) s Q x never is = absurd (subst (λ z. IsErrAnd z (Q e)) is never)

-- the error is made of that of the call
pub was_err : {T E D : Type 0} (r : Result T E) (s : Result T D) (Q : E → D → Type 0) (d : D) → MatchResult r (λ y. s ≡ Ok y) (λ e. IsErrAnd s (Q e)) → s ≡ Err d → (e : E) × (r ≡ Err e) × Q e d
was_err (Ok y) s Q d same is = absurd (let e : Ok y ≡ Err d = sym same ∙ is in cc)
was_err (Err e) s Q d made is = (e, refl, subst (λ z. IsErrAnd z (Q e)) is made)

-- what holds where the call succeeds holds where `map_err` returned a value
pub on_mapped : {T E D : Type 0} (r : Result T E) (s : Result T D) (Q : E → D → Type 0) (P : Type 0) → MatchResult r (λ y. s ≡ Ok y) (λ e. IsErrAnd s (Q e)) → OnOk r P → OnOk s P
on_mapped (Ok y) s Q P same h = subst (λ z. OnOk z P) (sym same) h
on_mapped (Err e) (Ok x) Q P never h = absurd never
on_mapped (Err e) (Err d) Q P made h = tt
