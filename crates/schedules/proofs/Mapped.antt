-- Results whose errors `map_err` changed.
use Rattle.std.proofs.Common.{◌≡◌, Result, Ok, Err, refl, subst, sym}
use Rattle.std.specs.Prelude.{IsErrAnd, MatchResult, OnOk}

-- what follows if `map_err` returned a value
pub mapped_on : {T E D P : Type 0} (r : Result T E) (s : Result T D) (Q : E → D → Type 0) → MatchResult r (λ y. s ≡ Ok y) (λ e. IsErrAnd s (Q e)) → ((x : T) → r ≡ Ok x → P) → OnOk s P
mapped_on {T} {E} {D} {P} (Ok y) s Q same p = subst (λ z. OnOk z P) (sym same) (p y refl)
mapped_on (Err e) (Ok x) Q never p = absurd never
mapped_on (Err e) (Err d) Q never p = tt
