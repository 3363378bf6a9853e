-- What several calls write, one after the other.
use Rattle.std.proofs.Common.{◌≡◌, List, [], ◌∷◌, ◌++◌, Ok, Err, OnOk, append_assoc, ap, ◌∙◌}
use Rattle.std.specs.Prelude.{Result}
use Rattle.json.specs.Token.{Token}
use Rattle.mvsjob_lsp.specs.Tokens.{AddsTokens}

-- what a call writes, before what the next ones do
pub after : {a b c x y : List Token} → AddsTokens a b x → AddsTokens b c y → AddsTokens a c (x ++ y)
after {a} {b} {c} {x} {y} p q = record { tokens = q.tokens ∙ ap (λ l. l ++ y) p.tokens ∙ append_assoc a x y }

-- what a call writes, before a token
pub before : {a b x : List Token} (t : Token) → AddsTokens a b x → b ++ t ∷ [] ≡ a ++ (x ++ t ∷ [])
before {a} {b} {x} t p = ap (λ l. l ++ t ∷ []) p.tokens ∙ append_assoc a x (t ∷ [])

-- what a call writes is what it and the next one write
pub together : {a b c x y : List Token} → AddsTokens b c x → b ++ x ≡ a ++ y → AddsTokens a c y
together p q = record { tokens = p.tokens ∙ q }

pub on_ok : {T E P Q : Type 0} → (r : Result T E) → (P → Q) → OnOk r P → OnOk r Q
on_ok (Ok t) f p = f p
on_ok (Err e) f p = p
