-- The tokens of lists, and texts.
use Rattle.std.proofs.Common.{◌≡◌, ℕ, Bool, true, false, if◌then◌else◌, List, [], ◌∷◌, ◌++◌, append_assoc, ap, refl, sym, ◌∙◌}
use Rattle.std.specs.Str.{IsUtf8, is_utf8}
use Rattle.std.proofs.lemmas.Str.{IsUtf8-from_is_utf8}
use Rattle.json.specs.Json.{Json, Items}
use Rattle.json.specs.Tree.{items_tokens, json_tokens}
use Rattle.mvsjob_lsp.specs.Tokens.{each}
use Rattle.mvsjob_lsp.specs.Values.{items_before, shown}

pub listed : {A : Type 0} (f : A → Json) (xs : List A) (rest : Items) → items_tokens (items_before f xs rest) ≡ each f xs ++ items_tokens rest
listed f [] rest = refl
listed f (x ∷ xs) rest = ap (λ l. json_tokens (f x) ++ l) (listed f xs rest) ∙ sym (append_assoc (json_tokens (f x)) (each f xs) (items_tokens rest))

pub not_shown : (bytes : List ℕ) → (IsUtf8 bytes → ⊥) → [] ≡ shown bytes
not_shown bytes none = by (is_utf8 bytes) refl where
  by : (b : Bool) → is_utf8 bytes ≡ b → [] ≡ (if b then bytes else [])
  by true e = absurd (none (IsUtf8-from_is_utf8 bytes e))
  by false e = refl
