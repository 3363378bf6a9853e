use Rattle.std.proofs.Common.{◌≡◌, List, ℕ, Result, Ok, Err, true, false, subst, sym}
use Rattle.std.specs.Prelude.{MatchOption, MatchResult}
use Rattle.std.specs.Result.{result_ok}
use Rattle.std.specs.Str.{IsUtf8, is_utf8}
use Rattle.std.proofs.lemmas.Str.{is_utf8-from_IsUtf8}
use Rattle.language_server.proofs.Fixing.{not_utf8}
use Rattle.language_server.proofs.nearest.text_of.Goals as goal

of_text : {T E : Type 0} (bytes : List ℕ) (now : T → List ℕ) (V : E → Type 0) (r : Result T E) → MatchResult r (λ text. (now text ≡ bytes) × IsUtf8 bytes) (λ e. (IsUtf8 bytes → ⊥) × V e) → MatchOption (result_ok r) (is_utf8 bytes ≡ false) (λ text. (is_utf8 bytes ≡ true) × (now text ≡ bytes))
of_text bytes now V (Ok text) is = (is_utf8-from_IsUtf8 bytes is.1, is.0)
of_text bytes now V (Err e) none = not_utf8 bytes none.0

pub returns : goal.returns
returns c = rw (c.ok.ensures.value) (of_text c.args.bytes.now (λ text. text.now) _ c.from_utf8.result c.from_utf8.ensures.cases)
