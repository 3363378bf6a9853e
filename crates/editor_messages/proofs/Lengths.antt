-- The length that a header gives, a line at a time.
use Rattle.std.proofs.Common.{◌≡◌, ℕ, List, ◌∷◌, Some, None, sym, ap, ◌∙◌}
use Rattle.mvs_model.specs.Lines.{lines_of}
use Rattle.editor_messages.specs.Frames.{length_in, length_of, or_else}

pub found_here : (line text next : List ℕ) (n : ℕ) → lines_of text ≡ line ∷ lines_of next → length_in line ≡ Some n → Some n ≡ length_of (lines_of text)
found_here line text next n cut is = sym (ap length_of cut ∙ ap (λ o. or_else o (length_of (lines_of next))) is)

pub not_here : (line text next : List ℕ) → lines_of text ≡ line ∷ lines_of next → length_in line ≡ None → length_of (lines_of next) ≡ length_of (lines_of text)
not_here line text next cut is = sym (ap length_of cut ∙ ap (λ o. or_else o (length_of (lines_of next))) is)
