-- Texts, parted at separators; a line, parted at its arrow.
use Rattle.std.proofs.Common.{◌≡◌, ℕ, ◌+◌, List, length, drop, refl, sym, ap, ◌∙◌, Option, Some, None}
use Rattle.std.specs.Prelude.{is_some}
use Rattle.std.specs.Option.{option_map}
use Rattle.expected_answers.specs.Blank.{IsPartedAt, arrow, place_of, up_to}
use Rattle.expected_answers.specs.ExpectedAnswers.{after_place, answers_in, trimmed}

pub parted_length : (text before : List ℕ) (after : Option (List ℕ)) → IsPartedAt arrow text before after → length before ≡ length (up_to (place_of arrow text) text)
parted_length text before None is = ap length is.1 ∙ sym (ap (λ place. length (up_to place text)) is.0)
parted_length text before (Some after) is = ap length is.2 ∙ sym (ap (λ place. length (up_to place text)) is.1)

pub parted_answers : (text before : List ℕ) (after : Option (List ℕ)) → IsPartedAt arrow text before after → answers_in text ≡ option_map trimmed after
parted_answers text before None is = ap (λ place. option_map trimmed (option_map (λ n. drop (n + length arrow) text) place)) is.0
parted_answers text before (Some after) is =
    ap (λ place. option_map trimmed (option_map (λ n. drop (n + length arrow) text) place)) is.1 ∙ ap (λ rest. Some (trimmed rest)) (sym is.3)

pub parted_after : (separator text before : List ℕ) (after : Option (List ℕ)) → IsPartedAt separator text before after → after ≡ after_place separator text
parted_after separator text before None is = sym (ap (λ place. option_map (λ n. drop (n + length separator) text) place) is.0)
parted_after separator text before (Some after) is =
    ap (λ rest. Some rest) is.3 ∙ sym (ap (λ place. option_map (λ n. drop (n + length separator) text) place) is.1)

-- a text has a part, if there is something after it
pub has_after : (separator text : List ℕ) (after : Option (List ℕ)) → after ≡ after_place separator text → is_some after ≡ is_some (place_of separator text)
has_after separator text after is = ap is_some is ∙ by (place_of separator text) where
  by : (place : Option ℕ) → is_some (option_map (λ n. drop (n + length separator) text) place) ≡ is_some place
  by None = refl
  by (Some n) = refl
