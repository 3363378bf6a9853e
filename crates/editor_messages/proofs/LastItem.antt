-- The last item of a list.
use Rattle.std.proofs.Common.{◌≡◌, ℕ, suc, ◌-◌, List, [], ◌∷◌, length, refl, arith, sym, ap, ◌∙◌}
use Rattle.std.specs.Prelude.{Option, None, Some, map, option_map, slice_get}
use Rattle.std.specs.Option.{option_copied}
use Rattle.std.specs.Borrow.{Bor}
use Rattle.std.proofs.lemmas.Option.{slice_get-map}
use Rattle.std.proofs.lemmas.List.{length-map}
use Rattle.json.specs.Json.{Json}
use Rattle.json.specs.Value.{items_of}
use Rattle.editor_messages.specs.Queries.{last_item}

at_last : (js : List Json) → last_item (items_of js) ≡ slice_get js (length js - 1)
at_last [] = refl
at_last (j ∷ []) = refl
at_last (j ∷ (k ∷ js)) =
    let one : length (k ∷ js) - 1 ≡ length js = omega arith in
    let two : length (j ∷ (k ∷ js)) - 1 ≡ suc (length js) = omega arith in
    at_last (k ∷ js) ∙ ap (slice_get (k ∷ js)) one ∙ sym (ap (slice_get (j ∷ (k ∷ js))) two)

copied : {V : Type 0} (f : V → Json) (r : Option (Bor V)) → option_map (λ v. f v.now) r ≡ option_map f (option_copied r)
copied f None = refl
copied f (Some v) = refl

pub last_viewed : {V : Type 0} (f : V → Json) (r : Option (Bor V)) (xs : List V) → option_copied r ≡ slice_get xs (length xs - 1) → option_map (λ v. f v.now) r ≡ last_item (items_of (map f xs))
last_viewed f r xs is =
    let same : length xs - 1 ≡ length (map f xs) - 1 = ap (λ n. n - 1) (sym (length-map xs f)) in
    copied f r ∙ ap (option_map f) is ∙ sym (slice_get-map f xs (length xs - 1)) ∙ ap (slice_get (map f xs)) same ∙ sym (at_last (map f xs))
