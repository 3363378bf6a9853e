-- Texts without their blanks, and names as they are shown.
use Rattle.std.proofs.Common.{◌≡◌, ℕ, ◌+◌, ◌<◌, ◌==◌, ◌&&◌, ◌||◌, nat_le, nat_lt, Bool, true, false, if◌then◌else◌, List, [], ◌∷◌, ◌++◌, length, get_or, take, drop, reverse, arith, append_assoc, refl, sym, ap, ◌∙◌}
use Rattle.std.proofs.lemmas.List.{drop-drop, drop_more, take_more, reverse-append, reverse-reverse}
use Rattle.expected_answers.specs.ExpectedAnswers.{after_blanks}
use Rattle.expected_answers.specs.Reports.{is_wide, shown_name, shown_name_byte}

-- a blank is left out
pub skip_blank : (text : List ℕ) (i : ℕ) → i < length text → get_or text i 0 ≡ 32 → after_blanks (drop (i + 1) text) ≡ after_blanks (drop i text)
skip_blank text i inside blank = sym (ap after_blanks (drop_more text i 0 inside ∙ ap (λ b. b ∷ drop (i + 1) text) blank))

not_blank : (b : ℕ) (text : List ℕ) → (b == 32) ≡ false → after_blanks (b ∷ text) ≡ b ∷ text
not_blank b text is = rw is refl

-- another byte is not
pub stop_blank : (text : List ℕ) (i : ℕ) → i < length text → (get_or text i 0 == 32) ≡ false → after_blanks (drop i text) ≡ drop i text
stop_blank text i inside is =
    let cut = drop_more text i 0 inside in
    ap after_blanks cut ∙ not_blank (get_or text i 0) (drop (i + 1) text) is ∙ sym cut

-- the last of some bytes
last_of : (text : List ℕ) (i : ℕ) → i < length text → reverse (take (i + 1) text) ≡ get_or text i 0 ∷ reverse (take i text)
last_of text i inside = ap reverse (take_more text i 0 inside) ∙ reverse-append (take i text) (get_or text i 0 ∷ [])

pub skip_last : (text : List ℕ) (i : ℕ) → i < length text → get_or text i 0 ≡ 32 → after_blanks (reverse (take i text)) ≡ after_blanks (reverse (take (i + 1) text))
skip_last text i inside blank = sym (ap after_blanks (last_of text i inside ∙ ap (λ b. b ∷ reverse (take i text)) blank))

pub stop_last : (text : List ℕ) (i : ℕ) → i < length text → (get_or text i 0 == 32) ≡ false → reverse (after_blanks (reverse (take (i + 1) text))) ≡ take (i + 1) text
stop_last text i inside is =
    let cut = last_of text i inside in
    ap reverse (ap after_blanks cut ∙ not_blank (get_or text i 0) (reverse (take i text)) is ∙ sym cut) ∙ reverse-reverse (take (i + 1) text)

-- a control character of two bytes
wide_point : (text : List ℕ) → is_wide text ≡ true → shown_name text ≡ 46 ∷ shown_name (drop 2 text)
wide_point [] is = absurd (let no : false ≡ true = is in cc)
wide_point (b ∷ []) is = absurd (let no : false ≡ true = is in cc)
wide_point (b ∷ (c ∷ bs)) is = rw is refl

narrow_byte : (b : ℕ) (bs : List ℕ) → is_wide (b ∷ bs) ≡ false → shown_name (b ∷ bs) ≡ shown_name_byte b ∷ shown_name bs
narrow_byte b [] is = refl
narrow_byte b (c ∷ bs) is = rw is refl

-- the name so far, and one character more
pub wide_more : (shown name : List ℕ) (at : ℕ) → is_wide (drop at name) ≡ true → (shown ++ 46 ∷ []) ++ shown_name (drop (at + 2) name) ≡ shown ++ shown_name (drop at name)
wide_more shown name at is =
    append_assoc shown (46 ∷ []) (shown_name (drop (at + 2) name)) ∙ ap (λ t. shown ++ (46 ∷ shown_name t)) (sym (drop-drop 2 at name)) ∙ ap (λ t. shown ++ t) (sym (wide_point (drop at name) is))

pub narrow_more : (shown name : List ℕ) (at : ℕ) → at < length name → is_wide (drop at name) ≡ false
    → (shown ++ shown_name_byte (get_or name at 0) ∷ []) ++ shown_name (drop (at + 1) name) ≡ shown ++ shown_name (drop at name)
narrow_more shown name at inside is =
    let cut = drop_more name at 0 inside in
    append_assoc shown (shown_name_byte (get_or name at 0) ∷ []) (shown_name (drop (at + 1) name))
    ∙ ap (λ t. shown ++ t) (sym (narrow_byte (get_or name at 0) (drop (at + 1) name) (sym (ap is_wide cut) ∙ is)) ∙ ap shown_name (sym cut))
