-- The sets of numbers that ATTACH gives and shares.
use Rattle.std.proofs.Common.{◌≡◌, ℕ, List, [], ◌∷◌, ◌++◌, map, sym, ap, subst, ◌∙◌, append-nil, true, false, Option, Some, None}
use Rattle.std.specs.Prelude.{◌&&◌, is_some, if◌then◌else◌}
use Rattle.mvs_model.specs.Reading.{number, numbers_in, is_list, items, is_number}
use Rattle.job_script.specs.Items.{items_in}
use Rattle.job_script.specs.LineMeaning.{AreGiven, AreGifts, if_list}
use Rattle.job_script.proofs.Conflicts.{no_comma}
use Rattle.job_script.proofs.SameNumbers.{number_digits}
use Rattle.mvs_model.proofs.ReadingTaken.{and_true}

-- a number alone is the one item of its text
pub alone : (text : List ℕ) → AreGiven (Some text) → is_list text ≡ false → items_in text ≡ text ∷ []
alone text given l =
    let one = subst (λ b. if_list b text) l given in
    no_comma text (number_digits text (and_true (is_number text) true one.digits).0)

pub alone_given : (text : List ℕ) → AreGiven (Some text) → is_list text ≡ false → AreGifts (items_in text)
alone_given text given l = subst AreGifts (sym (alone text given l)) (subst (λ b. if_list b text) l given)

pub alone_numbers : (text : List ℕ) → AreGiven (Some text) → is_list text ≡ false → map number (items_in text) ≡ numbers_in (Some text)
alone_numbers text given l = ap (map number) (alone text given l) ∙ sym (ap (λ b. if b then map number (items text) else number text ∷ []) l)

-- where one of two is there, the other is not
pub only_one : (a b : Option (List ℕ)) (text : List ℕ) → (is_some a && is_some b) ≡ false → a ≡ Some text → numbers_in (Some text) ≡ numbers_in a ++ numbers_in b
only_one None b text both is = absurd (let f : None ≡ Some text = is in cc)
only_one (Some x) None text both is = ap numbers_in (sym is) ∙ sym (append-nil (numbers_in (Some x)))
only_one (Some x) (Some y) text both is = absurd (let f : true ≡ false = both in cc)
