-- Whether each byte of a line passes, part by part.
use Rattle.std.proofs.Common.{◌≡◌, ℕ, ◌+◌, ◌-◌, ◌≤◌, List, take, drop, arith, refl, sym, ap, ◌∙◌, true, false, Bool}
use Rattle.std.specs.Prelude.{◌&&◌}
use Rattle.std.specs.List.{list_all}
use Rattle.std.proofs.lemmas.List.{take-append-drop, drop-drop}
use Rattle.std.proofs.lemmas.List.Folds.{list_all-append}
use Rattle.mvs_model.proofs.ReadingTaken.{and_true}
use Rattle.std.proofs.lemmas.Bool.{and_right}

-- of a list, and of its end
split : (p : ℕ → Bool) (n : ℕ) (xs : List ℕ) → list_all p xs ≡ (list_all p (take n xs) && list_all p (drop n xs))
split p n xs = ap (list_all p) (sym (take-append-drop n xs)) ∙ list_all-append p (take n xs) (drop n xs)

split_end : (p : ℕ → Bool) (i n : ℕ) (xs : List ℕ) → list_all p (drop i xs) ≡ (list_all p (take n (drop i xs)) && list_all p (drop (i + n) xs))
split_end p i n xs = split p n (drop i xs) ∙ ap (λ ys. list_all p (take n (drop i xs)) && list_all p ys) (drop-drop n i xs)

-- a part that passes
pub part_passes : (p : ℕ → Bool) (i n : ℕ) (xs : List ℕ) → list_all p (take n (drop i xs)) ≡ true → list_all p (drop (i + n) xs) ≡ list_all p (drop i xs)
part_passes p i n xs e = sym (split_end p i n xs ∙ ap (λ b. b && list_all p (drop (i + n) xs)) e)

-- one that does not
pub part_fails : (p : ℕ → Bool) (i n : ℕ) (xs : List ℕ) → list_all p (take n (drop i xs)) ≡ false → false ≡ list_all p (drop i xs)
part_fails p i n xs e = sym (split_end p i n xs ∙ ap (λ b. b && list_all p (drop (i + n) xs)) e)

-- where an end decides, a longer end does
pub longer_end : (p : ℕ → Bool) (j i : ℕ) (xs : List ℕ) → j ≤ i → list_all p (drop i xs) ≡ list_all p xs → list_all p (drop j xs) ≡ list_all p xs
longer_end p j i xs le e =
    (elim (list_all p (drop j xs)) as (λ b. list_all p (drop j xs) ≡ b → b ≡ list_all p xs) [
      | true ↦ λ t.
          let same : j + (i - j) ≡ i = omega arith in
          let back = (and_true (list_all p (take (i - j) (drop j xs))) (list_all p (drop (j + (i - j)) xs)) (sym (split_end p j (i - j) xs) ∙ t)).1 in
          sym back ∙ ap (λ k. list_all p (drop k xs)) same ∙ e
      | false ↦ λ f. sym (split p j xs ∙ ap (λ b. list_all p (take j xs) && b) f ∙ and_right (list_all p (take j xs)) false refl)
    ]) refl
