-- The last two areas of each doubleword, by their numbers.
use Rattle.std.proofs.Common.{◌≡◌, ℕ, ◌+◌, ◌-◌, ◌<◌, ◌≤◌, ◌&&◌, ◌==◌, Bool, true, false, List, [], ◌∷◌, ◌++◌, append-nil, length, take, drop, get_or, Option, Some, None, refl, sym, ap, subst, ◌∙◌, arith, suc, zero, if◌then◌else◌}
use Rattle.std.specs.Prelude.{nat_le, nat_lt, slice_get}
use Rattle.std.proofs.lemmas.Grind.{common_steps}
use Rattle.std.proofs.lemmas.List.{length-take-le, take-append-le}
use Rattle.std.proofs.Math.Seq.{take-suc}
use Rattle.area_history.specs.declared.findings.LastTwo.{LastTwo}
use Rattle.area_history.specs.declared.grant.AreaGrant.{AreaGrant}
use Rattle.area_history.specs.declared.last_areas.LastAreas.{LastAreas}
use Rattle.area_history.specs.declared.last_areas.LastNumbers.{LastNumbers}
use Rattle.area_history.specs.Histories.{later_two, no_two, two_after}
use Rattle.area_history.specs.LastAreas.{IsIndexOf, area_of, areas_of, later_numbers, no_numbers, numbers_after, numbers_at}
use Rattle.area_history.specs.Leaking.{has_doubleword}
use Rattle.area_history.proofs.Marking.{is_next, next_here, next_other}
use Rattle.area_history.proofs.Visibly.{visible_longer, whole_longer}

-- ---- the doublewords of a place

-- the numbers with a later one, if it is so
abbrev pub put_if : Bool → ℕ → LastNumbers → LastNumbers
put_if b n two = if b then record { latest = n; previous = two.latest } else two

pub put_next : (first n d number : ℕ) (start before after : LastNumbers) → before ≡ put_if (is_next first n d) number start → ((d == first + n) ≡ true → after ≡ put_if true number start) → ((d == first + n) ≡ false → after ≡ before)
    → after ≡ put_if (is_next first (n + 1) d) number start
put_next first n d number start before after is here other = at (d == first + n) refl where
  at : (b : Bool) → (d == first + n) ≡ b → after ≡ put_if (is_next first (n + 1) d) number start
  at true e = here e ∙ ap (λ b. put_if b number start) (sym (next_here first n d e))
  at false e = other e ∙ is ∙ ap (λ b. put_if b number start) (sym (next_other first n d e))

-- ---- one area more

numbers_snoc : (d n : ℕ) (two : LastNumbers) (grants : List AreaGrant) (g : AreaGrant) → numbers_after d n two (grants ++ g ∷ []) ≡ later_numbers d (length grants + n) (numbers_after d n two grants) g.place
numbers_snoc d n two [] g = ap (λ k. later_numbers d k two g.place) (let e : n ≡ 0 + n = omega arith in e)
numbers_snoc d n two (x ∷ grants) g =
    numbers_snoc d (n + 1) (later_numbers d n two x.place) grants g
    ∙ ap (λ k. later_numbers d k (numbers_after d (n + 1) (later_numbers d n two x.place) grants) g.place) (let e : length grants + (n + 1) ≡ suc (length grants) + n = omega arith in e)

-- the numbers after the next area
pub numbers_next : (old mid new : LastAreas) (grants : List AreaGrant) (g : AreaGrant) → IsIndexOf old grants → old.count < length grants → g ≡ get_or grants old.count g → new.count ≡ old.count + 1 → ((d : ℕ) → numbers_at mid d ≡ numbers_at old d)
    → ((d : ℕ) → numbers_at new d ≡ later_numbers d (old.count + 1) (numbers_at mid d) g.place) → (d : ℕ) → numbers_at new d ≡ numbers_after d 1 no_numbers (take new.count grants)
numbers_next old mid new grants g is less at counted same numbers d =
    numbers d
    ∙ ap (λ two. later_numbers d (old.count + 1) two g.place) (same d ∙ is.numbers d)
    ∙ ap (λ k. later_numbers d k (numbers_after d 1 no_numbers (take old.count grants)) g.place) (let e : old.count + 1 ≡ length (take old.count grants) + 1 = ap (λ k. k + 1) (sym (length-take-le old.count grants is.count)) in e)
    ∙ sym (numbers_snoc d 1 no_numbers (take old.count grants) g)
    ∙ ap (λ l. numbers_after d 1 no_numbers l) (sym (take-suc grants old.count g less ∙ ap (λ x. take old.count grants ++ x ∷ []) (sym at)))
    ∙ ap (λ k. numbers_after d 1 no_numbers (take k grants)) (let e : suc old.count ≡ new.count = omega (arith, counted) in e)

-- more areas are granted
pub index_more : (last : LastAreas) (grants more : List AreaGrant) → IsIndexOf last grants → IsIndexOf last (grants ++ more)
index_more last grants more is = record {
  count = longer grants more last.count is.count;
  flags = is.flags;
  whole = whole_longer last grants more is;
  visible = visible_longer last grants more 0 last.visible.items last.count is.count is.visible;
  numbers = λ d. is.numbers d ∙ ap (λ l. numbers_after d 1 no_numbers l) (sym (take-append-le last.count grants more is.count));
} where
  longer : (xs ys : List AreaGrant) (n : ℕ) → n ≤ length xs → n ≤ length (xs ++ ys)
  longer xs ys zero h = omega arith
  longer [] ys (suc n) h = absurd (omega (arith, h))
  longer (x ∷ xs) ys (suc n) h = let l = longer xs ys n (omega (arith, h)) in omega (arith, l)

-- ---- the areas with the numbers

at_number : (before after : List AreaGrant) (g : AreaGrant) → area_of (before ++ g ∷ after) (length before + 1) ≡ Some g
at_number before after g = ap (λ b. if b then None else slice_get (before ++ g ∷ after) (length before + 1 - 1)) (some (length before)) ∙ ap (λ k. slice_get (before ++ g ∷ after) k) (let e : length before + 1 - 1 ≡ length before = omega arith in e) ∙ found before where
  some : (n : ℕ) → (n + 1 == 0) ≡ false
  some n = grind (arith, common_steps)

  found : (before : List AreaGrant) → slice_get (before ++ g ∷ after) (length before) ≡ Some g
  found [] = refl
  found (x ∷ before) = found before

later_same : (grants before after : List AreaGrant) (d n : ℕ) (two : LastNumbers) (g : AreaGrant) → grants ≡ before ++ g ∷ after → n ≡ length before + 1 → areas_of grants (later_numbers d n two g.place) ≡ later_two d (areas_of grants two) g
later_same grants before after d n two g is e = at (has_doubleword g.place d) where
  named : area_of grants n ≡ Some g
  named = ap (λ k. area_of grants k) e ∙ ap (λ l. area_of l (length before + 1)) is ∙ at_number before after g

  at : (b : Bool) → areas_of grants (if b then record { latest = n; previous = two.latest } else two) ≡ (if b then record { previous = area_of grants two.latest; latest = Some g } else areas_of grants two)
  at true = ap (λ o. record { previous = area_of grants two.latest; latest = o }) named
  at false = refl

pub moved : {A : Type 0} (xs ys : List A) (x : A) → xs ++ x ∷ ys ≡ (xs ++ x ∷ []) ++ ys
moved [] ys x = refl
moved (y ∷ xs) ys x = ap (λ l. y ∷ l) (moved xs ys x)

one_longer : (xs : List AreaGrant) (x : AreaGrant) → length (xs ++ x ∷ []) ≡ length xs + 1
one_longer [] x = refl
one_longer (y ∷ xs) x = let h = one_longer xs x in omega (arith, h)

same_two : (grants before rest after : List AreaGrant) (d n : ℕ) (two : LastNumbers) → grants ≡ before ++ (rest ++ after) → n ≡ length before + 1 → areas_of grants (numbers_after d n two rest) ≡ two_after d (areas_of grants two) rest
same_two grants before [] after d n two is e = refl
same_two grants before (g ∷ rest) after d n two is e =
    same_two grants (before ++ g ∷ []) rest after d (n + 1) (later_numbers d n two g.place) (is ∙ moved before (rest ++ after) g) (let l = one_longer before g in omega (arith, l, e))
    ∙ ap (λ t. two_after d t rest) (later_same grants before (rest ++ after) d n two g is e)

whole : {A : Type 0} (xs : List A) (n : ℕ) → xs ≡ take n xs ++ drop n xs
whole xs zero = refl
whole [] (suc n) = refl
whole (x ∷ xs) (suc n) = ap (λ l. x ∷ l) (whole xs n)

-- the last two areas of those that were added
pub indexed_two : (last : LastAreas) (grants : List AreaGrant) (d : ℕ) → IsIndexOf last grants → areas_of grants (numbers_at last d) ≡ two_after d no_two (take last.count grants)
indexed_two last grants d is = ap (λ two. areas_of grants two) (is.numbers d) ∙ same_two grants [] (take last.count grants) (drop last.count grants) d 1 no_numbers (whole grants last.count) refl

two_append : (d : ℕ) (two : LastTwo) (xs ys : List AreaGrant) → two_after d (two_after d two xs) ys ≡ two_after d two (xs ++ ys)
two_append d two [] ys = refl
two_append d two (x ∷ xs) ys = two_append d (later_two d two x) xs ys

-- and of all
pub all_two : (grants : List AreaGrant) (d n : ℕ) → two_after d (two_after d no_two (take n grants)) (drop n grants) ≡ two_after d no_two grants
all_two grants d n = two_append d no_two (take n grants) (drop n grants) ∙ ap (λ l. two_after d no_two l) (sym (whole grants n))
