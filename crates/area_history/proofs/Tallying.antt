-- What is left of areas, from the last one to the first.
use Rattle.std.proofs.Common.{◌≡◌, ℕ, ◌+◌, ◌*◌, ◌/◌, ◌<◌, ◌≤◌, ◌&&◌, ◌||◌, ◌==◌, Bool, true, false, not, List, [], ◌∷◌, ◌++◌, append-nil, length, take, drop, get_or, refl, sym, ap, ◌∙◌, subst, arith, suc, zero}
use Rattle.std.specs.List.{AllByRecursion}
use Rattle.std.proofs.lemmas.Grind.{common_steps}
use Rattle.std.proofs.Math.Seq.{drop-cons}
use Rattle.std.proofs.Common.{length-append, if◌then◌else◌}
use Rattle.mvs_model.specs.Finite.{count_below}
use Rattle.mvs_model.specs.Place.{PlaceValue}
use Rattle.mvs_model.proofs.Below.{count_same}
use Rattle.area_history.specs.declared.grant.AreaGrant.{AreaGrant}
use Rattle.area_history.specs.declared.grant.Leak.{Leak}
use Rattle.area_history.specs.Leaking.{Fit, HasRoom, Marks, has_doubleword, has_room, is_covered, is_left, is_marked, leak_of, leaks, ranked, total}

-- the doublewords that are left, by the marks
pub left_same : (plain : ℕ → Bool) (marks : Marks) (later : List AreaGrant) (p : PlaceValue) → ((d : ℕ) → is_marked marks d ≡ is_covered later d)
    → count_below (p.len / 8) (λ k. plain (p.addr / 8 + k) && not (is_marked marks (p.addr / 8 + k))) ≡ count_below (p.len / 8) (λ k. is_left plain later (p.addr / 8 + k))
left_same plain marks later p same = count_same (p.len / 8) (λ k. plain (p.addr / 8 + k) && not (is_marked marks (p.addr / 8 + k))) (λ k. is_left plain later (p.addr / 8 + k)) (λ k h. ap (λ b. plain (p.addr / 8 + k) && not b) (same (p.addr / 8 + k)))

-- one of some areas has a mark for each of its doublewords
pub fit_at : (marks : Marks) (grants : List AreaGrant) (i : ℕ) (d : AreaGrant) → Fit marks grants → i < length grants → HasRoom marks (get_or grants i d).place
fit_at marks [] i d fit h = absurd (omega arith)
fit_at marks (g ∷ grants) zero d fit h = fit.0
fit_at marks (g ∷ grants) (suc i) d fit h = fit_at marks grants i d fit.1 (omega arith)

pub fit_longer : (old new : Marks) (grants : List AreaGrant) → ((d : ℕ) → has_room old d ≡ true → has_room new d ≡ true) → Fit old grants → Fit new grants
fit_longer old new [] h fit = fit
fit_longer old new (g ∷ grants) h fit = (λ d x. h d (fit.0 d x), fit_longer old new grants h fit.1)

pub fit_same : (old new : Marks) (grants : List AreaGrant) → ((d : ℕ) → has_room new d ≡ has_room old d) → Fit old grants → Fit new grants
fit_same old new grants same fit = fit_longer old new grants (λ d h. same d ∙ h) fit

pub fit_more : (marks : Marks) (grants : List AreaGrant) (g : AreaGrant) → Fit marks grants → HasRoom marks g.place → Fit marks (grants ++ g ∷ [])
fit_more marks [] g fit h = (h, tt)
fit_more marks (x ∷ grants) g fit h = (fit.0, fit_more marks grants g fit.1 h)

-- a list from a place on begins with the item there
pub from_here : {A : Type 0} (grants : List A) (i j : ℕ) (g : A) → i < length grants → j ≡ i + 1 → g ≡ get_or grants i g → drop i grants ≡ g ∷ drop j grants
from_here grants i j g h e is = drop-cons grants i g h ∙ ap (λ x. x ∷ drop (suc i) grants) (sym is) ∙ ap (λ k. g ∷ drop k grants) (let f : suc i ≡ j = omega arith in f)

pub is_eight : (n : ℕ) → n ≡ 0 → (8 * n == 0) ≡ true
is_eight n e = grind (arith, common_steps)

pub some_eight : (n : ℕ) → (n == 0) ≡ false → (8 * n == 0) ≡ false
some_eight n e = grind (arith, common_steps)

pub leak_most : (g : AreaGrant) (n : ℕ) → length (leak_of g n) ≤ 1
leak_most g n = at (n == 0) where
  at : (b : Bool) → length {A = Leak} (if b then [] else record { grant = g; bytes = n } ∷ []) ≤ 1
  at true = omega arith
  at false = omega arith

pub nothing_left : (b : Bool) → (b ≡ true → false ≡ true) → b ≡ false
nothing_left true h = sym (h refl)
nothing_left false h = refl

pub counted_both : (n : ℕ) (xs ys : List Leak) → n ≡ length ys → n + length xs ≡ length (xs ++ ys)
counted_both n xs ys e = let both = length-append xs ys in omega (arith, e, both)

total_append : (xs ys : List Leak) → total (xs ++ ys) ≡ total xs + total ys
total_append [] ys = omega arith
total_append (x ∷ xs) ys = let h = total_append xs ys in omega (arith, h)

pub summed_both : (n : ℕ) (xs ys : List Leak) → n ≡ total ys → n + total xs ≡ total (xs ++ ys)
summed_both n xs ys e = let both = total_append xs ys in omega (arith, e, both)

-- the bytes of an area that is selected, or none
pub selected_bytes : (b : Bool) (n m bytes : ℕ) → n ≡ (if b then m else 0) → 8 * m ≡ bytes → 8 * n ≡ (if b then bytes else 0)
selected_bytes true n m bytes is same = ap (λ k. 8 * k) is ∙ same
selected_bytes false n m bytes is same = omega (arith, is)

-- an area with a doubleword that is left
pub leak_some : (g : AreaGrant) (n : ℕ) → 0 < n → leak_of g (8 * n) ≡ record { grant = g; bytes = 8 * n } ∷ []
leak_some g n h = ap (λ b. if b then [] else record { grant = g; bytes = 8 * n } ∷ []) (some_eight n (not_zero n h)) where
  not_zero : (n : ℕ) → 0 < n → (n == 0) ≡ false
  not_zero n h = grind (arith, common_steps)
