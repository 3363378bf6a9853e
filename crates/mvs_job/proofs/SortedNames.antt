-- Of the orders of some names one is sorted.
use Rattle.std.proofs.Common.{◌≡◌, ◌∙◌, ℕ, suc, ◌+◌, ◌<◌, Bool, true, false, cond, List, [], ◌∷◌, count_by, Ordering, Less, Equal, Greater, is_lt, is_gt, is_eq, true≢false, refl, sym, ap, arith, add-one}
use Rattle.std.specs.List.{AllByRecursion}
use Rattle.std.specs.List.Sorted.{IsSorted, IsPermutation}
use Rattle.std.specs.Ordering.{ordering_reverse}
use Rattle.std.proofs.lemmas.Cmp.{alike_right, upto}
use Rattle.std.proofs.lemmas.List.Sums.{sum_by-cons}
use Rattle.std.proofs.lemmas.List.Sorted.{sum_by-IsPermutation}
use Rattle.mvs_model.specs.declared.name.Name.{Name}
use Rattle.mvs_model.specs.Name.{name_cmp, same_name}
use Rattle.mvs_model.proofs.Orders.{name_cmp_total, same_name_is, same_name_self}

abbrev AtMost : Name → Name → Type 0
AtMost a b = is_gt (name_cmp a b) ≡ false

abbrev Rises : List Name → Type 0
Rises [] = Unit {0}
Rises (x ∷ xs) = AllByRecursion (AtMost x) xs × Rises xs

turned : (o : Ordering) → is_lt o ≡ false → is_gt (ordering_reverse o) ≡ false
turned Less h = h
turned Equal h = refl
turned Greater h = refl

all_above : (x y : Name) (ys : List Name) → AtMost x y → AllByRecursion (AtMost y) ys → AllByRecursion (AtMost x) ys
all_above x y [] low up = tt
all_above x y (z ∷ ys) low up = (upto name_cmp_total x y z low up.0, all_above x y ys low up.1)

below_all : (x : Name) (ys : List Name) → IsSorted name_cmp (x ∷ ys) → Rises ys → AllByRecursion (AtMost x) ys
below_all x [] sorted up = tt
below_all x (y ∷ ys) sorted up =
    let first : AtMost x y = ap is_gt (name_cmp_total.antisymm x y) ∙ turned _ (sorted 0 x (omega arith) (omega arith)) in
    (first, all_above x y ys first up.0)

rises : (xs : List Name) → IsSorted name_cmp xs → Rises xs
rises [] sorted = tt
rises (x ∷ xs) sorted =
    let tail : IsSorted name_cmp xs = λ k d p q. rw add-one (rw add-one at (sorted (suc k) d (omega arith) (omega arith))) in
    let up = rises xs tail in
    (below_all x xs sorted up, up)

still_less : (x y z : Name) → name_cmp x y ≡ Less → AtMost y z → same_name x z ≡ false
still_less x y z h up = go (name_cmp y z) refl up where
  go : (b : Ordering) → name_cmp y z ≡ b → is_gt b ≡ false → same_name x z ≡ false
  go Less q t = ap is_eq (name_cmp_total.trans x y z h q)
  go Equal q t = ap is_eq (sym (alike_right name_cmp_total y z x q) ∙ h)
  go Greater q t = absurd (true≢false t)

abbrev count : Name → List Name → ℕ
count q xs = count_by (same_name q) xs

one : Bool → ℕ
one b = cond b 1 0

count_more : (q x : Name) (xs : List Name) → count q (x ∷ xs) ≡ one (same_name q x) + count q xs
unfolding one
count_more q x xs = sum_by-cons (λ z. cond (same_name q z) 1 0) x xs

unequal : (a b : ℕ) → a ≡ one false → b ≡ 0 → a + b ≡ 0
unfolding one
unequal a b first second = omega (arith, first, second)

absent : (x y : Name) (ys : List Name) → name_cmp x y ≡ Less → AllByRecursion (AtMost y) ys → count x ys ≡ 0
absent x y [] less up = refl
absent x y (z ∷ ys) less up = count_more x z ys ∙ unequal _ _ (ap one (still_less x y z less up.0)) (absent x y ys less up.1)

present : (x : Name) (xs : List Name) → count x (x ∷ xs) ≡ 1 + count x xs
unfolding one
present x xs = count_more x x xs ∙ ap (λ b. one b + count x xs) (same_name_self x)

missing : (x y : Name) (ys : List Name) → name_cmp x y ≡ Less → AllByRecursion (AtMost y) ys → count x (y ∷ ys) ≡ 0
missing x y ys less up = count_more x y ys ∙ unequal _ _ (ap (λ o. one (is_eq o)) less) (absent x y ys less up)

same_rest : (x y : Name) (xs ys : List Name) → x ≡ y → ((q : Name) → count q (y ∷ ys) ≡ count q (x ∷ xs)) → (q : Name) → count q ys ≡ count q xs
same_rest x y xs ys head same q = omega (arith, same q, count_more q x xs, count_more q y ys, ap (λ n. one (same_name q n)) head)

one_order : (xs ys : List Name) → Rises xs → Rises ys → ((q : Name) → count q ys ≡ count q xs) → ys ≡ xs
one_order [] [] low high same = refl
one_order [] (y ∷ ys) low high same = absurd (omega (arith, same y, present y ys))
one_order (x ∷ xs) [] low high same = absurd (omega (arith, same x, present x xs))
one_order (x ∷ xs) (y ∷ ys) low high same = go (name_cmp x y) refl (λ head. one_order xs ys low.1 high.1 (same_rest x y xs ys head same)) where
  go : (o : Ordering) → name_cmp x y ≡ o → (x ≡ y → ys ≡ xs) → y ∷ ys ≡ x ∷ xs
  go Less e more = absurd (omega (arith, same x, present x xs, missing x y ys e high.0))
  go Greater e more =
      let less : name_cmp y x ≡ Less = name_cmp_total.antisymm y x ∙ ap ordering_reverse e in
      absurd (omega (arith, same y, present y ys, missing y x xs less low.0))
  go Equal e more = let head : x ≡ y = same_name_is x y (ap is_eq e) in λ i. sym head i ∷ more head i

-- a sorted list of the same names as a sorted one is the same list
pub sorted_same : (xs ys : List Name) → IsSorted name_cmp xs → IsSorted name_cmp ys → IsPermutation xs ys → ys ≡ xs
sorted_same xs ys low high same = one_order xs ys (rises xs low) (rises ys high) (λ q. sum_by-IsPermutation (λ z. cond (same_name q z) 1 0) xs ys same)
