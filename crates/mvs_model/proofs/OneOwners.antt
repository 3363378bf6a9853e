-- The changes of tasks, tables and owners have one result.
use Rattle.std.proofs.Common.{◌≡◌, ℕ, zero, suc, ◌<◌, inl, inr, Bool, true, false, cond, List, [], ◌∷◌, Some, arith, refl, sym, ap, ◌∙◌, subst, Contains, Less}
use Rattle.std.specs.List.{AllByRecursion}
use Rattle.std.specs.List.Sorted.{IsStrictlySortedBy}
use Rattle.std.proofs.lemmas.Map.Keys.{sorted_head}
use Rattle.std.specs.Cmp.{nat_cmp_total}
use Rattle.std.specs.FinMap.{get, same_map, nat_cmp-IsAntisymmetric}
use Rattle.std.proofs.lemmas.Bool.Decides.{nat_tests}
use Rattle.std.proofs.lemmas.Grind.{common_steps}
use Rattle.mvs_model.proofs.Types.{Name, Residence}
use Rattle.mvs_model.specs.Name.{name_cmp}
use Rattle.mvs_model.specs.Gifts.{GiftsValue, shares}
use Rattle.mvs_model.specs.Owners.{Owners, SubpoolOf, Enters, EntersBelow, none, passed, entered, handed, is_given, Attach, AreDescendants, Ends}
use Rattle.mvs_model.proofs.Orders.{name_cmp_total, name_cmp-IsAntisymmetric, entry_cmp_total, entry_cmp-IsAntisymmetric}
use Rattle.mvs_model.proofs.Elements.{later, first_or_later}
use Rattle.mvs_model.proofs.Tests.{false_true, true_false}

same_owners : (a b : Owners) → ((t : Name) → get a.tasks t ≡ get b.tasks t) → ((e : Name × ℕ) → get a.table e ≡ get b.table e) → ((s : ℕ) → get a.owner s ≡ get b.owner s) → a ≡ b
same_owners a b tasks table owner = λ i. record {
  tasks = same_map name_cmp_total name_cmp-IsAntisymmetric a.tasks b.tasks tasks i;
  table = same_map entry_cmp_total entry_cmp-IsAntisymmetric a.table b.table table i;
  owner = same_map nat_cmp_total nat_cmp-IsAntisymmetric a.owner b.owner owner i;
}

pub one_subpool : (o : Owners) (t : Name) (number r s : ℕ) → SubpoolOf o t number r → SubpoolOf o t number s → r ≡ s
one_subpool o t number r s a b = grind (arith, nat_tests)

pub one_enters : (old : Owners) (t : Name) (number s : ℕ) (a b : Owners) → Enters old t number s a → Enters old t number s b → a ≡ b
one_enters old t number s a b x y = grind (arith, nat_tests, same_owners)

no_bool : {P : Type 0} (b : Bool) → b ≡ true → b ≡ false → P
no_bool b h1 h2 = grind (arith, nat_tests, false_true, true_false)

pub one_below : (old : Owners) (t : Name) (wanted : ℕ → Bool) (n : ℕ) (a b : Owners) → EntersBelow old t wanted n a → EntersBelow old t wanted n b → a ≡ b
one_below old t wanted zero a b none none = refl
one_below old t wanted (suc n) a b (passed x e) (passed y f) = one_below old t wanted n a b x y
one_below old t wanted (suc n) a b (passed x e) (entered s y f sub enters) = no_bool (wanted n) f e
one_below old t wanted (suc n) a b (entered s x e sub enters) (passed y f) = no_bool (wanted n) e f
one_below old t wanted (suc n) a b (entered r {now = now} x e sub enters) (entered s {now = other} y f sub2 enters2) =
    let same = one_below old t wanted n now other x y in
    let sub3 = subst (λ o. SubpoolOf o t n r) same sub in
    let r_is = one_subpool other t n r s sub3 sub2 in
    one_enters other t n s a b (subst (λ z. Enters other t n z a) r_is (subst (λ o. Enters o t n r a) same enters)) enters2

pub one_attach : (old : Owners) (mother name : Name) (gifts : GiftsValue) (residence : Residence) (a b : Owners) → Attach old mother name gifts residence a → Attach old mother name gifts residence b → a ≡ b
one_attach old mother name gifts residence a b x y =
    let ready = one_below old mother (shares gifts) 128 x.ready y.ready x.made y.made in
    same_owners a b (λ t. x.tasks t ∙ sym (y.tasks t))
    (λ e. x.table e.0 e.1 ∙ ap (λ o. handed o mother name gifts e.0 e.1) ready ∙ sym (y.table e.0 e.1))
    (λ s. x.owner s ∙ ap (λ o. cond (is_given o mother gifts s) (Some name) (get o.owner s)) ready ∙ sym (y.owner s))

-- strictly rising lists of the same names
all_contained : (P : Name → Type 0) (x : Name) (names : List Name) → AllByRecursion P names → Contains names x → P x
all_contained P x names h1 h2 = grind (arith, common_steps, first_or_later)

not_both : (x y : Name) → name_cmp x y ≡ Less → name_cmp y x ≡ Less → ⊥
not_both x y e f = grind (arith, nat_tests, name_cmp_total)

empty_has : (x : Name) → Contains [] x → ⊥
empty_has x c = let l : c.0 < 0 = c.1 in omega (arith, l)

head_in : (x : Name) (xs : List Name) → Contains (x ∷ xs) x
head_in x xs = (0, omega arith, refl)

tail_sorted : (x : Name) (xs : List Name) → IsStrictlySortedBy name_cmp (x ∷ xs) → IsStrictlySortedBy name_cmp xs
unfolding IsStrictlySortedBy
tail_sorted x xs h = h.1

one_list : (xs ys : List Name) → IsStrictlySortedBy name_cmp xs → IsStrictlySortedBy name_cmp ys → ((x : Name) → Contains xs x → Contains ys x) → ((x : Name) → Contains ys x → Contains xs x) → xs ≡ ys
one_list [] [] a b f g = refl
one_list [] (y ∷ ys) a b f g = absurd (empty_has y (g y (head_in y ys)))
one_list (x ∷ xs) [] a b f g = absurd (empty_has x (f x (head_in x xs)))
one_list (x ∷ xs) (y ∷ ys) a b f g =
    let below_x : (z : Name) → Contains xs z → name_cmp x z ≡ Less = λ z c. all_contained (λ z. name_cmp x z ≡ Less) z xs (sorted_head name_cmp x xs a) c in
    let below_y : (z : Name) → Contains ys z → name_cmp y z ≡ Less = λ z c. all_contained (λ z. name_cmp y z ≡ Less) z ys (sorted_head name_cmp y ys b) c in
    let same : x ≡ y = elim (first_or_later x y ys (f x (head_in x xs))) [
      | inl e ↦ sym e
      | inr c ↦ elim (first_or_later y x xs (g y (head_in y ys))) [ inl e ↦ e | inr d ↦ absurd (not_both x y (below_x y d) (below_y x c)) ]
    ] in
    let rest = one_list xs ys (tail_sorted x xs a) (tail_sorted y ys b)
    (λ z c. elim (first_or_later z y ys (f z (later z x xs c))) [ inl e ↦ absurd (let h : name_cmp x z ≡ Less = below_x z c in let s : x ≡ z = same ∙ e in not_both z z (subst (λ w. name_cmp w z ≡ Less) s h) (subst (λ w. name_cmp w z ≡ Less) s h)) | inr d ↦ d ])
    (λ z c. elim (first_or_later z x xs (g z (later z y ys c))) [ inl e ↦ absurd (let h : name_cmp y z ≡ Less = below_y z c in let s : y ≡ z = sym same ∙ e in not_both z z (subst (λ w. name_cmp w z ≡ Less) s h) (subst (λ w. name_cmp w z ≡ Less) s h)) | inr d ↦ d ]) in
    λ i. same i ∷ rest i

pub one_fallen : (o : Owners) (t : Name) (xs ys : List Name) → AreDescendants o t xs → AreDescendants o t ys → xs ≡ ys
one_fallen o t xs ys a b = one_list xs ys a.sorted b.sorted (λ x c. (b.descendants x).1 ((a.descendants x).0 c)) (λ x c. (a.descendants x).1 ((b.descendants x).0 c))

pub one_ends : (old : Owners) (t : Name) (fallen : List Name) (a b : Owners) → Ends old t fallen a → Ends old t fallen b → a ≡ b
one_ends old t fallen a b x y = same_owners a b (λ q. x.tasks q ∙ sym (y.tasks q)) (λ e. x.table e ∙ sym (y.table e)) (λ s. x.owner s ∙ sym (y.owner s))
