-- Names in the order of the lines that set them.
use Rattle.std.proofs.Common.{◌≡◌, ℕ, ◌<◌, ◌≤◌, Bool, true, false, List, [], ◌∷◌, cond, Option, Some, None, refl, sym, ap, subst, ◌∙◌, arith, length}
use Rattle.std.specs.Prelude.{nat_eq}
use Rattle.std.specs.List.{All, Contains, filter}
use Rattle.std.specs.List.Sorted.{IsPermutation}
use Rattle.std.specs.FinMap as map
use Rattle.std.proofs.lemmas.Bool.{eq-eqb, ne_eqb}
use Rattle.std.proofs.lemmas.List.Elements.{All-nil, All-cons, All-weaker, All-contains, Contains-append_right}
use Rattle.std.proofs.lemmas.List.Kept.{IsNonDecreasingBy-filter}
use Rattle.std.proofs.lemmas.List.Sorted.{Contains-permutation, IsNonDecreasingBy-short}
use Rattle.mvs_model.specs.declared.name.Name.{Name}
use Rattle.mvs_model.specs.Job.{JobValue}
use Rattle.mvs_model.specs.Name.{name_cmp, same_name}
use Rattle.mvs_model.proofs.Orders.{name_cmp_total, same_name_is}
use Rattle.mvs_job.specs.declared.name_origins.NamedAddress.{NamedAddress}
use Rattle.mvs_job.specs.NamedAddress.{NameOrigins, naming_at}
use Rattle.mvs_job.specs.NameOrder.{HasLatest, IsInOrder, is_at, is_latest, said_by}

module _ {X : Type 0} (p : X → Bool) where
  abbrev IsKept : List X → X → Type 0
  IsKept xs x = p x ≡ true → Contains (filter p xs) x

  -- each element that passes is in what a filter keeps
  each_kept : (xs : List X) → All (IsKept xs) xs
  each_kept [] = All-nil (IsKept [])
  each_kept (y ∷ ys) = All-cons (IsKept (y ∷ ys)) y ys first (All-weaker (IsKept ys) (IsKept (y ∷ ys)) (λ z h is. behind (p y) z (h is)) ys (each_kept ys)) where
    first : p y ≡ true → Contains (filter p (y ∷ ys)) y
    first is = rw is (0, (omega arith), refl)

    behind : (b : Bool) (z : X) → Contains (filter p ys) z → Contains (cond b (y ∷ filter p ys) (filter p ys)) z
    behind true z h = Contains-append_right (y ∷ []) (filter p ys) z h
    behind false z h = h

  pub contained_in_filter : (xs : List X) (x : X) → Contains xs x → p x ≡ true → Contains (filter p xs) x
  contained_in_filter xs x h = All-contains (IsKept xs) xs x (each_kept xs) h

-- no name
pub none_in_order : (set : NameOrigins) (order : List (Name × ℕ)) → set ≡ map.empty → order ≡ [] → IsInOrder order × HasLatest set order
none_in_order set order none empty = (IsNonDecreasingBy-short (λ e. e.1) order (subst (λ (es : List (Name × ℕ)). length es ≤ 1) (sym empty) (omega arith)), λ name number is. absurd (let f : None ≡ Some number = sym (map.get-empty name_cmp name) ∙ ap (λ m. map.get m name) (sym none) ∙ is in cc))

module _ (set : NameOrigins) (order : List (Name × ℕ)) where
  -- what is kept of the order has each name with the line that set it last
  pub former_dropped : (new : List (Name × ℕ)) → new ≡ filter (is_latest set) order → IsInOrder order → HasLatest set order → IsInOrder new × HasLatest set new
  former_dropped new is rises latest = (subst IsInOrder (sym is) (IsNonDecreasingBy-filter (λ e. e.1) (is_latest set) order rises), λ name number by. subst (λ es. Contains es (name, number)) (sym is) (contained_in_filter (is_latest set) order (name, number) (latest name number by) (ap (is_at number) by ∙ eq-eqb number number refl)))

  module _ (name : Name) (number : ℕ) (new : List (Name × ℕ)) (more : IsPermutation ((name, number) ∷ order) new) (latest : HasLatest set order) where
    -- one more name in the order
    pub former_stay : HasLatest set new
    former_stay q m is = Contains-permutation ((name, number) ∷ order) new (q, m) more (Contains-append_right ((name, number) ∷ []) order (q, m) (latest q m is))

    pub one_is_set : (later : NameOrigins) → later ≡ map.insert set name number → HasLatest later new
    one_is_set later is q m by = at (same_name q name) refl (sym (map.get-insert name_cmp_total set name number q) ∙ ap (λ s. map.get s q) (sym is) ∙ by) where
      at : (b : Bool) → same_name q name ≡ b → cond b (Some number) (map.get set q) ≡ Some m → Contains new (q, m)
      at true same k =
          let name_is : q ≡ name = same_name_is q name same in
          let number_is : m ≡ number = cc in
          let first : Contains ((name, number) ∷ order) (name, number) = (0, (omega arith), refl) in
          subst (λ (e : Name × ℕ). Contains new e) (λ i. (sym name_is i, sym number_is i)) (Contains-permutation ((name, number) ∷ order) new (name, number) more first)
      at false other k = former_stay q m k

-- what a name says by the line that set it last
module _ (job : JobValue) (set : NameOrigins) (a : ℕ) (name : Name) (number : ℕ) where
  pub nothing_said : map.get set name ≡ None → None ≡ said_by job set a (name, number)
  nothing_said is = ap (λ o. cond (is_at number o) (naming_at job a (name, number)) None) (sym is)

  pub said_last : (latest : ℕ) → map.get set name ≡ Some latest → latest ≡ number → naming_at job a (name, number) ≡ said_by job set a (name, number)
  said_last latest is same = ap (λ b. cond b (naming_at job a (name, number)) None) (sym (ap (is_at number) is ∙ eq-eqb latest number same))

  pub said_before : (latest : ℕ) → map.get set name ≡ Some latest → (latest ≡ number → ⊥) → None ≡ said_by job set a (name, number)
  said_before latest is other = ap (λ b. cond b (naming_at job a (name, number)) None) (sym (ap (is_at number) is ∙ ne_eqb latest number other))
