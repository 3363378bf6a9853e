-- The pages of some subpools are given up one by one.
use Rattle.std.proofs.Common.{◌≡◌, ◌≢◌, ℕ, ◌+◌, ◌*◌, ◌/◌, ◌<◌, ◌≤◌, ◌⊎◌, ◌&&◌, Bool, true, false, cond, Option, None, List, length, length-set, get_or, set, ltb, refl, sym, ap, ◌∙◌, inl, inr, arith}
use Rattle.std.proofs.lemmas.Bool.{cases_lt, cases_eq, lt-ltb, le-ltb}
use Rattle.std.proofs.lemmas.Grind.{get_or-set_at}
use Rattle.std.proofs.lemmas.List.{get_or-set_other, get_or_past}
use Rattle.mvs_model.specs.Finite.{has}
use Rattle.page_map.specs.Owners.{owner_of, IsFirst}
use Rattle.subpool_store.specs.Edits.{IsMarked, IsDropped}
use Rattle.subpool_store.proofs.Ranges.{in_range_from, out_of_range_from}

-- whether a page is one of those given up so far
abbrev goes : (ℕ → Bool) → List (Option ℕ) → ℕ → ℕ → Bool
goes test pages n p = ltb p n && has test (owner_of pages p)

-- a page that is passed is not given up
not_gone : (test : ℕ → Bool) (pages : List (Option ℕ)) (n p : ℕ) → (p < n → has test (owner_of pages p) ≡ false) → goes test pages n p ≡ false
not_gone test pages n p h = elim (cases_lt p n) [
  | inl low ↦ ap (λ b. b && has test (owner_of pages p)) (lt-ltb p n low) ∙ h low
  | inr past ↦ ap (λ b. b && has test (owner_of pages p)) (le-ltb p n past)
]

module _ (test : ℕ → Bool) (bits bits1 bits2 : List Bool) (pages pages1 pages2 : List (Option ℕ)) (n m : ℕ) (was : IsDropped test bits pages n bits1 pages1) (found : has test (owner_of pages1 n) ≡ true)
    (closed : pages2 ≡ set pages1 n None) (cleared : IsMarked bits1 (512 * n) (512 * n + 512) false bits2) (first : IsFirst (has test) pages2 (n + 1) m) where
  after : n + 1 ≤ m
  after = first.after

  here : has test (owner_of pages n) ≡ true
  here = ap (has test) (sym (was.owners n ∙ ap (λ b. cond b None (owner_of pages n)) (ap (λ b. b && has test (owner_of pages n)) (le-ltb n n (omega arith))))) ∙ found

  elsewhere : (p : ℕ) → p ≢ n → owner_of pages2 p ≡ owner_of pages1 p
  elsewhere p d = ap (λ xs. owner_of xs p) closed ∙ get_or-set_other pages1 n p None None d

  -- a page apart goes by the new bound exactly if it goes by the former
  same_goes : (p : ℕ) → p ≢ n → goes test pages m p ≡ goes test pages n p
  same_goes p d = elim (cases_lt p n) [
    | inl low ↦ ap (λ b. b && has test (owner_of pages p)) (lt-ltb p m (let a : n + 1 ≤ m = after in omega arith) ∙ sym (lt-ltb p n low))
    | inr high ↦
        let none : goes test pages n p ≡ false = ap (λ b. b && has test (owner_of pages p)) (le-ltb p n high) in
        not_gone test pages m p (λ low. ap (has test) (sym (elsewhere p d ∙ was.owners p ∙ ap (λ b. cond b None (owner_of pages p)) none)) ∙ first.passed p (omega (arith, d)) low) ∙ sym none
  ]

  gone_here : goes test pages m n ≡ true
  gone_here = ap (λ b. b && has test (owner_of pages n)) (lt-ltb n m (let a : n + 1 ≤ m = after in omega arith)) ∙ here

  pub dropped_next : IsDropped test bits pages m bits2 pages2
  dropped_next = record {
    bits_size = cleared.sizes ∙ was.bits_size;
    pages_size = ap length closed ∙ length-set pages1 n None ∙ was.pages_size;
    owners = λ p. owners p (cases_eq p n);
    each = λ i. each i (cases_eq (i / 512) n);
  } where
    none_at : (xs : List (Option ℕ)) (k : ℕ) → owner_of (set xs k None) k ≡ None
    none_at xs k = elim (cases_lt k (length xs)) [
      | inl low ↦ get_or-set_at xs k k None None refl low
      | inr past ↦ get_or_past (set xs k None) k None (let l : length (set xs k None) ≡ length xs = length-set xs k None in omega (arith, l))
    ]

    owners : (p : ℕ) → (p ≡ n) ⊎ (p ≢ n) → owner_of pages2 p ≡ cond (goes test pages m p) None (owner_of pages p)
    owners p (inl e) =
        ap (owner_of pages2) e ∙ ap (λ xs. owner_of xs n) closed ∙ none_at pages1 n
        ∙ sym (ap (λ b. cond b None (owner_of pages p)) (ap (goes test pages m) e ∙ gone_here))
    owners p (inr d) = elsewhere p d ∙ was.owners p ∙ ap (λ b. cond b None (owner_of pages p)) (sym (same_goes p d))

    each : (i : ℕ) → (i / 512 ≡ n) ⊎ (i / 512 ≢ n) → get_or bits2 i false ≡ cond (goes test pages m (i / 512)) false (get_or bits i false)
    each i (inl e) =
        cleared.each i ∙ ap (λ b. cond b false (get_or bits1 i false)) (in_range_from (512 * n) (512 * n + 512) i (omega arith) (omega arith))
        ∙ sym (ap (λ b. cond b false (get_or bits i false)) (ap (goes test pages m) e ∙ gone_here))
    each i (inr d) =
        cleared.each i ∙ ap (λ b. cond b false (get_or bits1 i false)) (out_of_range_from (512 * n) (512 * n + 512) i (λ low. elim (cases_lt i (512 * n + 512)) [ inr past ↦ past | inl high ↦ absurd (d (omega arith)) ]))
        ∙ was.each i ∙ ap (λ b. cond b false (get_or bits i false)) (sym (same_goes (i / 512) d))
