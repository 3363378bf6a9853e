-- How many pages are assigned to each subpool, and how many doublewords it holds, once doublewords are taken, given back or dropped.
use Rattle.std.proofs.Common.{◌≡◌, ℕ, zero, suc, ◌+◌, ◌-◌, ◌*◌, ◌/◌, ◌%◌, ◌<◌, ◌≤◌, ◌⊎◌, inl, inr, Bool, true, false, cond, List, Option, Some, None, not, is_some, eqb, refl, sym, ap, ◌∙◌, arith}
use Rattle.std.proofs.lemmas.Bool.{cases_Bool, cases_eq, eq-eqb, ne_eqb}
use Rattle.std.proofs.lemmas.Bool.Decides.{nat_tests}
use Rattle.mvs_model.specs.Finite.{count_below, has, kept}
use Rattle.mvs_model.specs.Place.{PlaceValue}
use Rattle.mvs_model.specs.Reports.{first_from}
use Rattle.mvs_model.specs.Storage.{IsWhole, PageRule, Regions, covers, end_of}
use Rattle.mvs_model.proofs.Below.{count_all, count_none, count_same}
use Rattle.mvs_model.proofs.SeenReports.{first_none, first_only}
use Rattle.subpool_store.specs.SubpoolCounts.{AreCounts, assigned_pages, count_of, held_doublewords, no_count, pages_among}
use Rattle.subpool_store.specs.declared.subpool_counts.SubpoolCount.{SubpoolCount}
use Rattle.subpool_store.proofs.Counts.{count_middle, count_most}

-- ---- the first value of a function

found_from : (k n : ℕ) (f : ℕ → Option ℕ) (x : ℕ) → first_from k n f ≡ Some x → (d : ℕ) × (k ≤ d) × (d < k + n) × (f d ≡ Some x)
unfolding first_from
found_from k zero f x e = absurd (let g : ◌≡◌ {A = Option ℕ} None (Some x) = e in cc)
found_from k (suc n) f x e = at (f k) refl (λ later. found_from (k + 1) n f x later) where
  at : (v : Option ℕ) → f k ≡ v → (first_from (k + 1) n f ≡ Some x → (d : ℕ) × (k + 1 ≤ d) × (d < k + 1 + n) × (f d ≡ Some x)) → (d : ℕ) × (k ≤ d) × (d < k + suc n) × (f d ≡ Some x)
  at (Some y) is later = (k, omega arith, omega arith, is ∙ (rw is at e))
  at None is later = let rest = later (rw is at e) in (rest.0, omega (arith, rest.1), omega (arith, rest.2), rest.3)

none_from : (k n : ℕ) (f : ℕ → Option ℕ) → first_from k n f ≡ None → (d : ℕ) → k ≤ d → d < k + n → f d ≡ None
unfolding first_from
none_from k zero f e d low high = absurd (omega arith)
none_from k (suc n) f e d low high = at (f k) refl (λ later past. none_from (k + 1) n f later d past (omega arith)) where
  at : (v : Option ℕ) → f k ≡ v → (first_from (k + 1) n f ≡ None → k + 1 ≤ d → f d ≡ None) → f d ≡ None
  at (Some y) is later = absurd (let g : ◌≡◌ {A = Option ℕ} (Some y) None = (rw is at e) in cc)
  at None is later = elim (cases_eq d k) [
    | inl same ↦ ap f same ∙ is
    | inr other ↦ later (rw is at e) (omega arith)
  ]

-- where the page rule holds, a page's subpool is that of each of its held doublewords
page_of : (h : ℕ → Option ℕ) → PageRule h → (page d t : ℕ) → 512 * page ≤ d → d < 512 * page + 512 → h d ≡ Some t → first_from (512 * page) 512 h ≡ Some t
page_of h rule page d t low high held = first_only (512 * page) 512 d h t low high held (λ e y from to f. rule e d y t (omega arith) f held)

-- ---- sums of two counts

abbrev one_if : Bool → ℕ
one_if b = cond b 1 0

same_sum : (n : ℕ) (f g f' g' : ℕ → Bool) → ((i : ℕ) → i < n → one_if (f' i) + one_if (g' i) ≡ one_if (f i) + one_if (g i)) → count_below n f' + count_below n g' ≡ count_below n f + count_below n g
unfolding count_below
same_sum zero f g f' g' each = refl
same_sum (suc n) f g f' g' each =
    let rest : count_below n f' + count_below n g' ≡ count_below n f + count_below n g = same_sum n f g f' g' (λ i low. each i (omega (arith, low))) in
    let one : one_if (f' n) + one_if (g' n) ≡ one_if (f n) + one_if (g n) = each n (omega arith) in
    (let e : (one_if (f' n) + count_below n f') + (one_if (g' n) + count_below n g') ≡ (one_if (f n) + count_below n f) + (one_if (g n) + count_below n g) = omega (arith, rest, one) in e)

-- the pages of both regions that hold nothing
abbrev pub all_free : Regions → (ℕ → Option ℕ) → ℕ
all_free r h = count_below r.below (λ p. not (is_some (first_from (512 * (6 + p)) 512 h))) + count_below r.above (λ p. not (is_some (first_from (512 * (4096 + p)) 512 h)))

nothing_counted : (n : ℕ) → count_below n (λ i. false) ≡ 0
nothing_counted n = count_none n (λ i. false) (λ i low. refl)

-- ---- the doublewords of a place

pub count_place : (p : PlaceValue) (n : ℕ) → IsWhole p → p.addr + p.len ≤ 8 * n → count_below n (covers p) ≡ p.len / 8
count_place p n whole inside =
    let u : p.addr % 8 ≡ 0 = whole.0 in
    let v : p.len % 8 ≡ 0 = whole.1 in
    count_middle n (p.addr / 8) (p.len / 8) (n - (p.addr / 8 + p.len / 8)) (covers p) (omega arith) before past
    ∙ count_all (p.len / 8) (λ i. covers p (p.addr / 8 + i)) within
  where
    before : (d : ℕ) → d < p.addr / 8 → covers p d ≡ false
    before d low = let u : p.addr % 8 ≡ 0 = whole.0 in let low' : 8 * d + 8 ≤ p.addr = omega arith in grind (arith, nat_tests)

    past : (d : ℕ) → p.addr / 8 + p.len / 8 ≤ d → d < n → covers p d ≡ false
    past d high _ = let u : p.addr % 8 ≡ 0 = whole.0 in let v : p.len % 8 ≡ 0 = whole.1 in let high' : p.addr + p.len ≤ 8 * d = omega arith in grind (arith, nat_tests)

    within : (i : ℕ) → i < p.len / 8 → covers p (p.addr / 8 + i) ≡ true
    within i low =
        let u : p.addr % 8 ≡ 0 = whole.0 in
        let v : p.len % 8 ≡ 0 = whole.1 in
        let from : p.addr < 8 * (p.addr / 8 + i) + 8 = omega arith in
        let to : 8 * (p.addr / 8 + i) < p.addr + p.len = omega arith in
        grind (arith, nat_tests)

-- ---- doublewords taken by s: those that pass the test

module _ (s : ℕ) (h h' : ℕ → Option ℕ) (test : ℕ → Bool) (each : (d : ℕ) → h' d ≡ cond (test d) (Some s) (h d)) (free : (d : ℕ) → test d ≡ true → h d ≡ None) (rule : PageRule h') where
  -- a doubleword that was held is held as before
  stays : (d t : ℕ) → h d ≡ Some t → h' d ≡ Some t
  stays d t held = elim (cases_Bool (test d)) [
    | inl hit ↦ absurd (let n : ◌≡◌ {A = Option ℕ} (Some t) None = sym held ∙ free d hit in cc)
    | inr miss ↦ each d ∙ ap (λ b. cond b (Some s) (h d)) miss ∙ held
  ]

  -- a page's subpool is as before, or the page had none and is of s now
  page_more : (page : ℕ) → (first_from (512 * page) 512 h' ≡ first_from (512 * page) 512 h) ⊎ ((first_from (512 * page) 512 h ≡ None) × (first_from (512 * page) 512 h' ≡ Some s))
  page_more page = by (first_from (512 * page) 512 h) refl where
    taken : (v : Option ℕ) → first_from (512 * page) 512 h ≡ None → first_from (512 * page) 512 h' ≡ v → (first_from (512 * page) 512 h' ≡ first_from (512 * page) 512 h) ⊎ ((first_from (512 * page) 512 h ≡ None) × (first_from (512 * page) 512 h' ≡ Some s))
    taken None was is = inl (is ∙ sym was)
    taken (Some t) was is =
        let d = found_from (512 * page) 512 h' t is in
        elim (cases_Bool (test d.0)) [
          | inl hit ↦ inr (was, is ∙ sym d.3 ∙ each d.0 ∙ ap (λ b. cond b (Some s) (h d.0)) hit)
          | inr miss ↦ absurd (let n : ◌≡◌ {A = Option ℕ} (Some t) None = sym d.3 ∙ each d.0 ∙ ap (λ b. cond b (Some s) (h d.0)) miss ∙ none_from (512 * page) 512 h was d.0 d.1 d.2 in cc)
        ]

    by : (v : Option ℕ) → first_from (512 * page) 512 h ≡ v → (first_from (512 * page) 512 h' ≡ first_from (512 * page) 512 h) ⊎ ((first_from (512 * page) 512 h ≡ None) × (first_from (512 * page) 512 h' ≡ Some s))
    by None was = taken (first_from (512 * page) 512 h') was refl
    by (Some t) was = let d = found_from (512 * page) 512 h t was in inl (page_of h' rule page d.0 t d.1 d.2 (stays d.0 t d.3) ∙ sym was)

  -- the pages of s and those without a subpool are as many as before together
  pub pages_more : (first count : ℕ) → pages_among h' s first count + count_below count (λ p. not (is_some (first_from (512 * (first + p)) 512 h'))) ≡ pages_among h s first count + count_below count (λ p. not (is_some (first_from (512 * (first + p)) 512 h)))
  pages_more first count =
      same_sum count (λ p. has (λ t. eqb t s) (first_from (512 * (first + p)) 512 h)) (λ p. not (is_some (first_from (512 * (first + p)) 512 h)))
      (λ p. has (λ t. eqb t s) (first_from (512 * (first + p)) 512 h')) (λ p. not (is_some (first_from (512 * (first + p)) 512 h')))
      (λ p low. elim (page_more (first + p)) [
        | inl same ↦ (λ i. one_if (has (λ t. eqb t s) (same i)) + one_if (not (is_some (same i))))
        | inr took ↦ (λ i. one_if (has (λ t. eqb t s) (took.1 i)) + one_if (not (is_some (took.1 i)))) ∙ (λ i. one_if (eq-eqb s s refl i) + 0) ∙ sym (λ i. one_if (has (λ t. eqb t s) (took.0 i)) + one_if (not (is_some (took.0 i))))
      ])

  -- the pages of another subpool are as before
  pub pages_of_other : (t first count : ℕ) → (t ≡ s → ⊥) → pages_among h' t first count ≡ pages_among h t first count
  pages_of_other t first count other =
      count_same count (λ p. has (λ u. eqb u t) (first_from (512 * (first + p)) 512 h')) (λ p. has (λ u. eqb u t) (first_from (512 * (first + p)) 512 h))
      (λ p low. elim (page_more (first + p)) [
        | inl same ↦ ap (has (λ u. eqb u t)) same
        | inr took ↦ ap (has (λ u. eqb u t)) took.1 ∙ ne_eqb s t (λ e. other (sym e)) ∙ sym (ap (has (λ u. eqb u t)) took.0)
      ])

  -- s holds so many doublewords more as pass the test
  pub held_more : (n : ℕ) → count_below n (λ d. has (λ t. eqb t s) (h' d)) ≡ count_below n (λ d. has (λ t. eqb t s) (h d)) + count_below n test
  held_more n =
      let sums = same_sum n (λ d. has (λ t. eqb t s) (h d)) test (λ d. has (λ t. eqb t s) (h' d)) (λ d. false) one in
      let none = nothing_counted n in
      omega (arith, sums, none)
    where
      one : (d : ℕ) → d < n → one_if (has (λ t. eqb t s) (h' d)) + 0 ≡ one_if (has (λ t. eqb t s) (h d)) + one_if (test d)
      one d low = elim (cases_Bool (test d)) [
        | inl hit ↦
            (λ i. one_if (has (λ t. eqb t s) ((each d ∙ ap (λ b. cond b (Some s) (h d)) hit) i)) + 0) ∙ (λ i. one_if (eq-eqb s s refl i) + 0)
            ∙ sym (λ i. one_if (has (λ t. eqb t s) (free d hit i)) + one_if (hit i))
        | inr miss ↦
            (λ i. one_if (has (λ t. eqb t s) ((each d ∙ ap (λ b. cond b (Some s) (h d)) miss) i)) + 0)
            ∙ sym (λ i. one_if (has (λ t. eqb t s) (h d)) + one_if (miss i))
      ]

  -- another subpool holds as many as before
  pub held_of_other : (n t : ℕ) → (t ≡ s → ⊥) → count_below n (λ d. has (λ u. eqb u t) (h' d)) ≡ count_below n (λ d. has (λ u. eqb u t) (h d))
  held_of_other n t other = count_same n (λ d. has (λ u. eqb u t) (h' d)) (λ d. has (λ u. eqb u t) (h d)) (λ d low. elim (cases_Bool (test d)) [
    | inl hit ↦ ap (has (λ u. eqb u t)) (each d ∙ ap (λ b. cond b (Some s) (h d)) hit) ∙ ne_eqb s t (λ e. other (sym e)) ∙ sym (ap (has (λ u. eqb u t)) (free d hit))
    | inr miss ↦ ap (has (λ u. eqb u t)) (each d ∙ ap (λ b. cond b (Some s) (h d)) miss)
  ])

  -- the pages of both regions
  pub sum_of_pages : (r : Regions) → assigned_pages r h' s + all_free r h' ≡ assigned_pages r h s + all_free r h
  sum_of_pages r = omega (arith, pages_more 6 r.below, pages_more 4096 r.above)

  pub assigned_other : (r : Regions) (t : ℕ) → (t ≡ s → ⊥) → assigned_pages r h' t ≡ assigned_pages r h t
  assigned_other r t other = λ i. pages_of_other t 6 r.below other i + pages_of_other t 4096 r.above other i

-- ---- all doublewords of the subpools that pass the test dropped

module _ (h h' : ℕ → Option ℕ) (test : ℕ → Bool) (each : (d : ℕ) → h' d ≡ kept (λ t. not (test t)) (h d)) (rule : PageRule h) where
  -- what is held now was held by the same subpool
  was : (d t : ℕ) → h' d ≡ Some t → h d ≡ Some t
  was d t held = by (h d) refl where
    by : (v : Option ℕ) → h d ≡ v → h d ≡ Some t
    by None e = absurd (let n : ◌≡◌ {A = Option ℕ} None (Some t) = sym (ap (kept (λ t. not (test t))) e) ∙ sym (each d) ∙ held in cc)
    by (Some u) e = at (test u) refl where
      at : (b : Bool) → test u ≡ b → h d ≡ Some t
      at true hit = absurd (let n : ◌≡◌ {A = Option ℕ} None (Some t) = sym (ap (kept (λ t. not (test t))) e ∙ ap (λ b. cond (not b) (Some u) None) hit) ∙ sym (each d) ∙ held in cc)
      at false miss = e ∙ sym (ap (kept (λ t. not (test t))) e ∙ ap (λ b. cond (not b) (Some u) None) miss) ∙ sym (each d) ∙ held

  page_kept : (page : ℕ) → first_from (512 * page) 512 h' ≡ kept (λ t. not (test t)) (first_from (512 * page) 512 h)
  page_kept page = by (first_from (512 * page) 512 h) refl where
    by : (v : Option ℕ) → first_from (512 * page) 512 h ≡ v → first_from (512 * page) 512 h' ≡ kept (λ t. not (test t)) (first_from (512 * page) 512 h)
    by None e = first_none (512 * page) 512 h' (λ d low high. each d ∙ ap (kept (λ t. not (test t))) (none_from (512 * page) 512 h e d low high)) ∙ sym (ap (kept (λ t. not (test t))) e)
    by (Some u) e = at (test u) refl (found_from (512 * page) 512 h u e) where
      at : (b : Bool) → test u ≡ b → (d : ℕ) × (512 * page ≤ d) × (d < 512 * page + 512) × (h d ≡ Some u) → first_from (512 * page) 512 h' ≡ kept (λ t. not (test t)) (first_from (512 * page) 512 h)
      at true hit found = first_none (512 * page) 512 h' (λ d low high. gone d low high (h d) refl) ∙ sym (ap (kept (λ t. not (test t))) e ∙ ap (λ b. cond (not b) (Some u) None) hit) where
        gone : (d : ℕ) → 512 * page ≤ d → d < 512 * page + 512 → (v : Option ℕ) → h d ≡ v → h' d ≡ None
        gone d low high None is = each d ∙ ap (kept (λ t. not (test t))) is
        gone d low high (Some x) is = let same : x ≡ u = rule d found.0 x u (omega (arith, found.1, found.2)) is found.3 in each d ∙ ap (kept (λ t. not (test t))) is ∙ ap (λ b. cond (not b) (Some x) None) (ap test same ∙ hit)
      at false miss found =
          first_only (512 * page) 512 found.0 h' u found.1 found.2 (each found.0 ∙ ap (kept (λ t. not (test t))) found.3 ∙ ap (λ b. cond (not b) (Some u) None) miss) (λ d y low high held. rule d found.0 y u (omega (arith, found.1, found.2)) (was d y held) found.3)
          ∙ sym (ap (kept (λ t. not (test t))) e ∙ ap (λ b. cond (not b) (Some u) None) miss)

  -- whether a subpool has a page or a doubleword now
  has_kept : (t : ℕ) (v : Option ℕ) (b : Bool) → test t ≡ b → has (λ u. eqb u t) (kept (λ t. not (test t)) v) ≡ cond b false (has (λ u. eqb u t) v)
  has_kept t None true e = refl
  has_kept t None false e = refl
  has_kept t (Some x) b e = elim (cases_eq x t) [
    | inl same ↦ (λ i. has (λ u. eqb u t) (cond (not ((ap test same ∙ e) i)) (Some x) None)) ∙ at b
    | inr other ↦ none (test x) (ne_eqb x t other) ∙ sym (ap (cond b false) (ne_eqb x t other) ∙ no_one b)
  ] where
    at : (b : Bool) → has (λ u. eqb u t) (cond (not b) (Some x) None) ≡ cond b false (eqb x t)
    at true = refl
    at false = refl

    no_one : (b : Bool) → cond b false false ≡ false
    no_one true = refl
    no_one false = refl

    none : (c : Bool) → eqb x t ≡ false → has (λ u. eqb u t) (cond (not c) (Some x) None) ≡ false
    none true miss = refl
    none false miss = miss

  pub pages_kept : (t first count : ℕ) → pages_among h' t first count ≡ cond (test t) 0 (pages_among h t first count)
  pages_kept t first count = at (test t) refl where
    at : (b : Bool) → test t ≡ b → pages_among h' t first count ≡ cond b 0 (pages_among h t first count)
    at true e = count_none count (λ p. has (λ u. eqb u t) (first_from (512 * (first + p)) 512 h')) (λ p low. ap (has (λ u. eqb u t)) (page_kept (first + p)) ∙ has_kept t (first_from (512 * (first + p)) 512 h) true e)
    at false e = count_same count (λ p. has (λ u. eqb u t) (first_from (512 * (first + p)) 512 h')) (λ p. has (λ u. eqb u t) (first_from (512 * (first + p)) 512 h)) (λ p low. ap (has (λ u. eqb u t)) (page_kept (first + p)) ∙ has_kept t (first_from (512 * (first + p)) 512 h) false e)

  pub held_kept : (t n : ℕ) → count_below n (λ d. has (λ u. eqb u t) (h' d)) ≡ cond (test t) 0 (count_below n (λ d. has (λ u. eqb u t) (h d)))
  held_kept t n = at (test t) refl where
    at : (b : Bool) → test t ≡ b → count_below n (λ d. has (λ u. eqb u t) (h' d)) ≡ cond b 0 (count_below n (λ d. has (λ u. eqb u t) (h d)))
    at true e = count_none n (λ d. has (λ u. eqb u t) (h' d)) (λ d low. ap (has (λ u. eqb u t)) (each d) ∙ has_kept t (h d) true e)
    at false e = count_same n (λ d. has (λ u. eqb u t) (h' d)) (λ d. has (λ u. eqb u t) (h d)) (λ d low. ap (has (λ u. eqb u t)) (each d) ∙ has_kept t (h d) false e)

-- ---- the counts of a store

-- nothing is held
pub counts_empty : (r : Regions) (h : ℕ → Option ℕ) (counts : List SubpoolCount) → ((d : ℕ) → h d ≡ None) → ((s : ℕ) → count_of counts s ≡ no_count) → AreCounts r h counts
counts_empty r h counts none no_counts = record {
  pages = λ s. ap (λ c. c.pages) (no_counts s) ∙ sym ((λ i. no_page s 6 r.below i + no_page s 4096 r.above i));
  held = λ s. ap (λ c. c.held) (no_counts s) ∙ sym (count_none (end_of r) (λ d. has (λ t. eqb t s) (h d)) (λ d low. ap (has (λ t. eqb t s)) (none d)));
} where
  no_page : (s first count : ℕ) → pages_among h s first count ≡ 0
  no_page s first count = count_none count (λ p. has (λ t. eqb t s) (first_from (512 * (first + p)) 512 h)) (λ p low. ap (has (λ t. eqb t s)) (first_none (512 * (first + p)) 512 h (λ d from to. none d)))

-- the counts of one subpool change
pub counts_set : (r : Regions) (h h' : ℕ → Option ℕ) (s : ℕ) (counts counts' : List SubpoolCount) (count : SubpoolCount) → AreCounts r h counts → ((t : ℕ) → count_of counts' t ≡ cond (eqb t s) count (count_of counts t))
    → count.pages ≡ assigned_pages r h' s → count.held ≡ held_doublewords r h' s → ((t : ℕ) → (t ≡ s → ⊥) → (assigned_pages r h' t ≡ assigned_pages r h t) × (held_doublewords r h' t ≡ held_doublewords r h t)) → AreCounts r h' counts'
counts_set r h h' s counts counts' count are set is_pages is_held others = record {
  pages = λ t. ap (λ c. c.pages) (set t) ∙ elim (cases_eq t s) [
    | inl same ↦ ap (λ b. (cond b count (count_of counts t)).pages) (eq-eqb t s same) ∙ is_pages ∙ ap (assigned_pages r h') (sym same)
    | inr other ↦ ap (λ b. (cond b count (count_of counts t)).pages) (ne_eqb t s other) ∙ are.pages t ∙ sym (others t other).0
  ];
  held = λ t. ap (λ c. c.held) (set t) ∙ elim (cases_eq t s) [
    | inl same ↦ ap (λ b. (cond b count (count_of counts t)).held) (eq-eqb t s same) ∙ is_held ∙ ap (held_doublewords r h') (sym same)
    | inr other ↦ ap (λ b. (cond b count (count_of counts t)).held) (ne_eqb t s other) ∙ are.held t ∙ sym (others t other).1
  ];
}

-- those of some subpools are cleared
pub counts_cleared : (r : Regions) (h h' : ℕ → Option ℕ) (test : ℕ → Bool) (counts counts' : List SubpoolCount) → AreCounts r h counts → ((d : ℕ) → h' d ≡ kept (λ t. not (test t)) (h d)) → PageRule h
    → ((t : ℕ) → count_of counts' t ≡ cond (test t) no_count (count_of counts t)) → AreCounts r h' counts'
counts_cleared r h h' test counts counts' are each rule cleared = record {
  pages = λ t. ap (λ c. c.pages) (cleared t) ∙ by_pages t (test t) ∙ sym (λ i. pages_kept h h' test each rule t 6 r.below i + pages_kept h h' test each rule t 4096 r.above i);
  held = λ t. ap (λ c. c.held) (cleared t) ∙ by_held t (test t) ∙ sym (held_kept h h' test each rule t (end_of r));
} where
  by_pages : (t : ℕ) (b : Bool) → (cond b no_count (count_of counts t)).pages ≡ cond b 0 (pages_among h t 6 r.below) + cond b 0 (pages_among h t 4096 r.above)
  by_pages t true = refl
  by_pages t false = are.pages t

  by_held : (t : ℕ) (b : Bool) → (cond b no_count (count_of counts t)).held ≡ cond b 0 (held_doublewords r h t)
  by_held t true = refl
  by_held t false = are.held t

-- no counts are more than the regions have
pub few_pages : (r : Regions) (h : ℕ → Option ℕ) (s : ℕ) → assigned_pages r h s ≤ r.below + r.above
few_pages r h s = omega (arith, count_most r.below (λ p. has (λ t. eqb t s) (first_from (512 * (6 + p)) 512 h)), count_most r.above (λ p. has (λ t. eqb t s) (first_from (512 * (4096 + p)) 512 h)))

pub few_held : (r : Regions) (h : ℕ → Option ℕ) (s : ℕ) → held_doublewords r h s ≤ end_of r
few_held r h s = count_most (end_of r) (λ d. has (λ t. eqb t s) (h d))
