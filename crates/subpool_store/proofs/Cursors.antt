-- Walks over the queue of a page.
use Rattle.std.proofs.Common.{◌≡◌, ◌∙◌, ℕ, zero, suc, ◌+◌, ◌-◌, ◌*◌, ◌/◌, ◌%◌, ◌<◌, ◌≤◌, ◌⊎◌, ◌↔◌, Bool, true, false, List, [], ◌∷◌, Option, Some, None, length, get_or, replicate, MatchBool, IsTrue, refl, sym, ap, subst, inl, inr, arith}
use Rattle.std.proofs.lemmas.Bool.{both_ways, cases_Bool, cases_eq, cond-false, le-ltb}
use Rattle.std.proofs.lemmas.List.{get_or_default, length-replicate}
use Rattle.std.proofs.lemmas.Option.{none-some, same_Some}
use Rattle.free_queue.specs.Runs.{end, IsFree, Queue, Rising, Run, next_run, page_of, place_of}
use Rattle.free_queue.proofs.Free.{free_from, free_whole, rising_below}
use Rattle.region_raw.specs.Pages.{Pages, is_open}
use Rattle.subpool_store.specs.Edits.{HasBit, HasNoBit, IsClear, IsFreeRun}
use Rattle.subpool_store.specs.Memory.{IsCursor, IsMemory, MemoryState, held_bits, memory_of}
use Rattle.subpool_store.proofs.PageTaken.{bit_is}
use Rattle.subpool_store.proofs.Queued.{closed_free, free_is, held_at, held_size}
use Rattle.region_raw.proofs.PageRows.{open_within}

-- blank pages with any heads hold nothing
pub blank_clear : (ps : Pages) (heads : List ℕ) (n : ℕ) → ps ≡ replicate n None → length heads ≡ n → IsClear (512 * n) (held_bits ps heads)
blank_clear ps heads n blank long = record {
  sizes = held_size ps heads ∙ ap (λ k. 512 * k) long;
  each = λ i. held_at ps heads (long ∙ sym (ap length blank ∙ length-replicate n None)) i ∙ closed_free ps heads i (ap (λ l. is_open l (i / 512)) blank ∙ none n (i / 512));
} where
  none : (n p : ℕ) → is_open (replicate n None) p ≡ false
  none zero p = refl
  none (suc n) zero = refl
  none (suc n) (suc p) = none n p

-- a test that fails below a number, or a number below it where it does not
pub find_set : (n : ℕ) (f : ℕ → Bool) → ((i : ℕ) → i < n → f i ≡ false) ⊎ ((i : ℕ) × (i < n) × (f i ≡ true))
find_set zero f = inl (λ i low. absurd (omega (arith, low)))
find_set (suc n) f = elim (find_set n f) [
  | inr found ↦ inr (found.0, omega (arith, found.1), found.2)
  | inl none ↦ elim (cases_Bool (f n)) [
    | inl hit ↦ inr (n, omega arith, hit)
    | inr miss ↦ inl (λ i low. elim (cases_eq i n) [ inl is ↦ ap f is ∙ miss | inr other ↦ none i (omega (arith, low, other)) ])
  ]
]

no_run_free : (rs : List Run) (v : ℕ → Option ℕ) (h : ℕ) → Queue 0 v h rs → h ≡ end → (d : ℕ) → IsFree rs d → ⊥
no_run_free [] v h queue e d free = free
no_run_free (r ∷ rs) v h queue e d free = let is : h ≡ r.from = queue.1.0 in let few = queue.0.2 in omega (arith, e, is, few)

none_free : (rs : List Run) (v : ℕ → Option ℕ) (h : ℕ) → Queue 0 v h rs → ((d : ℕ) → IsFree rs d → ⊥) → h ≡ end
none_free [] v h queue none = queue.1
none_free (r ∷ rs) v h queue none = absurd (none r.from (inl (omega arith, let some = queue.0.1 in omega (arith, some))))

module _ (ps : Pages) (heads : List ℕ) (m : MemoryState) (inv : IsMemory ps heads) (is : memory_of ps heads ≡ m) (page : ℕ) (there : is_open ps page ≡ true) (h : ℕ) (h_is : h ≡ get_or heads page h) where
  head_is : h ≡ get_or heads page 0
  head_is = h_is ∙ get_or_default heads page h 0 (omega (arith, open_within ps page there, inv.sizes))

  abbrev runs : List Run
  runs = (inv.queues page there).0

  queue : Queue 0 (page_of ps page) h runs
  queue = subst (λ k. Queue 0 (page_of ps page) k runs) (sym head_is) (inv.queues page there).1

  page_bit : (i : ℕ) → i / 512 ≡ page → get_or m.held i false ≡ false ↔ IsFree runs (8 * (i % 512))
  page_bit i here =
      let test = free_is ps heads page runs there (inv.queues page there).1 i here in
      (λ none. test.0 (sym (bit_is ps heads m inv is i) ∙ none), λ free. bit_is ps heads m inv is i ∙ test.1 free)

  -- the queue of a page is one from its first doubleword on
  pub first_cursor : IsCursor m page (512 * page) h
  first_cursor = (
    runs,
    subst (λ g. Queue (8 * (512 * page) - 4096 * page) (page_of g.bytes page) h runs) is (rising_below 0 (8 * (512 * page) - 4096 * page) runs (omega arith) queue.0, queue.1),
    λ i _ here. page_bit i here,
  )

  -- nothing of a page is free where its queue has no head
  pub full_is : (answer : Bool) → IsTrue answer ↔ (h ≡ end) → IsTrue answer ↔ ((i : ℕ) → i / 512 ≡ page → get_or m.held i false ≡ true)
  full_is answer says = (
    λ yes i here. elim (cases_Bool (get_or m.held i false)) [ inl set ↦ set | inr clear ↦ absurd (no_run_free runs (page_of ps page) h queue (says.0 yes) (8 * (i % 512)) ((page_bit i here).0 clear)) ],
    λ all. says.1 (none_free runs (page_of ps page) h queue (λ d free.
        let low = (free_from 0 runs d queue.0 free).1 in
        let here : (512 * page + d / 8) / 512 ≡ page = omega (arith, low) in
        let spot : 8 * (d / 8) ≡ 8 * ((512 * page + d / 8) % 512) = omega (arith, low) in
        both_ways _ ((page_bit (512 * page + d / 8) here).1 (subst (IsFree runs) spot ((free_whole 0 runs d queue.0).0 free))) (all (512 * page + d / 8) here))),
  )

  -- a page is whole where all its bytes are free
  pub whole_is : (answer : Bool) → ((rs : List Run) → Queue 0 (page_of ps page) h rs → IsTrue answer ↔ ((d : ℕ) → d < 4096 → IsFree rs d)) → MatchBool answer (HasNoBit m.held page) (HasBit m.held page)
  whole_is true says = λ i here. (page_bit i here).1 ((says runs queue).0 refl (8 * (i % 512)) (omega arith))
  whole_is false says = elim (find_set 512 (λ j. get_or m.held (512 * page + j) false)) [
    | inr found ↦ (512 * page + found.0, omega (arith, found.1), found.2)
    | inl none ↦ absurd (both_ways _ refl ((says runs queue).1 (λ d low.
        let here : (512 * page + d / 8) / 512 ≡ page = omega (arith, low) in
        let spot : 8 * ((512 * page + d / 8) % 512) ≡ 8 * (d / 8) = omega (arith, low) in
        (free_whole 0 runs d queue.0).1 (subst (IsFree runs) spot ((page_bit (512 * page + d / 8) here).0 (none (d / 8) (omega (arith, low))))))))
  ]

-- a walk stands before some runs of the page
pub first_run : (rs : List Run) (at len : ℕ) → Some (at, len) ≡ place_of (next_run 0 rs) → (r : Run) × (rest : List Run) × (rs ≡ r ∷ rest) × (r.from ≡ at) × (r.len ≡ len)
first_run [] at len e = absurd (none-some (at, len) (sym e))
first_run (r ∷ rest) at len e =
    let found : Some (at, len) ≡ Some (r.from, r.len) = e ∙ ap place_of (cond-false _ _ _ (le-ltb r.from 0 (omega arith))) in
    let same : (at, len) ≡ (r.from, r.len) = same_Some (at, len) (r.from, r.len) found in
    (r, rest, refl, sym (ap (λ p. p.0) same), sym (ap (λ p. p.1) same))

no_run : (rs : List Run) → None ≡ place_of (next_run 0 rs) → rs ≡ []
no_run [] e = refl
no_run (r ∷ rest) e = absurd (none-some (r.from, r.len) (e ∙ ap place_of (cond-false _ _ _ (le-ltb r.from 0 (omega arith)))))

module _ (m : MemoryState) (page from h : ℕ) (low : 512 * page ≤ from) (walk : IsCursor m page from h) where
  pub walk_queue : Queue 0 (page_of m.bytes page) h walk.0
  walk_queue = (rising_below (8 * from - 4096 * page) 0 walk.0 (omega arith) walk.1.0, walk.1.1)

  -- it comes to no run
  pub walk_ends : None ≡ place_of (next_run 0 walk.0) → (i : ℕ) → from ≤ i → i < 512 * page + 512 → get_or m.held i false ≡ true
  walk_ends none i begun before = elim (cases_Bool (get_or m.held i false)) [
    | inl set ↦ set
    | inr clear ↦ absurd (subst (λ rs. IsFree rs (8 * (i % 512))) (no_run walk.0 none) ((walk.2 i begun (omega arith)).0 clear))
  ]

  -- it comes to a run
  module _ (r : Run) (rest : List Run) (runs_are : walk.0 ≡ r ∷ rest) where
    pub walk_splits : Queue (8 * from - 4096 * page) (page_of m.bytes page) h (r ∷ rest)
    walk_splits = subst (Queue (8 * from - 4096 * page) (page_of m.bytes page) h) runs_are walk.1

    split_bit : (i : ℕ) → from ≤ i → i / 512 ≡ page → get_or m.held i false ≡ false ↔ IsFree (r ∷ rest) (8 * (i % 512))
    split_bit = subst (λ rs. (i : ℕ) → from ≤ i → i / 512 ≡ page → get_or m.held i false ≡ false ↔ IsFree rs (8 * (i % 512))) runs_are walk.2

    up : Rising (8 * from - 4096 * page) (r ∷ rest)
    up = walk_splits.0

    pub walk_run : IsFreeRun m.held from (512 * page + 512) (512 * page + r.from / 8) (512 * page + r.from / 8 + r.len / 8)
    walk_run = record {
      some = omega (arith, up.1, up.5);
      after = omega (arith, up.0, low);
      within = omega (arith, up.2);
      held = λ i begun before. elim (cases_Bool (get_or m.held i false)) [
        | inl set ↦ set
        | inr clear ↦ elim ((split_bit i begun (omega (arith, low, begun, before, up.1, up.2))).0 clear) [
          | inl within ↦ absurd (omega (arith, low, begun, before, up.1, up.2, up.4, within.0))
          | inr more ↦ absurd (omega (arith, low, begun, before, up.1, up.2, up.4, (free_from (r.from + r.len + 1) rest (8 * (i % 512)) up.3 more).0))
        ]
      ];
      free = λ i begun before. (split_bit i (omega (arith, up.0, low, begun)) (omega (arith, begun, before, up.2))).1 (inl (omega (arith, begun, before, up.2, up.4), omega (arith, begun, before, up.2, up.4, up.5)));
      stops = λ inside. elim (cases_Bool (get_or m.held (512 * page + r.from / 8 + r.len / 8) false)) [
        | inl set ↦ set
        | inr clear ↦ elim ((split_bit (512 * page + r.from / 8 + r.len / 8) (omega (arith, up.0, low)) (omega (arith, inside))).0 clear) [
          | inl within ↦ absurd (omega (arith, inside, up.4, up.5, within.1))
          | inr more ↦ absurd (omega (arith, inside, up.4, up.5, (free_from (r.from + r.len + 1) rest (8 * ((512 * page + r.from / 8 + r.len / 8) % 512)) up.3 more).0))
        ]
      ];
    }

    pub walk_on : (h' : ℕ) → Queue (r.from + r.len + 1) (page_of m.bytes page) h' rest → IsCursor m page (512 * page + r.from / 8 + r.len / 8) h'
    walk_on h' queue = (
      rest,
      (rising_below (r.from + r.len + 1) (8 * (512 * page + r.from / 8 + r.len / 8) - 4096 * page) rest (omega (arith, up.4, up.5)) queue.0, queue.1),
      λ i begun here. let both = split_bit i (omega (arith, up.0, low, begun)) here in (
        λ clear. elim (both.0 clear) [ inl within ↦ absurd (omega (arith, begun, here, up.4, up.5, within.1)) | inr more ↦ more ],
        λ more. both.1 (inr more),
      ),
    )
