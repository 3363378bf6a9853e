-- The free runs that a pass has come by.
use Rattle.std.proofs.Common.{◌≡◌, ◌∙◌, ℕ, ◌+◌, ◌-◌, ◌*◌, ◌/◌, ◌%◌, ◌<◌, ◌≤◌, ◌⊎◌, ◌&&◌, ◌||◌, not, Bool, true, false, List, Option, Some, None, length, get_or, eqb, ltb, refl, sym, ap, inl, inr, arith}
use Rattle.std.proofs.lemmas.Bool.{and_from, both_ways, cases_eq, cases_lt, eq-eqb, lt-ltb, ne_eqb, or_right, and_right}
use Rattle.std.proofs.lemmas.List.{get_or_default}
use Rattle.mvs_model.specs.Finite.{count_below}
use Rattle.mvs_model.specs.Storage.{IsLength}
use Rattle.mvs_model.specs.Want.{IsWant, WantValue}
use Rattle.page_map.specs.Owners.{is_of, is_usable, owner_of}
use Rattle.subpool_store.specs.Edits.{IsFreeRun}
use Rattle.subpool_store.specs.Memory.{MemoryState}
use Rattle.subpool_store.specs.Search.{may_take}
use Rattle.subpool_store.specs.Bits.{digit}
use Rattle.subpool_store.specs.PageWalk.{begins_run, entries_to, looked_at}
use Rattle.subpool_store.proofs.Counts.{count_most, count_split}
use Rattle.mvs_model.proofs.Below.{count_all, count_none}

-- where none begins the count stays
pub count_stays : (f : ℕ → Bool) (a b : ℕ) → a ≤ b → ((i : ℕ) → a ≤ i → i < b → f i ≡ false) → count_below b f ≡ count_below a f
count_stays f a b le none =
    let all : count_below b f ≡ count_below a f + count_below (b - a) (λ i. f (a + i)) = count_split b a (b - a) f (omega (arith, le)) in
    let rest : count_below (b - a) (λ i. f (a + i)) ≡ 0 = count_none (b - a) (λ i. f (a + i)) (λ i low. none (a + i) (omega arith) (omega (arith, le, low))) in
    omega arith

pub count_once : (f : ℕ → Bool) (x : ℕ) → f x ≡ true → count_below (x + 1) f ≡ count_below x f + 1
count_once f x hit =
    let all : count_below (x + 1) f ≡ count_below x f + count_below 1 (λ i. f (x + i)) = count_split (x + 1) x 1 f refl in
    let here : count_below 1 (λ i. f (x + i)) ≡ 1 = count_all 1 (λ i. f (x + i)) (λ i low. let at : x + i ≡ x = omega (arith, low) in ap f at ∙ hit) in
    omega arith

pub count_grows : (f : ℕ → Bool) (a b : ℕ) → a ≤ b → count_below a f ≤ count_below b f
count_grows f a b le = let all : count_below b f ≡ count_below a f + count_below (b - a) (λ i. f (a + i)) = count_split b a (b - a) f (omega (arith, le)) in omega arith

module _ (m : MemoryState) (pages : List (Option ℕ)) (s : ℕ) where
  pub held_begins : (i : ℕ) → get_or m.held i false ≡ true → begins_run m.held pages s i ≡ false
  held_begins i set = ap (λ b. not b && (is_of s (owner_of pages (i / 512)) && (eqb (i % 512) 0 || get_or m.held (i - 1) false))) set

  pub foreign_begins : (i : ℕ) → is_of s (owner_of pages (i / 512)) ≡ false → begins_run m.held pages s i ≡ false
  foreign_begins i foreign = ap (λ b. not (get_or m.held i false) && (b && (eqb (i % 512) 0 || get_or m.held (i - 1) false))) foreign ∙ and_right (not (get_or m.held i false)) false refl

  inner_begins : (i : ℕ) → (i % 512 ≡ 0 → ⊥) → get_or m.held (i - 1) false ≡ false → begins_run m.held pages s i ≡ false
  inner_begins i inner clear =
      (λ j. not (get_or m.held i false) && (is_of s (owner_of pages (i / 512)) && (ne_eqb (i % 512) 0 inner j || clear j)))
      ∙ never (not (get_or m.held i false)) (is_of s (owner_of pages (i / 512))) where
        never : (a b : Bool) → (a && (b && false)) ≡ false
        never true true = refl
        never true false = refl
        never false b = refl

  first_begins : (i : ℕ) → owner_of pages (i / 512) ≡ Some s → get_or m.held i false ≡ false → (i % 512 ≡ 0) ⊎ (get_or m.held (i - 1) false ≡ true) → begins_run m.held pages s i ≡ true
  first_begins i own clear begun =
      (λ j. not (clear j) && (is_of s (own j) && (eqb (i % 512) 0 || get_or m.held (i - 1) false)))
      ∙ (λ j. eq-eqb s s refl j && (eqb (i % 512) 0 || get_or m.held (i - 1) false))
      ∙ elim begun [ inl zero ↦ ap (λ b. b || get_or m.held (i - 1) false) (eq-eqb (i % 512) 0 zero) | inr set ↦ ap (λ b. eqb (i % 512) 0 || b) set ∙ or_right (eqb (i % 512) 0) true refl ]

  -- the entry of a page that there is
  pub entries_at : (p : ℕ) → p < length pages → entries_to pages p ≡ p + 1
  entries_at p low = ap (λ b. p + digit b) (lt-ltb p (length pages) low)

  -- page entries, and no free run
  pub passed_counted : (from to steps more : ℕ) → from / 512 < length pages → from / 512 < to → ((i : ℕ) → from ≤ i → i < 512 * to → begins_run m.held pages s i ≡ false) → more + (from / 512 + 1) ≡ steps + entries_to pages to →
      looked_at m pages s from + more ≡ looked_at m pages s (512 * to) + steps
  passed_counted from to steps more low rises none is =
      let same : count_below (512 * to) (begins_run m.held pages s) ≡ count_below from (begins_run m.held pages s) = count_stays (begins_run m.held pages s) from (512 * to) (omega (arith, rises)) none in
      let page : 512 * to / 512 ≡ to = omega arith in
      let first = entries_at (from / 512) low in
      let last = ap (entries_to pages) page in
      omega (arith, same, first, last, is)

  -- a free run of a page of s
  module _ (from start end : ℕ) (low : from / 512 < length pages) (own : owner_of pages (from / 512) ≡ Some s) (fresh : (from % 512 ≡ 0) ⊎ (get_or m.held from false ≡ true)) (run : IsFreeRun m.held from (512 * (from / 512) + 512) start end) where
    begun : (start % 512 ≡ 0) ⊎ (get_or m.held (start - 1) false ≡ true)
    begun = elim (cases_eq from start) [
      | inl is ↦ elim fresh [
        | inl zero ↦ inl (ap (λ x. x % 512) (sym is) ∙ zero)
        | inr set ↦ absurd (both_ways _ (run.free start (omega arith) run.some) (ap (λ x. get_or m.held x false) (sym is) ∙ set))
      ]
      | inr other ↦ inr (run.held (start - 1) (omega (arith, other, run.after)) (omega (arith, other, run.after)))
    ]

    one_begins : count_below end (begins_run m.held pages s) ≡ count_below from (begins_run m.held pages s) + 1
    one_begins =
        let f = begins_run m.held pages s in
        let before : count_below start f ≡ count_below from f = count_stays f from start run.after (λ i low high. held_begins i (run.held i low high)) in
        let page : start / 512 ≡ from / 512 = omega (arith, run.after, run.some, run.within) in
        let one : count_below (start + 1) f ≡ count_below start f + 1 = count_once f start (first_begins start (ap (owner_of pages) page ∙ own) (run.free start (omega arith) run.some) begun) in
        let trailing : count_below end f ≡ count_below (start + 1) f = count_stays f (start + 1) end (omega (arith, run.some)) (λ i low high.
        inner_begins i (λ zero. absurd (omega (arith, zero, low, high, run.after, run.within))) (run.free (i - 1) (omega (arith, low)) (omega (arith, high)))) in
        omega (arith, before, one, trailing)

    -- that ends before the page does
    pub inside_counted : (steps : ℕ) → 1 ≤ steps → end < 512 * (from / 512) + 512 → looked_at m pages s from + steps ≡ looked_at m pages s end + (steps - 1)
    inside_counted steps some inside =
        let page : end / 512 ≡ from / 512 = omega (arith, inside, run.some, run.after) in
        let same = ap (entries_to pages) page in
        let one = one_begins in
        omega (arith, same, one, some)

    -- that ends with the page, and the entry of the next one
    pub ending_counted : (steps more : ℕ) → 1 ≤ steps → end ≡ 512 * (from / 512) + 512 → more ≡ steps + digit (ltb (from / 512 + 1) (length pages)) → looked_at m pages s from + more ≡ looked_at m pages s end + (steps - 1)
    ending_counted steps more some ends is =
        let page : end / 512 ≡ from / 512 + 1 = omega (arith, ends) in
        let last = ap (entries_to pages) page in
        let first = entries_at (from / 512) low in
        let one = one_begins in
        omega (arith, first, last, one, some, is)

-- s may take what is free in a page that it may use
pub free_passes : (bits : List Bool) (pages : List (Option ℕ)) (s i : ℕ) → i < length bits → get_or bits i false ≡ false → is_usable s (owner_of pages (i / 512)) ≡ true → may_take bits pages s i ≡ true
free_passes bits pages s i within clear usable = and_from _ _ (ap not (get_or_default bits i true false within ∙ clear)) usable

-- what a pass has looked at, of all that there is
pub counted_within : (m : MemoryState) (pages : List (Option ℕ)) (s at : ℕ) → length m.held ≡ 512 * length pages → at ≤ length m.held → looked_at m pages s at ≤ looked_at m pages s (length m.held)
counted_within m pages s at sizes low = elim (cases_lt at (length m.held)) [
  | inl less ↦
      let grows = count_grows (begins_run m.held pages s) at (length m.held) low in
      let first = entries_at m pages s (at / 512) (omega (arith, less, sizes)) in
      omega (arith, less, sizes, grows, first)
  | inr past ↦ let is : at ≡ length m.held = omega (arith, low, past) in let same = ap (looked_at m pages s) is in omega (arith, same)
]

pub counted_some : (m : MemoryState) (pages : List (Option ℕ)) (s at : ℕ) → length m.held ≡ 512 * length pages → at ≤ length m.held → 1 ≤ looked_at m pages s (length m.held) → 1 ≤ looked_at m pages s at
counted_some m pages s at sizes low some = elim (cases_lt at (length m.held)) [
  | inl less ↦ let first = entries_at m pages s (at / 512) (omega (arith, less, sizes)) in omega (arith, first)
  | inr past ↦ let is : at ≡ length m.held = omega (arith, low, past) in let same = ap (looked_at m pages s) is in omega (arith, same, some)
]

-- it is not much
pub counted_few : (m : MemoryState) (pages : List (Option ℕ)) (s at steps : ℕ) → steps ≡ looked_at m pages s at → at ≤ length m.held → length m.held ≡ 512 * length pages → length pages ≤ 8192 → steps < 33554432
counted_few m pages s at steps is low sizes few =
    let most = count_most at (begins_run m.held pages s) in
    let one = digit_small (ltb (at / 512) (length pages)) in
    omega (arith, is, low, sizes, few, most, one) where
      digit_small : (b : Bool) → digit b ≤ 1
      digit_small true = omega arith
      digit_small false = omega arith

-- s may take nothing in a page that it may not use
pub foreign_fails : (bits : List Bool) (pages : List (Option ℕ)) (s i : ℕ) → is_usable s (owner_of pages (i / 512)) ≡ false → may_take bits pages s i ≡ false
foreign_fails bits pages s i foreign = ap (λ b. not (get_or bits i true) && b) foreign ∙ and_right (not (get_or bits i true)) false refl

-- the least length is one that is wanted
pub least_length : (want : WantValue) → IsWant want → IsLength want want.least
least_length want ok = record { least = omega arith; most = ok.ordered; whole = ok.least_whole }

-- a page that s may not use is none of s
pub not_own : (s : ℕ) (owner : Option ℕ) → is_usable s owner ≡ false → is_of s owner ≡ false
not_own s None e = absurd (let f : true ≡ false = e in cc)
not_own s (Some t) e = e
