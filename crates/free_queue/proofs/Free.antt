-- What is free in a queue.
use Rattle.std.proofs.Common.{◌≡◌, ◌∙◌, ℕ, zero, suc, ◌+◌, ◌*◌, ◌/◌, ◌<◌, ◌≤◌, ◌↔◌, List, [], ◌∷◌, Option, sym, ap, subst, inl, inr, arith, lt-ltb}
use Rattle.std.proofs.lemmas.Bool.{cases_lt, cond-true, cond-false}
use Rattle.std.proofs.lemmas.Bool.Decides.{nat_tests}
use Rattle.mvs_model.specs.Numbers.{page_bytes}
use Rattle.free_queue.specs.Runs.{end, word, Run, Spells, Rising, Within, IsFree, Covers, Queue, Same, runs_from, runs_of}
use Rattle.free_queue.proofs.Words.{same_words}

-- a queue stays one where no doubleword that is free changes
pub free_frame : (lo : ℕ) (rs : List Run) (v w : ℕ → Option ℕ) (h : ℕ) → Rising lo rs → ((d : ℕ) → IsFree rs d → Same v w d) → Spells v h rs → Spells w h rs
free_frame lo [] v w h up same s = s
free_frame lo (r ∷ rs) v w h up same s =
    let at = same_words v w r.from up.4 (same r.from (inl (omega arith, omega (arith, up.1)))) in
    (s.0, at.1 ∙ s.1, subst (λ k. Spells w k rs) (sym at.0) (free_frame (r.from + r.len + 1) rs v w (word v r.from) up.3 (λ d free. same d (inr free)) s.2))

-- a queue from one offset on is one from any offset before
pub rising_below : (lo low : ℕ) (rs : List Run) → low ≤ lo → Rising lo rs → Rising low rs
rising_below lo low [] le up = up
rising_below lo low (r ∷ rs) le up = (omega (arith, le, up.0), up.1, up.2, up.3, up.4, up.5)

-- what is free lies at lo or after, in the page
pub free_from : (lo : ℕ) (rs : List Run) (d : ℕ) → Rising lo rs → IsFree rs d → (lo ≤ d) × (d < page_bytes)
free_from lo [] d up free = absurd free
free_from lo (r ∷ rs) d up free = elim free [
  | inl here ↦ (omega (arith, up.0, here.0), omega (arith, up.2, here.1))
  | inr more ↦ let rest = free_from (r.from + r.len + 1) rs d up.3 more in (omega (arith, up.0, rest.0), rest.1)
]

-- bytes of which each is free lie in one run
pub free_covers : (lo : ℕ) (rs : List Run) (a n : ℕ) → Rising lo rs → 0 < n → ((d : ℕ) → Within a n d → IsFree rs d) → Covers rs a n
free_covers lo [] a n up some all = absurd (all a (omega arith, omega (arith, some)))
free_covers lo (r ∷ rs) a n up some all = elim (all a (omega arith, omega (arith, some))) [
  | inl here ↦ elim (cases_lt (r.from + r.len) (a + n)) [
    | inl past ↦ elim (all (r.from + r.len) (omega (arith, here.1), omega (arith, past))) [
      | inl again ↦ absurd (omega (arith, again.1))
      | inr more ↦ absurd (omega (arith, (free_from (r.from + r.len + 1) rs (r.from + r.len) up.3 more).0))
    ]
    | inr fits ↦ inl (here.0, fits)
  ]
  | inr more ↦ inr (free_covers (r.from + r.len + 1) rs a n up.3 some (λ d within. elim (all d within) [
    | inl here ↦ absurd (omega (arith, here.1, within.0, (free_from (r.from + r.len + 1) rs a up.3 more).0))
    | inr further ↦ further
  ]))
]

-- a byte is free where its doubleword is
pub free_whole : (lo : ℕ) (rs : List Run) (d : ℕ) → Rising lo rs → IsFree rs d ↔ IsFree rs (8 * (d / 8))
free_whole lo [] d up = (λ free. free, λ free. free)
free_whole lo (r ∷ rs) d up =
    let rest = free_whole (r.from + r.len + 1) rs d up.3 in (
      λ free. elim free [ inl here ↦ inl (omega (arith, here.0, up.4), omega (arith, here.1)) | inr more ↦ inr (rest.0 more) ],
      λ free. elim free [ inl here ↦ inl (omega (arith, here.0), omega (arith, here.1, up.4, up.5)) | inr more ↦ inr (rest.1 more) ],
    )

-- a queue of no run
none_from : (n : ℕ) (v : ℕ → Option ℕ) (h : ℕ) → h ≡ end → runs_from n v h ≡ []
none_from n v h h1 = grind (arith, nat_tests, cond-false)

are_from : (n lo : ℕ) (rs : List Run) (v : ℕ → Option ℕ) (h : ℕ) → page_bytes ≤ lo + n → Rising lo rs → Spells v h rs → runs_from n v h ≡ rs
are_from n lo [] v h enough up s = none_from n v h s
are_from zero lo (r ∷ rs) v h enough up s = absurd (omega (arith, enough, up.0, up.1, up.2))
are_from (suc n) lo (r ∷ rs) v h enough up s =
    let e : h ≡ r.from = s.0 in
    let l : word v (h + 4) ≡ r.len = ap (λ k. word v (k + 4)) e ∙ s.1 in
    let rest : runs_from n v (word v h) ≡ rs = ap (λ k. runs_from n v (word v k)) e ∙ are_from n (r.from + r.len + 1) rs v (word v r.from) (omega (arith, enough, up.0, up.1)) up.3 s.2 in
    cond-true _ _ _ (lt-ltb h page_bytes (omega (arith, e, up.1, up.2))) ∙ (λ i. record { from = e i; len = l i } ∷ rest i)

-- a page spells one queue from an offset on
pub runs_are : (rs : List Run) (v : ℕ → Option ℕ) (h : ℕ) → Queue 0 v h rs → runs_of v h ≡ rs
unfolding runs_of
runs_are rs v h q = are_from page_bytes 0 rs v h (omega arith) q.0 q.1
