-- One pass over the runs finds each place.
use Rattle.std.proofs.Common.{◌≡◌, ℕ, ◌+◌, ◌-◌, ◌*◌, ◌/◌, ◌%◌, ◌<◌, ◌≤◌, Bool, true, Option, None, Some, IfSome, ◌⊎◌, sym, ap, ◌∙◌, subst, inl, inr, arith}
use Rattle.std.proofs.lemmas.Bool.{both_ways, cases_lt}
use Rattle.mvs_model.specs.Place.{PlaceValue}
use Rattle.mvs_model.specs.Storage.{InRun}
use Rattle.mvs_model.specs.Want.{WantValue}
use Rattle.subpool_store.specs.Search.{AllPass, Beats, CandidatesAfterBest, IsCandidate, IsNextRun, LongestIn, NoneFits}

-- the first doubleword of such a place passes
pub first_passes : (test : ℕ → Bool) (first : ℕ) (q : PlaceValue) → 8 ≤ q.len → q.addr % 8 ≡ 0 → AllPass test first q → (first ≤ q.addr / 8) × (test (q.addr / 8 - first) ≡ true)
first_passes test first q some on all = all (q.addr / 8) (omega arith, omega arith)

-- a candidate has as many doublewords that pass as the least length has
pub window : (test : ℕ → Bool) (first n : ℕ) (want : WantValue) (q : PlaceValue) → 8 * n ≡ want.least → IsCandidate test first want q → (i : ℕ) → q.addr / 8 - first ≤ i → i < q.addr / 8 - first + n → test i ≡ true
window test first n want q is cand i low high =
    let least : want.least ≤ q.len = cand.length.least in
    let on : q.addr % 8 ≡ 0 = cand.meets.on_doubleword in
    let here : first ≤ q.addr / 8 = (first_passes test first q (omega (arith, is, low, high, least)) on cand.pass).0 in
    ap test (let e : i ≡ first + i - first = omega arith in e) ∙ (cand.pass (first + i) (omega (arith, low, on, here), omega (arith, high, on, here, is, least))).1

-- a place in a run has doublewords that pass
pub run_passes : (test : ℕ → Bool) (first n from start end next : ℕ) (p q : PlaceValue) → IsNextRun test n from start end next →
    p.addr ≡ 8 * (first + start) → p.len ≡ 8 * (end - start) → InRun p q → AllPass test first q
run_passes test first n from start end next p q run addr_is len_is inside d covered =
    let some : start < end = run.some in
    let low : first ≤ d = omega arith in
    (low, run.passes (d - first) (omega arith) (omega arith))

-- the scan keeps the longest place so far
pub best_after : (test : ℕ → Bool) (first n : ℕ) (want : WantValue) (from start end next : ℕ) (p : PlaceValue) (best best' r : Option PlaceValue) → IsNextRun test n from start end next → 8 ≤ want.least → 8 * n ≡ want.least →
    p.addr ≡ 8 * (first + start) → p.len ≡ 8 * (end - start) → LongestIn p want r →
    ((n : ℕ) → Beats best n → Beats best' n) → ((n : ℕ) → Beats r n → Beats best' n) →
    CandidatesAfterBest test first want best from → CandidatesAfterBest test first want best' next
best_after test first n want from start end next p best best' r run some is addr_is len_is answer keeps takes before q cand =
    elim (before q cand) [
      | inr beaten ↦ inr (keeps q.len beaten)
      | inl begun ↦
          let least : want.least ≤ q.len = cand.length.least in
          let long : 8 ≤ q.len = omega arith in
          let on : q.addr % 8 ≡ 0 = cand.meets.on_doubleword in
          let at_first : first ≤ q.addr / 8 = (first_passes test first q long on cand.pass).0 in
          let after_skipped : q.addr / 8 - first < start → ⊥ = λ low. run.skipped (q.addr / 8 - first) (omega arith) low (window test first n want q is cand) in
          let some_run : start < end = run.some in
          let starts : start ≤ q.addr / 8 - first = elim (cases_lt (q.addr / 8 - first) start) [ inl low ↦ absurd (after_skipped low) | inr high ↦ high ] in
          elim (cases_lt q.addr (8 * (first + next))) [
            | inr trailing ↦ inl trailing
            | inl low ↦
                elim (cases_lt q.addr (8 * (first + end))) [
                  | inr past ↦ absurd (run.rest (q.addr / 8 - first) (omega arith) (omega arith) (window test first n want q is cand))
                  | inl within ↦
                      elim (cases_lt (8 * (first + end)) (q.addr + q.len)) [
                        | inl past ↦ absurd (both_ways _ run.stops (ap test (let e : end ≡ first + end - first = omega arith in e) ∙ (cand.pass (first + end) (omega arith, past)).1))
                        | inr inside ↦ inr (takes q.len (beaten r answer (omega arith, omega arith)))
                      ]
                ]
          ]
    ] where
      beaten : (r : Option PlaceValue) → LongestIn p want r → InRun p q → Beats r q.len
      beaten None none inside = none q cand.length inside cand.meets
      beaten (Some b) found inside = found.longest q cand.length inside cand.meets

-- nothing is before the start
pub best_anywhere : (test : ℕ → Bool) (first : ℕ) (want : WantValue) → 8 ≤ want.least → CandidatesAfterBest test first want None 0
best_anywhere test first want some q cand =
    let least : want.least ≤ q.len = cand.length.least in
    let long : 8 ≤ q.len = omega arith in
    let at_first : first ≤ q.addr / 8 = (first_passes test first q long cand.meets.on_doubleword cand.pass).0 in
    inl (omega arith)

-- where nothing fits from an index on, best is the longest of all
pub best_of_all : (test : ℕ → Bool) (first n : ℕ) (want : WantValue) (best : Option PlaceValue) (from : ℕ) → 8 * n ≡ want.least → ((to : ℕ) → NoneFits test n from to) → CandidatesAfterBest test first want best from →
    (q : PlaceValue) → IsCandidate test first want q → Beats best q.len
best_of_all test first n want best from is none before q cand = elim (before q cand) [
  | inr beaten ↦ beaten
  | inl begun ↦ absurd (none (q.addr / 8 - first + 1) (q.addr / 8 - first) (omega (arith, begun)) (omega arith) (window test first n want q is cand))
]

-- the longest place of a run is a candidate
pub best_found : (test : ℕ → Bool) (first n : ℕ) (want : WantValue) (from start end next : ℕ) (p : PlaceValue) (best best' r : Option PlaceValue) → IsNextRun test n from start end next →
    p.addr ≡ 8 * (first + start) → p.len ≡ 8 * (end - start) → LongestIn p want r →
    (best' ≡ best) ⊎ (best' ≡ r) → IfSome best (IsCandidate test first want) → IfSome best' (IsCandidate test first want)
best_found test first n want from start end next p best best' r run addr_is len_is answer (inl e) old = subst (λ o. IfSome o (IsCandidate test first want)) (sym e) old
best_found test first n want from start end next p best best' r run addr_is len_is answer (inr e) old = subst (λ o. IfSome o (IsCandidate test first want)) (sym e) (new r answer) where
  new : (r : Option PlaceValue) → LongestIn p want r → IfSome r (IsCandidate test first want)
  new None none = tt
  new (Some b) found = record { length = found.length; meets = found.meets; pass = run_passes test first n from start end next p b run addr_is len_is found.inside }
