-- Runs that are too short for what is wanted.
use Rattle.std.proofs.Common.{◌≡◌, ℕ, ◌+◌, ◌/◌, ◌<◌, ◌≤◌, ◌&&◌, not, Bool, true, false, List, Option, length, ap, inl, inr, arith}
use Rattle.std.proofs.lemmas.Bool.{both_ways, cases_eq, cases_lt}
use Rattle.std.proofs.lemmas.List.{get_or_past}
use Rattle.page_map.specs.Owners.{is_usable, owner_of}
use Rattle.subpool_store.specs.Search.{may_take, NoneFits}

-- after the last doubleword there is nothing to take
pub past_fails : (bits : List Bool) (pages : List (Option ℕ)) (s i : ℕ) → length bits ≤ i → may_take bits pages s i ≡ false
past_fails bits pages s i past = ap (λ b. not b && is_usable s (owner_of pages (i / 512))) (get_or_past bits i true past)

-- what does not go on with a run begins after its end
pub begins_after : (start end : ℕ) → (start ≡ end → ⊥) → end ≤ start → end < start
begins_after start end no_more low = elim (cases_eq start end) [ inl is ↦ absurd (no_more is) | inr other ↦ omega (arith, other, low) ]

module _ (test : ℕ → Bool) (n : ℕ) where
  -- nothing lies between a place and itself
  pub fits_none : (from : ℕ) → NoneFits test n from from
  fits_none from x low high window = absurd (omega (arith, low, high))

  -- indices that do not pass are passed over
  pub fits_skip : (from at next : ℕ) → 1 ≤ n → NoneFits test n from at → ((i : ℕ) → at ≤ i → i < next → test i ≡ false) → NoneFits test n from next
  fits_skip from at next some none skipped x low high window = elim (cases_lt x at) [
    | inl before ↦ none x low before window
    | inr trailing ↦ absurd (both_ways _ (skipped x trailing high) (window x (omega arith) (omega (arith, some))))
  ]

  -- and then a run that is too short
  pub fits_short : (from start end : ℕ) → end < start + n → test end ≡ false → NoneFits test n from start → NoneFits test n from end
  fits_short from start end short stops none x low high window = elim (cases_lt x start) [
    | inl before ↦ none x low before window
    | inr inside ↦ absurd (both_ways _ stops (window end (omega (arith, high)) (omega (arith, short, inside))))
  ]

  -- one stretch after another
  pub fits_join : (from at to : ℕ) → NoneFits test n from at → NoneFits test n at to → NoneFits test n from to
  fits_join from at to one two x low high window = elim (cases_lt x at) [ inl before ↦ one x low before window | inr trailing ↦ two x trailing high window ]
