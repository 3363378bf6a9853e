-- A place that is held outside of cell pools, by what may be read of it.
use Rattle.std.proofs.Common.{◌≡◌, ℕ, ◌+◌, ◌-◌, ◌*◌, ◌/◌, ◌<◌, ◌≤◌, ◌||◌, Bool, true, false, Option, is_some, refl, sym, ap, ◌∙◌, subst, arith, suc, zero}
use Rattle.std.specs.Prelude.{IsSome}
use Rattle.std.specs.FinMap.{get}
use Rattle.mvs_model.specs.Changes.{Granted}
use Rattle.mvs_model.specs.Place.{PlaceValue, round8}
use Rattle.mvs_model.specs.Pools.{cell_at}
use Rattle.mvs_model.specs.State.{State, granted, in_cell, is_plain, pooled}
use Rattle.mvs_model.proofs.CellPlaces.{has_is}
use Rattle.mvs_model.proofs.Tests.{false_true}
use Rattle.mvs_model.proofs.TakenCells.{cell_part, in_cell_is}
use Rattle.mvs_job.specs.Steady.{IsSteady}

-- the whole doublewords of a place
abbrev pub whole_of : PlaceValue → PlaceValue
whole_of p = record { addr = 8 * (p.addr / 8); len = 8 * (p.len / 8) }

-- a cell is after the first doubleword of its part
after_header : (d addr len m r c more : ℕ) → len ≡ 16 + 8 * m + r → c ≡ addr + len - r + more → c ≤ 8 * (d + 1) → addr < 8 * d + 8
after_header d addr len m r c more is cell h = omega (arith, is, cell, h)

before_end : (d end : ℕ) → 8 * (8 * (d + 1) / 8) < end → 8 * d < end
before_end d end h = omega (arith, h)

next_of : (d : ℕ) → 8 * (d + 1) / 8 ≡ d + 1
next_of d = omega arith

read_of : (first k : ℕ) → 8 * (first + suc k) ≡ 8 * (first + k + 1)
read_of first k = omega arith

within_of : (first count a : ℕ) → 8 * first ≤ a → a < 8 * first + 8 * count → a / 8 - first < count
within_of first count a from to = omega (arith, from, to)

again_of : (first a : ℕ) → 8 * first ≤ a → first + (a / 8 - first) ≡ a / 8
again_of first a from = omega (arith, from)

module _ (st : State) (steady : IsSteady st) where
  -- a doubleword in whose next one a cell has its first byte is of the same part
  no_cell : (d : ℕ) → is_plain (get st.held d) ≡ true → in_cell st (8 * (d + 1)) ≡ true → false ≡ true
  no_cell d here e =
      let i = in_cell_is st (8 * (d + 1)) e in
      let p = cell_part st steady.apart i.name i.pool i.first (8 * (d + 1)) i.is_pool i.taken i.inside in
      let part = steady.apart.parts i.name i.pool p.part i.is_pool p.is_part in
      let inside = has_is (cell_at i.pool i.first) (8 * (d + 1)) i.inside in
      let begins = after_header d p.part.place.addr p.part.place.len ((p.part.count + 63) / 64) (round8 (p.part.count * i.pool.cell_size)) i.first (p.is_cell.0 * i.pool.cell_size) part.length p.is_cell.2 inside.0 in
      let ends = before_end d (p.part.place.addr + p.part.place.len) p.covered.1 in
      ap is_plain (sym (part.held d (begins, ends))) ∙ here

  next_plain : (d : ℕ) → is_plain (get st.held d) ≡ true → granted st (8 * (d + 1)) ≡ true → is_plain (get st.held (d + 1)) ≡ true
  next_plain d here read = at (is_plain (get st.held (8 * (d + 1) / 8))) (in_cell st (8 * (d + 1))) refl refl read where
    at : (a b : Bool) → is_plain (get st.held (8 * (d + 1) / 8)) ≡ a → in_cell st (8 * (d + 1)) ≡ b → (a || b) ≡ true → is_plain (get st.held (d + 1)) ≡ true
    at true b is cell h = ap (λ k. is_plain (get st.held k)) (sym (next_of d)) ∙ is
    at false true is cell h = false_true (no_cell d here cell)
    at false false is cell h = false_true h

  all_plain : (first n : ℕ) → is_plain (get st.held first) ≡ true → ((k : ℕ) → k < n → granted st (8 * (first + k)) ≡ true) → (k : ℕ) → k < n → is_plain (get st.held (first + k)) ≡ true
  all_plain first n here read zero h = ap (λ d. is_plain (get st.held d)) (let f : first + 0 ≡ first = omega arith in f) ∙ here
  all_plain first n here read (suc k) h =
      ap (λ d. is_plain (get st.held d)) (let f : first + suc k ≡ first + k + 1 = omega arith in f)
      ∙ next_plain (first + k) (all_plain first n here read k (let l : k < n = omega (arith, h) in l)) (ap (λ a. granted st a) (sym (read_of first k)) ∙ read (suc k) h)

  -- if its first doubleword is held so and all of it can be read, each of its doublewords is
  pub plain_from : (p : PlaceValue) → is_plain (get st.held (p.addr / 8)) ≡ true → Granted st (whole_of p) → (k : ℕ) → k < p.len / 8 → is_plain (get st.held (p.addr / 8 + k)) ≡ true
  plain_from p here read = all_plain (p.addr / 8) (p.len / 8) here (λ k h. read (8 * (p.addr / 8 + k)) (let l : 8 * (p.addr / 8) ≤ 8 * (p.addr / 8 + k) = omega arith in l) (let l : 8 * (p.addr / 8 + k) < 8 * (p.addr / 8) + 8 * (p.len / 8) = omega (arith, h) in l))

  -- and then all of it can be read
  pub readable_from : (p : PlaceValue) → ((k : ℕ) → k < p.len / 8 → is_plain (get st.held (p.addr / 8 + k)) ≡ true) → Granted st (whole_of p)
  readable_from p all a from to =
      ap (λ b. b || in_cell st a) (ap (λ d. is_plain (get st.held d)) (sym (again_of (p.addr / 8) a from)) ∙ all (a / 8 - p.addr / 8) (within_of (p.addr / 8) (p.len / 8) a from to))

  -- the same, by two tests
  pub readable_is : {X : Type 0} (read : State) (p whole : PlaceValue) (o : Option X) (b : Bool) → read ≡ st → whole ≡ whole_of p → is_plain (get st.held (p.addr / 8)) ≡ true → (IsSome o → Granted read whole) × (Granted read whole → IsSome o) → b ≡ is_some o
      → (b ≡ true → (k : ℕ) → k < p.len / 8 → is_plain (get st.held (p.addr / 8 + k)) ≡ true) × (((k : ℕ) → k < p.len / 8 → is_plain (get st.held (p.addr / 8 + k)) ≡ true) → b ≡ true)
  readable_is read p whole o b same is here granted test = (
    λ h. plain_from p here (subst (λ s. Granted s (whole_of p)) same (subst (Granted read) is (granted.0 (sym test ∙ h)))),
    λ all. test ∙ (granted.1 (subst (Granted read) (sym is) (subst (λ s. Granted s (whole_of p)) (sym same) (readable_from p all)))),
  )
