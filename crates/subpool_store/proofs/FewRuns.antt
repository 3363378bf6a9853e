-- A page has at most 256 free runs.
use Rattle.std.proofs.Common.{◌≡◌, ◌∙◌, ℕ, zero, suc, ◌+◌, ◌*◌, ◌/◌, ◌%◌, ◌-◌, ◌<◌, ◌≤◌, ◌&&◌, ◌||◌, not, Bool, true, false, cond, Option, is_some, eqb, refl, ap, arith}
use Rattle.std.proofs.lemmas.Bool.{both_ways, ne_eqb}
use Rattle.mvs_model.specs.Finite.{count_below}
use Rattle.mvs_model.specs.Storage.{Storage, end_of, holder}
use Rattle.mvs_model.specs.declared.want.Side.{Side}
use Rattle.mvs_model.specs.declared.want.Side.TheVariants.{Below, Either}
use Rattle.mvs_model.specs.FreeRuns.{begins_free_run, free_runs, holds_in_page}
use Rattle.subpool_store.specs.Bound.{own_pages}
use Rattle.subpool_store.proofs.Counts.{count_split}
use Rattle.mvs_model.proofs.Below.{count_more, count_none}

none_below : (f : ℕ → Bool) (most : ℕ) → count_below 0 f ≤ most
unfolding count_below
none_below f most = omega arith

sum_bound : (total a b own one : ℕ) → total ≡ a + b → a ≤ 256 * own → b ≤ 256 * one → total ≤ 256 * (one + own)
sum_bound total a b own one is few more = omega arith

-- of two neighbours at most one is counted
halves : (f : ℕ → Bool) (n : ℕ) → ((i : ℕ) → i + 1 < n + n → f i ≡ true → f (i + 1) ≡ true → ⊥) → count_below (n + n) f ≤ n
unfolding count_below
halves f zero apart = omega arith
halves f (suc n) apart =
    let rest : count_below (n + n) f ≤ n = halves f n (λ i low. apart i (omega (arith, low))) in
    let two : suc n + suc n ≡ suc (suc (n + n)) = omega arith in
    rw two (by (f (suc (n + n))) (f (n + n)) refl refl rest) where
      by : (a b : Bool) → f (suc (n + n)) ≡ a → f (n + n) ≡ b → count_below (n + n) f ≤ n → cond a 1 0 + (cond b 1 0 + count_below (n + n) f) ≤ suc n
      by true true e g rest = absurd (apart (n + n) (omega arith) g (ap f (let same : n + n + 1 ≡ suc (n + n) = omega arith in same) ∙ e))
      by true false e g rest = omega (arith, rest)
      by false true e g rest = omega (arith, rest)
      by false false e g rest = omega (arith, rest)

is_clear : (b c : Bool) → (not b && c) ≡ true → b ≡ false
is_clear true c e = absurd (let f : false ≡ true = e in cc)
is_clear false c e = refl

comes_later : (b c first held : Bool) → first ≡ false → (not b && (c && (first || held))) ≡ true → held ≡ true
comes_later true c first held inner e = absurd (let f : false ≡ true = e in cc)
comes_later false false first held inner e = absurd (let f : false ≡ true = e in cc)
comes_later false true true held inner e = absurd (let f : true ≡ false = inner in cc)
comes_later false true false held inner e = e

no_page : (b c : Bool) → (not b && (false && c)) ≡ false
no_page true c = refl
no_page false c = refl

module _ (holder : ℕ → Option ℕ) (s : ℕ) where
  -- after the first doubleword of a page a run begins after a held one
  never_both : (d : ℕ) → ((d + 1) % 512 ≡ 0 → ⊥) → begins_free_run holder s d ≡ true → begins_free_run holder s (d + 1) ≡ true → ⊥
  never_both d inner one other =
      let clear : is_some (holder d) ≡ false = is_clear _ _ one in
      let set : is_some (holder (d + 1 - 1)) ≡ true = comes_later _ _ _ _ (ne_eqb ((d + 1) % 512) 0 inner) other in
      both_ways _ clear (ap (λ k. is_some (holder k)) (let same : d ≡ d + 1 - 1 = omega arith in same) ∙ set)

  -- the runs of one page
  in_page : (p : ℕ) (own : Bool) → holds_in_page holder s p ≡ own → count_below 512 (λ i. begins_free_run holder s (512 * p + i)) ≤ 256 * cond own 1 0
  in_page p true own =
      halves (λ i. begins_free_run holder s (512 * p + i)) 256 (λ i low one other.
      never_both (512 * p + i) (λ zero. absurd (omega (arith, low, zero))) one (ap (begins_free_run holder s) (let same : 512 * p + i + 1 ≡ 512 * p + (i + 1) = omega arith in same) ∙ other))
  in_page p false own =
      let none : count_below 512 (λ i. begins_free_run holder s (512 * p + i)) ≡ 0 = count_none 512 (λ i. begins_free_run holder s (512 * p + i)) (λ i low.
      ap (λ b. not (is_some (holder (512 * p + i))) && (b && (eqb ((512 * p + i) % 512) 0 || is_some (holder (512 * p + i - 1)))))
      (ap (holds_in_page holder s) (let page : (512 * p + i) / 512 ≡ p = omega (arith, low) in page) ∙ own) ∙ no_page (is_some (holder (512 * p + i))) (eqb ((512 * p + i) % 512) 0 || is_some (holder (512 * p + i - 1)))) in
      omega (arith, none)

  in_pages : (n : ℕ) → count_below (512 * n) (begins_free_run holder s) ≤ 256 * count_below n (holds_in_page holder s)
  in_pages zero = none_below (begins_free_run holder s) (256 * count_below 0 (holds_in_page holder s))
  in_pages (suc n) =
      rw (count_more n (holds_in_page holder s))
      (sum_bound (count_below (512 * suc n) (begins_free_run holder s)) (count_below (512 * n) (begins_free_run holder s)) (count_below 512 (λ i. begins_free_run holder s (512 * n + i))) (count_below n (holds_in_page holder s)) (cond (holds_in_page holder s n) 1 0)
      (count_split (512 * suc n) (512 * n) 512 (begins_free_run holder s) (omega arith)) (in_pages n) (in_page n (holds_in_page holder s n) refl))

-- the free runs of the pages of s
pub runs_few : (st : Storage) (s : ℕ) (side : Side) → free_runs st.regions (holder st) s side ≤ 256 * own_pages st s side
runs_few st s Below = in_pages (holder st) s 4096
runs_few st s Either =
    let n = 4096 + st.regions.above in
    let doublewords : end_of st.regions ≡ 512 * n = omega arith in
    let pages : end_of st.regions / 512 ≡ n = omega (arith, doublewords) in
    rw (pages, doublewords) (in_pages (holder st) s n)
