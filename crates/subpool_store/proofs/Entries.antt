-- What page entries are for a subpool.
use Rattle.std.proofs.Common.{◌≡◌, ◌∙◌, ℕ, ◌<◌, ◌≤◌, cond, List, Option, Some, None, length, ltb, refl, sym, ap, inl, inr}
use Rattle.std.proofs.lemmas.Bool.{cases_eq, cases_lt, eq-eqb, le-ltb, lt-ltb, ne_eqb}
use Rattle.page_map.specs.Owners.{owner_of}
use Rattle.subpool_store.specs.Bits.{digit}
use Rattle.subpool_store.specs.PageWalk.{entry_by, entry_of}
use Rattle.subpool_store.specs.declared.counted.PageUse.{PageUse}
use Rattle.subpool_store.specs.declared.counted.PageUse.TheVariants.{Free, Own, Other, End}

-- whether there is an entry, counted
pub one_there : (p n : ℕ) → p < n → digit (ltb p n) ≡ 1
one_there p n low = ap digit (lt-ltb p n low)

pub none_there : (p n : ℕ) → n ≤ p → digit (ltb p n) ≡ 0
none_there p n past = ap digit (le-ltb p n past)

module _ (pages : List (Option ℕ)) (s p : ℕ) where
  pub entry_there : p < length pages → entry_of pages s p ≡ entry_by s (owner_of pages p)
  entry_there low = ap (λ b. cond b (entry_by s (owner_of pages p)) End) (lt-ltb p (length pages) low)

  pub entry_past : length pages ≤ p → entry_of pages s p ≡ End
  entry_past past = ap (λ b. cond b (entry_by s (owner_of pages p)) End) (le-ltb p (length pages) past)

  pub own_entry : p < length pages → owner_of pages p ≡ Some s → entry_of pages s p ≡ Own
  own_entry low own = entry_there low ∙ ap (entry_by s) own ∙ ap (λ b. cond b Own Other) (eq-eqb s s refl)

  there : (e : PageUse) → entry_of pages s p ≡ e → (e ≡ End → ⊥) → p < length pages
  there e is some = elim (cases_lt p (length pages)) [ inl low ↦ low | inr past ↦ absurd (some (sym is ∙ entry_past past)) ]

  by_own : (o : Option ℕ) → entry_by s o ≡ Own → o ≡ Some s
  by_own None e = absurd (let f : Free ≡ Own = e in cc)
  by_own (Some t) e = elim (cases_eq t s) [
    | inl is ↦ ap Some is
    | inr other ↦ absurd (let f : Other ≡ Own = sym (ap (λ b. cond b Own Other) (ne_eqb t s other)) ∙ e in cc)
  ]

  -- a page of s
  pub entry_own : entry_of pages s p ≡ Own → (p < length pages) × (owner_of pages p ≡ Some s)
  entry_own is = let low = there Own is (λ e. absurd (let f : Own ≡ End = e in cc)) in (low, by_own (owner_of pages p) (sym (entry_there low) ∙ is))
