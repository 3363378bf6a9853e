-- Regions that are copied page by page.
use Rattle.std.proofs.Common.{◌≡◌, ◌≢◌, ◌∙◌, ℕ, zero, suc, ◌+◌, ◌<◌, ◌≤◌, false, List, Option, Some, None, is_some, length, get_or, set, replicate, refl, sym, ap, arith, inl, inr, length-set}
use Rattle.std.proofs.lemmas.Bool.{cases_lt}
use Rattle.std.proofs.lemmas.List.{ext_get_or, length-replicate, get_or-set_same, get_or-set_other}
use Rattle.page_map.specs.Owners.{IsFirst, owner_of}
use Rattle.region_raw.specs.Pages.{Pages, is_open}
use Rattle.region_raw.proofs.PageRows.{blank_is}
use Rattle.subpool_store.specs.Region.{IsOpened}

-- The pages below n are copied, and the others are blank.
pub record IsCopied (old : Pages) (n : ℕ) (new : Pages) : Type 0 where
  pub sizes : length new ≡ length old
  pub below : (p : ℕ) → p < n → get_or new p None ≡ get_or old p None
  pub rest : (p : ℕ) → n ≤ p → get_or new p None ≡ None

all_blank : (n p : ℕ) → get_or {A = Option (List ℕ)} (replicate n None) p None ≡ None
all_blank zero p = refl
all_blank (suc n) zero = refl
all_blank (suc n) (suc p) = all_blank n p

module _ (pages : List (Option ℕ)) (old : Pages) (opened : IsOpened pages old) where
  -- the pages up to the first that is assigned are blank, and so are their copies
  pub passed : (n m : ℕ) (new : Pages) → IsCopied old n new → IsFirst is_some pages n m → IsCopied old m new
  passed n m new copied first = record {
    sizes = copied.sizes;
    below = λ p low. elim (cases_lt p n) [
      | inl less ↦ copied.below p less
      | inr from ↦ copied.rest p from ∙ sym (blank_is old p (opened.each p ∙ first.passed p from low))
    ];
    rest = λ p from. copied.rest p (omega (arith, from, first.after));
  }

  pub begun : (m : ℕ) (new : Pages) → new ≡ replicate (length pages) None → IsFirst is_some pages 0 m → IsCopied old m new
  begun m new blank first = passed 0 m new (record {
    sizes = ap length blank ∙ length-replicate (length pages) None ∙ sym opened.sizes;
    below = λ p low. absurd (omega (arith, low));
    rest = λ p from. ap (λ l. get_or l p None) blank ∙ all_blank (length pages) p;
  }) first

pub one_more : (old : Pages) (n m : ℕ) (new now : Pages) → IsCopied old n new → n < length old → m ≡ n + 1 → now ≡ set new n (get_or old n None) → IsCopied old m now
one_more old n m new now copied less next is = record {
  sizes = ap length is ∙ length-set new n (get_or old n None) ∙ copied.sizes;
  below = λ p low. elim (cases_lt p n) [
    | inl less' ↦ let other : p ≢ n = omega (arith, less') in ap (λ l. get_or l p None) is ∙ get_or-set_other new n p (get_or old n None) None other ∙ copied.below p less'
    | inr from ↦
        let same : p ≡ n = omega (arith, low, from, next) in
        ap (λ k. get_or now k None) same ∙ ap (λ l. get_or l n None) is ∙ get_or-set_same new n (get_or old n None) None (omega (arith, less, copied.sizes)) ∙ ap (λ k. get_or old k None) (sym same)
  ];
  rest = λ p from.
      let other : p ≢ n = omega (arith, from, next) in
      ap (λ l. get_or l p None) is ∙ get_or-set_other new n p (get_or old n None) None other ∙ copied.rest p (omega (arith, from, next));
}

pub all_copied : (old : Pages) (n : ℕ) (new : Pages) → IsCopied old n new → length old ≤ n → new ≡ old
all_copied old n new copied all = ext_get_or None new old copied.sizes (λ p low. copied.below p (omega (arith, low, copied.sizes, all)))
