-- Marks of ranges, one after another, and the bytes that stay meanwhile.
use Rattle.std.proofs.Common.{◌+◌, ◌*◌, Option, None, length, set, ap, subst, ◌≡◌, ◌∙◌, ℕ, ◌<◌, ◌≤◌, ◌/◌, Bool, true, false, List, get_or, sym, refl, inl, inr, arith}
use Rattle.std.proofs.lemmas.Bool.{cases_Bool, cases_eq, cond-true, cond-false, false≢true}
use Rattle.std.proofs.lemmas.List.{ext_get_or, get_or-set_other, get_or-set_same, length-set}
use Rattle.page_map.specs.Owners.{owner_of}
use Rattle.region_raw.specs.Pages.{Pages}
use Rattle.subpool_store.specs.Bits.{in_range}
use Rattle.subpool_store.specs.Edits.{HasBit, HasNoBit, IsGivenUp, IsMarked}
use Rattle.subpool_store.specs.Memory.{KeepsHeld, Stays}
use Rattle.subpool_store.proofs.Ranges.{in_range_true, in_range_false, in_range_from, out_of_range_from}

pub marked_none : (a : List Bool) (at : ℕ) (v : Bool) → IsMarked a at at v a
marked_none a at v = record { sizes = refl; each = λ i. sym (cond-false _ _ _ (out_of_range_from at at i (λ low. low))) }

-- two ranges that touch are one
pub marked_more : (a b c : List Bool) (from at to : ℕ) (v : Bool) → from ≤ at → at ≤ to → IsMarked a from at v b → IsMarked b at to v c → IsMarked a from to v c
marked_more a b c from at to v low high one two = record {
  sizes = two.sizes ∙ one.sizes;
  each = λ i. two.each i ∙ elim (cases_Bool (in_range at to i)) [
    | inl hit ↦ let p = in_range_true at to i hit in cond-true _ _ _ hit ∙ sym (cond-true _ _ _ (in_range_from from to i (omega (arith, low, p.0)) p.1))
    | inr out ↦ cond-false _ _ _ out ∙ one.each i ∙ elim (cases_Bool (in_range from at i)) [
      | inl hit ↦ let p = in_range_true from at i hit in cond-true _ _ _ hit ∙ sym (cond-true _ _ _ (in_range_from from to i p.0 (omega (arith, p.1, high))))
      | inr other ↦ cond-false _ _ _ other ∙ sym (cond-false _ _ _ (out_of_range_from from to i (λ begun. in_range_false at to i out (in_range_false from at i other begun))))
    ]
  ];
}

-- what lies after a range is as before
pub after_mark : (a b : List Bool) (from at : ℕ) (v : Bool) → IsMarked a from at v b → (i : ℕ) → at ≤ i → get_or b i false ≡ get_or a i false
after_mark a b from at v marked i low = marked.each i ∙ cond-false _ _ _ (out_of_range_from from at i (λ _. low))

pub was_set : (a b : List Bool) (from to : ℕ) → IsMarked a from to false b → (i : ℕ) → get_or b i false ≡ true → get_or a i false ≡ true
was_set a b from to marked i set = elim (cases_Bool (in_range from to i)) [
  | inl hit ↦ absurd (false≢true (sym (marked.each i ∙ cond-true _ _ _ hit) ∙ set))
  | inr out ↦ sym (marked.each i ∙ cond-false _ _ _ out) ∙ set
]

pub keeps_none : (held : List Bool) (bytes : Pages) → KeepsHeld held bytes bytes
keeps_none held bytes = record { sizes = refl; pages = λ _. refl; stays = λ _ _. refl }

pub keeps_more : (g h h' : List Bool) (a b c : Pages) → ((i : ℕ) → get_or g i false ≡ true → get_or h i false ≡ true) → ((i : ℕ) → get_or g i false ≡ true → get_or h' i false ≡ true) →
    KeepsHeld h a b → KeepsHeld h' b c → KeepsHeld g a c
keeps_more g h h' a b c first second one two = record {
  sizes = two.sizes ∙ one.sizes;
  pages = λ p. two.pages p ∙ one.pages p;
  stays = λ k set. two.stays k (second (k / 8) set) ∙ one.stays k (first (k / 8) set);
}

-- a range of which nothing was set is as before
pub marked_same : (a b : List Bool) (page : ℕ) → IsMarked a (512 * page) (512 * page + 512) false b → HasNoBit a page → b ≡ a
marked_same a b page marked none = ext_get_or false b a marked.sizes (λ i _. marked.each i ∙ elim (cases_Bool (in_range (512 * page) (512 * page + 512) i)) [
  | inl hit ↦ let p = in_range_true (512 * page) (512 * page + 512) i hit in cond-true _ _ _ hit ∙ sym (none i (omega (arith, p.0, p.1)))
  | inr out ↦ cond-false _ _ _ out
])

-- one page is looked at: it is given up, or something of it is held
pub given_one : (bits : List Bool) (old : List (Option ℕ)) (page : ℕ) → page < length old → HasNoBit bits page → IsGivenUp bits old page (page + 1) (set old page None)
given_one bits old page within none = record {
  sizes = length-set old page None;
  outside = λ p out. get_or-set_other old page p None None (λ is. false≢true (sym out ∙ in_range_from page (page + 1) p (omega (arith, is)) (omega (arith, is))));
  inside = λ p hit.
      let at = in_range_true page (page + 1) p hit in let is : p ≡ page = omega (arith, at.0, at.1) in
      inl (ap (owner_of (set old page None)) is ∙ get_or-set_same old page None None within, subst (HasNoBit bits) (sym is) none);
}

pub kept_one : (bits : List Bool) (old : List (Option ℕ)) (page : ℕ) → HasBit bits page → IsGivenUp bits old page (page + 1) old
kept_one bits old page some = record {
  sizes = refl;
  outside = λ p out. refl;
  inside = λ p hit. let at = in_range_true page (page + 1) p hit in let is : p ≡ page = omega (arith, at.0, at.1) in inr (refl, subst (HasBit bits) (sym is) some);
}

-- one page after others
pub given_more : (bits : List Bool) (old mid new : List (Option ℕ)) (from page : ℕ) → from ≤ page → IsGivenUp bits old from page mid → IsGivenUp bits mid page (page + 1) new → IsGivenUp bits old from (page + 1) new
given_more bits old mid new from page low one two = record {
  sizes = two.sizes ∙ one.sizes;
  outside = λ p out.
      two.outside p (out_of_range_from page (page + 1) p (λ begun. in_range_false from (page + 1) p out (omega (arith, begun, low))))
      ∙ one.outside p (out_of_range_from from page p (λ begun. let past : page + 1 ≤ p = in_range_false from (page + 1) p out begun in omega (arith, past)));
  inside = λ p hit. let at = in_range_true from (page + 1) p hit in elim (cases_eq p page) [
    | inl is ↦
        let before = one.outside p (out_of_range_from from page p (λ _. omega (arith, is))) in
        elim (two.inside p (in_range_from page (page + 1) p (omega (arith, is)) at.1)) [ inl gone ↦ inl gone | inr kept ↦ inr (kept.0 ∙ before, kept.1) ]
    | inr other ↦
        let same = two.outside p (out_of_range_from page (page + 1) p (λ begun. omega (arith, begun, other))) in
        elim (one.inside p (in_range_from from page p at.0 (omega (arith, at.1, other)))) [ inl gone ↦ inl (same ∙ gone.0, gone.1) | inr kept ↦ inr (same ∙ kept.0, kept.1) ]
  ];
}

-- the bytes of what is held stay while doublewords are given back and pages are closed
pub stays_given : (held held' : List Bool) (old mid new : Pages) → held' ≡ held → KeepsHeld held old mid → Stays held mid new → Stays held' old new
stays_given held held' old mid new same keeps stays k set = let was = sym (ap (λ (l : List Bool). get_or l (k / 8) false) same) ∙ set in stays k was ∙ keeps.stays k was
