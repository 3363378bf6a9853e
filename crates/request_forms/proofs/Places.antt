-- Lists of places that are looked at and taken back.
use Rattle.std.proofs.Common.{inl, inr, ◌≡◌, ℕ, ◌+◌, ◌*◌, ◌/◌, ◌<◌, ◌≤◌, Bool, true, false, cond, List, [], ◌∷◌, map, Option, Some, None, Result, Ok, Err, refl, sym, ap, ◌∙◌, subst, leb, arith}
use Rattle.std.specs.Prelude.{is_some, IsTrue, MatchResult, ◌↔◌, ◌||◌, ◌&&◌}
use Rattle.std.specs.List.{AllByRecursion, list_all}
use Rattle.std.specs.Option.{option_map}
use Rattle.std.proofs.lemmas.Bool.Decides.{nat_tests}
use Rattle.std.specs.FinMap.{FinMap, get}
use Rattle.mvs_model.specs.Place.{PlaceValue}
use Rattle.mvs_model.specs.Finite.{Changes, has}
use Rattle.mvs_model.specs.Storage.{Storage, holder, IsStorage, IsWhole, HeldBy, Covers, covers, has_address, Release}
use Rattle.mvs_model.specs.Owners.{Owners}
use Rattle.mvs_model.specs.Name.{name_cmp}
use Rattle.mvs_model.specs.State.{plain, pooled}
use Rattle.mvs_model.specs.View.{in_pools, state_of}
use Rattle.cell_pool.specs.Agree.{Agree}
use Rattle.cell_pool.specs.Cells.{Touches, TouchesNone}
use Rattle.cell_pool.specs.Laws.{IsClear}
use Rattle.cell_pool.specs.Roots.{Root, pools_of}
use Rattle.mvs_model.specs.Changes.{any_covers, any_has, Misses, Disjoint, HeldPlain, Frees}
use Rattle.mvs_model.specs.Causes.{HoldsEach, Passed, Refused, held_causes}
use Rattle.mvs_model.specs.declared.refusal.Refusal.TheVariants.{NotHeld, Overlap}
use Rattle.mvs_model.proofs.StorageLaws.{covers_is}
use Rattle.mvs_model.proofs.Seen.{held_as}
use Rattle.mvs_model.proofs.SeenRelease.{held_plain, plain_held, plain_clear, frees_seen}
use Rattle.mvs_model.proofs.Stand.{held_state}
use Rattle.request_forms.specs.Lists.{HoldsApart, ReleasesEach}
use Rattle.request_forms.specs.Machine.{machine_state}
use Rattle.request_forms.proofs.Pooling.{releases_agree}

-- places that end before the other begins have no doubleword in common
misses_before : (p q : PlaceValue) → (p.addr + p.len + 7) / 8 ≤ q.addr / 8 → Misses p q
misses_before p q l d c e = let m : 8 * d < p.addr + p.len = c.1 in let n : q.addr < 8 * d + 8 = e.0 in omega arith

misses_after : (p q : PlaceValue) → (q.addr + q.len + 7) / 8 ≤ p.addr / 8 → Misses p q
misses_after p q l d c e = misses_before q p l d e c

-- places of which neither ends before the other begins have one
overlapping : (p q : PlaceValue) → 1 ≤ p.len → 1 ≤ q.len → q.addr / 8 < (p.addr + p.len + 7) / 8 → p.addr / 8 < (q.addr + q.len + 7) / 8 → Misses p q → ⊥
overlapping p q m n l k h = at (leb (p.addr / 8) (q.addr / 8)) refl where
  at : (b : Bool) → leb (p.addr / 8) (q.addr / 8) ≡ b → ⊥
  at true e = let o : p.addr / 8 ≤ q.addr / 8 = grind (arith, nat_tests) in h (q.addr / 8) (omega arith, omega arith) (omega arith, omega arith)
  at false e = let o : q.addr / 8 < p.addr / 8 = grind (arith, nat_tests) in h (p.addr / 8) (omega arith, omega arith) (omega arith, omega arith)

pub apart_is : (p q : PlaceValue) (p_first p_end q_first q_end : ℕ) → p_first ≡ p.addr / 8 → p_end ≡ (p.addr + p.len + 7) / 8 → q_first ≡ q.addr / 8 → q_end ≡ (q.addr + q.len + 7) / 8 → 1 ≤ p.len → 1 ≤ q.len
    → q_first < p_end → IsTrue (leb q_end p_first) ↔ Misses p q
apart_is p q p_first p_end q_first q_end pf pe qf qe m n l = (there, back) where
  there : IsTrue (leb q_end p_first) → Misses p q
  there e = misses_after p q (let o : q_end ≤ p_first = grind (arith, nat_tests) in omega arith)

  back : Misses p q → IsTrue (leb q_end p_first)
  back h = at (leb q_end p_first) refl where
    at : (b : Bool) → leb q_end p_first ≡ b → IsTrue b
    at true e = refl
    at false e = let o : p_first < q_end = grind (arith, nat_tests) in absurd (overlapping p q m n (omega arith) (omega arith) h)

-- what a test says
pub refuted : {P : Type 0} (b : Bool) → b ≡ false → IsTrue b ↔ P → P → ⊥
refuted b e h p = let t : b ≡ true = h.1 p in absurd (let f : false ≡ true = sym e ∙ t in cc)

pub decided : {P : Type 0} (b : Bool) → b ≡ true → IsTrue b ↔ P → P
decided b e h = h.0 e

-- whether each of a list passes, by its first member and the others
pub fails_first : {X Y : Type 0} (P : Y → Type 0) (f : X → Y) (xs rest : List X) (x : X) → xs ≡ x ∷ rest → (P (f x) → ⊥) → IsTrue false ↔ AllByRecursion P (map f xs)
fails_first P f xs rest x e h = subst (λ l. IsTrue false ↔ AllByRecursion P (map f l)) (sym e) ((λ n. absurd (let o : false ≡ true = n in cc)), (λ a. absurd (h a.0)))

pub passes_first : {X Y : Type 0} (P : Y → Type 0) (f : X → Y) (xs rest : List X) (x : X) (b : Bool) → xs ≡ x ∷ rest → P (f x) → IsTrue b ↔ AllByRecursion P (map f rest) → IsTrue b ↔ AllByRecursion P (map f xs)
passes_first P f xs rest x b e h r = subst (λ l. IsTrue b ↔ AllByRecursion P (map f l)) (sym e) ((λ y. (h, r.0 y)), (λ a. r.1 a.1))

pub others_pass : {X : Type 0} (test : X → Bool) (xs rest : List X) (x : X) → xs ≡ x ∷ rest → list_all test xs ≡ true → list_all test rest ≡ true
others_pass test xs rest x e h = at (test x) (list_all test rest) (sym (ap (list_all test) e) ∙ h) where
  at : (a b : Bool) → (a && b) ≡ true → b ≡ true
  at true b f = f
  at false b f = absurd (let g : false ≡ true = f in cc)

-- what is held beside a place that is taken back is still held
still_held : (st mid : Storage) (s : ℕ) (p q : PlaceValue) → Release st s p mid → Misses p q → HeldBy st s q → HeldBy mid s q
still_held st mid s p q r m h d c = r.held d ∙ at (covers p d) (λ e. m d (covers_is p d e) c) ∙ h d c where
  at : (b : Bool) → (b ≡ true → ⊥) → cond b None (holder st d) ≡ holder st d
  at true n = absurd (n refl)
  at false n = refl

all_still_held : (st mid : Storage) (s : ℕ) (p : PlaceValue) (ps : List PlaceValue) → Release st s p mid → AllByRecursion (Misses p) ps → AllByRecursion (HeldBy st s) ps → AllByRecursion (HeldBy mid s) ps
all_still_held st mid s p [] r m h = tt
all_still_held st mid s p (q ∷ ps) r m h = (still_held st mid s p q r m.0 h.0, all_still_held st mid s p ps r m.1 h.1)

pub others_held : {X : Type 0} (st mid : Storage) (s : ℕ) (f : X → PlaceValue) (xs rest : List X) (x : X) → xs ≡ x ∷ rest → HoldsApart st s (map f xs) → Release st s (f x) mid → HoldsApart mid s (map f rest)
others_held st mid s f xs rest x e h r = let k = subst (λ l. HoldsApart st s (map f l)) e h in (all_still_held st mid s (f x) (map f rest) r k.1.0 k.0.1, k.1.1)

pub first_released : {X : Type 0} (st mid new : Storage) (s : ℕ) (f : X → PlaceValue) (xs rest : List X) (x : X) → xs ≡ x ∷ rest → IsStorage mid → Release st s (f x) mid → ReleasesEach mid s (map f rest) new → ReleasesEach st s (map f xs) new
first_released st mid new s f xs rest x e is r h = subst (λ l. ReleasesEach st s (map f l) new) (sym e) (mid, is, r, h)

-- releases one after another are one change
both_gone : {X : Type 0} (a b : Bool) (v : Option X) → cond b None (cond a None v) ≡ cond (a || b) None v
both_gone true true v = refl
both_gone true false v = refl
both_gone false b v = refl

each_free : (st new : Storage) (s : ℕ) (ps : List PlaceValue) → ReleasesEach st s ps new → Changes (get st.held) (any_covers ps) None (get new.held)
each_free st new s [] h d = ap (λ x. get x.held d) h
each_free st new s (p ∷ ps) h d = each_free h.0 new s ps h.3 d ∙ ap (cond (any_covers ps d) None) (h.2.held d) ∙ both_gone (covers p d) (any_covers ps d) (get st.held d)

each_gone : (st new : Storage) (s : ℕ) (ps : List PlaceValue) → ReleasesEach st s ps new → Changes (get st.bytes) (any_has ps) None (get new.bytes)
each_gone st new s [] h a = ap (λ x. get x.bytes a) h
each_gone st new s (p ∷ ps) h a = each_gone h.0 new s ps h.3 a ∙ ap (cond (any_has ps a) None) (h.2.bytes a) ∙ both_gone (has_address p a) (any_has ps a) (get st.bytes a)

pub same_regions : (st new : Storage) (s : ℕ) (ps : List PlaceValue) → ReleasesEach st s ps new → new.regions ≡ st.regions
same_regions st new s [] h = ap (λ x. x.regions) h
same_regions st new s (p ∷ ps) h = same_regions h.0 new s ps h.3 ∙ h.2.regions

-- each place is of whole doublewords
pub each_whole : (st new : Storage) (s : ℕ) (ps : List PlaceValue) → ReleasesEach st s ps new → AllByRecursion IsWhole ps
each_whole st new s [] h = tt
each_whole st new s (p ∷ ps) h = (h.2.whole, each_whole h.0 new s ps h.3)

module _ (roots : FinMap name_cmp Root) (st : Storage) (o : Owners) (agree : Agree roots st) where
  -- what a subpool holds outside of pools
  pub plain_from : (s : ℕ) (p : PlaceValue) → HeldBy st s p → TouchesNone st (pools_of roots st) s p → HeldPlain (machine_state roots st o) s p
  plain_from s p h none = held_plain st o (pools_of roots st) s p agree.parts.storage h clear where
    clear : (d : ℕ) → Covers p d → in_pools (pools_of roots st) d ≡ false
    clear d c = by (in_pools (pools_of roots st) d) refl where
      by : (v : Bool) → in_pools (pools_of roots st) d ≡ v → v ≡ false
      by false f = refl
      by true f = absurd (none d c (λ i. option_map (held_as (f i)) (h d c i)))

  pub plain_back : (s : ℕ) (p : PlaceValue) → HeldPlain (machine_state roots st o) s p → HeldBy st s p
  plain_back s p h = plain_held st o (pools_of roots st) s p agree.parts.storage h

  pub plain_not : (s : ℕ) (p : PlaceValue) → Touches st (pools_of roots st) s p → HeldPlain (machine_state roots st o) s p → ⊥
  plain_not s p t h = let both : Some (pooled s) ≡ Some (plain s) = sym t.2 ∙ sym (held_state st o (pools_of roots st) agree.parts.storage t.0) ∙ h t.0 t.1 in
      absurd (let e : true ≡ false = ap (has (λ k. k.pooled)) both in cc)

  pub all_back : (s : ℕ) (ps : List PlaceValue) → AllByRecursion (HeldPlain (machine_state roots st o) s) ps → AllByRecursion (HeldBy st s) ps
  all_back s [] h = tt
  all_back s (p ∷ ps) h = (plain_back s p h.0, all_back s ps h.1)

  all_clear : (s : ℕ) (ps : List PlaceValue) → AllByRecursion (HeldPlain (machine_state roots st o) s) ps → AllByRecursion (IsClear (pools_of roots st)) ps
  all_clear s [] h = tt
  all_clear s (p ∷ ps) h = (plain_clear st o (pools_of roots st) s p agree.parts.storage h.0, all_clear s ps h.1)

  -- places that are not all held, or that overlap, are refused
  pub unheld_areas : (v : Option ℕ) (s : ℕ) (ps : List PlaceValue) → v ≡ Some s → (AllByRecursion (HeldPlain (machine_state roots st o) s) ps → ⊥) → Refused (held_causes (is_some v) (HoldsEach (machine_state roots st o) v ps) (Disjoint ps)) NotHeld
  unheld_areas v s ps e h = subst (λ w. Refused (held_causes (is_some w) (HoldsEach (machine_state roots st o) w ps) (Disjoint ps)) NotHeld) (sym e) (inr (refl, inl (h, refl)))

  pub overlapping_areas : (v : Option ℕ) (s : ℕ) (ps : List PlaceValue) → v ≡ Some s → AllByRecursion (HeldPlain (machine_state roots st o) s) ps → (Disjoint ps → ⊥) → Refused (held_causes (is_some v) (HoldsEach (machine_state roots st o) v ps) (Disjoint ps)) Overlap
  overlapping_areas v s ps e h n = subst (λ w. Refused (held_causes (is_some w) (HoldsEach (machine_state roots st o) w ps) (Disjoint ps)) Overlap) (sym e) (inr (refl, inr (h, inl (n, refl))))

  -- places that are released
  module _ (new : Storage) (s : ℕ) (ps : List PlaceValue) (now : IsStorage new) (held : AllByRecursion (HeldPlain (machine_state roots st o) s) ps) (r : ReleasesEach st s ps new) where
    pub areas_released : Agree roots new × (pools_of roots new ≡ pools_of roots st)
    areas_released = releases_agree roots st new s ps agree (all_clear s ps held) r

    pub released_areas : (v : Option ℕ) → v ≡ Some s → Disjoint ps → Passed (held_causes (is_some v) (HoldsEach (machine_state roots st o) v ps) (Disjoint ps)) × Frees (machine_state roots st o) ps (machine_state roots new o)
    released_areas v e apart = (
      subst (λ w. Passed (held_causes (is_some w) (HoldsEach (machine_state roots st o) w ps) (Disjoint ps))) (sym e) (refl, (held, (apart, tt))),
      subst (λ pools. Frees (machine_state roots st o) ps (state_of new o pools)) (sym areas_released.1)
          (frees_seen st new o (pools_of roots st) ps agree.parts.storage now (each_whole st new s ps r) (same_regions st new s ps r) (each_free st new s ps r) (each_gone st new s ps r)),
    )

  -- a place that a part of a pool lies in is refused
  pub touched_area : (v : Option ℕ) (s : ℕ) (p : PlaceValue) → v ≡ Some s → Touches st (pools_of roots st) s p → Refused (held_causes (is_some v) (HoldsEach (machine_state roots st o) v (p ∷ [])) (Disjoint (p ∷ []))) NotHeld
  touched_area v s p e t = unheld_areas v s (p ∷ []) e (λ h. plain_not s p t h.0)

  -- one place outside of pools, which a store releases or refuses
  module _ (new : Storage) (s : ℕ) (p : PlaceValue) (now : IsStorage new) (none : TouchesNone st (pools_of roots st) s p) where
    held_area : Release st s p new → AllByRecursion (HeldPlain (machine_state roots st o) s) (p ∷ [])
    held_area r = (plain_from s p r.was_held none, tt)

    pub area_agrees : {A E : Type 0} (answer : Result A E) → MatchResult answer (λ _. Release st s p new) (λ _. (HeldBy st s p → ⊥) × (new ≡ st)) → Agree roots new
    area_agrees (Ok _) r = (areas_released new s (p ∷ []) now (held_area r) (new, now, r, refl)).0
    area_agrees (Err _) h = subst (Agree roots) (sym h.1) agree

    pub released_area : (v : Option ℕ) → v ≡ Some s → Release st s p new → Passed (held_causes (is_some v) (HoldsEach (machine_state roots st o) v (p ∷ [])) (Disjoint (p ∷ []))) × Frees (machine_state roots st o) (p ∷ []) (machine_state roots new o)
    released_area v e r = released_areas new s (p ∷ []) now (held_area r) (new, now, r, refl) v e (tt, tt)

    pub unheld_area : (v : Option ℕ) → v ≡ Some s → (HeldBy st s p → ⊥) × (new ≡ st) → Refused (held_causes (is_some v) (HoldsEach (machine_state roots st o) v (p ∷ [])) (Disjoint (p ∷ []))) NotHeld × (machine_state roots new o ≡ machine_state roots st o)
    unheld_area v e h = (unheld_areas v s (p ∷ []) e (λ a. h.0 (plain_back s p a.0)), ap (λ x. machine_state roots x o) h.1)
