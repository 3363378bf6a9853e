-- A list of two members that fill an empty page may be granted, and may be refused.
use Rattle.std.proofs.Common.{◌≡◌, ℕ, ◌+◌, ◌*◌, ◌%◌, ◌<◌, ◌≤◌, inl, inr, Bool, true, false, cond, List, [], ◌∷◌, Option, Some, None, arith, refl, sym, ap, ◌∙◌, subst}
use Rattle.std.specs.Prelude.{not, ◌&&◌, ◌==◌, is_some, MatchOption}
use Rattle.std.specs.Bool.{MatchBool}
use Rattle.std.proofs.lemmas.Bool.Decides.{nat_tests}
use Rattle.std.specs.Ordering.{nat_cmp}
use Rattle.std.specs.FinMap.{get, empty, get-insert, get-empty}
use Rattle.mvs_model.proofs.StepCases.{cases_step}
use Rattle.mvs_model.specs.declared.name.Name.{Name}
use Rattle.mvs_model.specs.declared.want.Side.TheVariants.{Below}
use Rattle.mvs_model.specs.declared.want.Residence.TheVariants as residence
use Rattle.mvs_model.specs.declared.request.Reply.TheVariants.{NotRun, Rc4, Listed}
use Rattle.mvs_model.specs.Name.{name_cmp}
use Rattle.mvs_model.specs.Place.{PlaceValue, place_at}
use Rattle.mvs_model.specs.Want.{WantValue}
use Rattle.mvs_model.specs.Storage.{InRegion, NoPlace, Chosen, covers}
use Rattle.mvs_model.specs.Owners.{entry_cmp, is_active, entry, IsSpare, SubpoolOf, Binds}
use Rattle.mvs_model.specs.State.{State, plain, subpool_in, holder}
use Rattle.mvs_model.specs.Changes.{GrantTo, ListGrant}
use Rattle.mvs_model.proofs.ByCase.{ListShort}
use Rattle.mvs_model.specs.Consequences.{Refuses}
use Rattle.mvs_model.proofs.ByCase.{Acts}
use Rattle.mvs_model.specs.Steps.{Step}
use Rattle.mvs_model.specs.Determined.{one_page, page_list, ListEitherWay}
use Rattle.mvs_model.proofs.Orders.{name_cmp_total, same_name_self}
use Rattle.mvs_model.proofs.Owning.{subpool_some}
use Rattle.mvs_model.proofs.Stuck.{granted_some}

abbrev pub member : ℕ → WantValue
member n = record { least = n; most = n; start = 3; within = None; side = Below }

-- a place for a member in the page
fits : (st : State) (s n a : ℕ) → st.regions.below ≡ 1 → n % 8 ≡ 0 → a % 8 ≡ 0 → 0x6000 ≤ a → a + n ≤ 0x7000 → ((d : ℕ) → a < 8 * d + 8 → 8 * d < a + n → holder st d ≡ None)
    → ((e u : ℕ) → holder st e ≡ Some u → u ≡ s) → Chosen st.regions (holder st) s (member n) (place_at a n)
fits st s n a page even on low high free one = record {
  length = record { least = omega arith; most = omega arith; whole = even };
  placed = (
    record { inside = inl (low, subst (λ k. a + n ≤ 0x6000 + 4096 * k) (sym page) high); each = λ d c. record { free = free d c.0 c.1; page = λ e u same h. one e u h } },
    record { on_doubleword = on; start = on; within = tt; side = λ e. omega arith },
  );
  greatest = λ m b l is p. absurd (let h : m ≤ n = is.most in omega (arith, h, l));
  above = λ b p l. absurd (let h : b < 0x1000000 = p.1.side refl in omega (arith, h, l));
}

module _ (t : Name) where
  active : is_active (one_page t).owners t ≡ true
  active = ap is_some (get-insert name_cmp_total empty t (record { mother = None; residence = residence.Below }) t ∙ ap (λ b. cond b (Some (record { mother = None; residence = residence.Below })) (get {R = name_cmp} empty t)) (same_name_self t))

  spare : SubpoolOf (one_page t).owners t 0 0
  spare = subst (λ v. MatchOption v (IsSpare (one_page t).owners 0) (λ r. 0 ≡ r)) (sym (get-empty entry_cmp (t, 0))) (record { spare = get-empty nat_cmp 0; least = λ r l. absurd (omega (arith, l)) })

  none_held : (d : ℕ) → holder (one_page t) d ≡ None
  none_held d = ap subpool_in (get-empty nat_cmp d)

  -- the first member, at an address of the page
  put_first : (a : ℕ) → a % 8 ≡ 0 → 0x6000 ≤ a → a + 8 ≤ 0x7000 → (mid : State) × GrantTo (one_page t) t 0 (member 8) (place_at a 8) mid
  put_first a on low high =
      granted_some (one_page t) t 0 (member 8) 0 (place_at a 8) spare
      (fits (one_page t) 0 8 a refl refl on low high (λ d l m. none_held d) (λ e u h. absurd (let f : None ≡ Some u = sym (none_held e) ∙ h in cc)))

  -- in the middle of the page it leaves no place for the second
  no_rest : (mid : State) → GrantTo (one_page t) t 0 (member 8) (place_at 0x6800 8) mid → (s : ℕ) → NoPlace mid.regions (holder mid) s (member 4088)
  no_rest mid g s a p =
      let low : 0x6000 ≤ a = at (subst (λ r. InRegion r (place_at a 4088)) g.regions p.0.inside) in
      let high : a + 4088 ≤ 0x7000 = up (subst (λ r. InRegion r (place_at a 4088)) g.regions p.0.inside) in
      let free : subpool_in (get mid.held 0xD00) ≡ None = (p.0.each 0xD00 (omega (arith, low, high), omega (arith, low, high))).free in
      let held : get mid.held 0xD00 ≡ Some (plain g.subpool) = g.held 0xD00 in
      let f : Some g.subpool ≡ None = sym (ap subpool_in held) ∙ free in cc where
        at : InRegion (one_page t).regions (place_at a 4088) → 0x6000 ≤ a
        at (inl h) = h.0
        at (inr h) = let l : 0x1000000 ≤ a = h.0 in omega (arith, l)

        up : InRegion (one_page t).regions (place_at a 4088) → a + 4088 ≤ 0x7000
        up (inl h) = h.1
        up (inr h) = absurd (let l : 0x1000000 ≤ a = h.0 in let m : a + 4088 ≤ 0x1000000 = h.1 in omega (arith, l, m))

  short : ListShort (one_page t) t 0 (member 8 ∷ member 4088 ∷ [])
  short =
      let g = put_first 0x6800 refl (omega arith) (omega arith) in
      let s = subpool_some g.0.owners t 0 in
      inr (place_at 0x6800 8, g.0, g.1, inl (s.0, s.1, no_rest g.0 g.1 s.0))

  refused : Step (one_page t) t page_list Rc4 (one_page t)
  refused =
      cases_step (one_page t) t page_list Rc4 (one_page t) tt
      (subst (λ b. MatchBool (not b) (Refuses (one_page t) NotRun Rc4 (one_page t)) (Acts (one_page t) t page_list Rc4 (one_page t))) (sym active) (inl (short, (refl, refl))))

  -- at its start it leaves just that
  held_after : (mid : State) (g : GrantTo (one_page t) t 0 (member 8) (place_at 0x6000 8) mid) (d : ℕ) → holder mid d ≡ cond (covers (place_at 0x6000 8) d) (Some g.subpool) None
  held_after mid g d = ap subpool_in (g.held d) ∙ at (covers (place_at 0x6000 8) d) where
    at : (b : Bool) → subpool_in (cond b (Some (plain g.subpool)) (get (one_page t).held d)) ≡ cond b (Some g.subpool) None
    at true = refl
    at false = none_held d

  subpool_after : (mid : State) (g : GrantTo (one_page t) t 0 (member 8) (place_at 0x6000 8) mid) → SubpoolOf mid.owners t 0 g.subpool
  subpool_after mid g =
      let binds : Binds (one_page t).owners t 0 g.subpool mid.owners = subst (λ v. MatchOption v (Binds (one_page t).owners t 0 g.subpool mid.owners) (λ _. mid.owners ≡ (one_page t).owners)) (get-empty entry_cmp (t, 0)) g.owners in
      let there : entry mid.owners t 0 ≡ Some g.subpool = binds.table (t, 0) ∙ ap (λ b. cond (b && (0 == 0)) (Some g.subpool) (get (one_page t).owners.table (t, 0))) (same_name_self t) in
      subst (λ v. MatchOption v (IsSpare mid.owners g.subpool) (λ r. g.subpool ≡ r)) (sym there) refl

  outside : (d : ℕ) (v : Option ℕ) → 0x6008 < 8 * d + 8 → cond (covers (place_at 0x6000 8) d) v None ≡ None
  outside d v l = grind (arith, nat_tests)

  only : (b : Bool) (s u : ℕ) → cond b (Some s) None ≡ Some u → u ≡ s
  only true s u e = cc
  only false s u e = absurd (let f : None ≡ Some u = e in cc)

  both : (ps : List PlaceValue) × (new : State) × ListGrant (one_page t) t 0 (member 8 ∷ member 4088 ∷ []) ps new
  both =
      let g = put_first 0x6000 refl (omega arith) (omega arith) in
      let c = fits g.0 g.1.subpool 4088 0x6008 (ap (λ r. r.below) g.1.regions) refl refl (omega arith) (omega arith) (λ d l m. held_after g.0 g.1 d ∙ outside d _ l) (λ e u h. only _ _ u (sym (held_after g.0 g.1 e) ∙ h)) in
      let n = granted_some g.0 t 0 (member 4088) g.1.subpool (place_at 0x6008 4088) (subpool_after g.0 g.1) c in
      (place_at 0x6000 8 ∷ place_at 0x6008 4088 ∷ [], n.0, (g.0, g.1, (n.0, n.1, refl)))

  granted : (ps : List PlaceValue) × (new : State) × Step (one_page t) t page_list (Listed ps) new
  granted = let b = both in (b.0, b.1, cases_step (one_page t) t page_list (Listed b.0) b.1 tt (subst (λ a. MatchBool (not a) (Refuses (one_page t) NotRun (Listed b.0) b.1) (Acts (one_page t) t page_list (Listed b.0) b.1)) (sym active) (inr (b.0, refl, b.2))))

pub list_either_way : ListEitherWay
list_either_way = record { refused = refused; granted = granted }
