-- The greatest length that has a place, pages that hold nothing, and what stands for a thing that is wanted.
use Rattle.std.proofs.Common.{◌≡◌, ℕ, ◌+◌, ◌-◌, ◌*◌, ◌/◌, ◌%◌, ◌^◌, ◌<◌, ◌≤◌, inl, inr, Option, Some, None, not, is_some, refl, sym, ap, ◌∙◌, subst, arith}
use Rattle.std.specs.Prelude.{IfSome, MatchOption}
use Rattle.std.proofs.lemmas.Bool.{cases_lt}
use Rattle.std.specs.FinMap.{FinMap}
use Rattle.mvs_model.specs.Name.{name_cmp}
use Rattle.mvs_model.specs.Place.{PlaceValue, place_at}
use Rattle.mvs_model.specs.Want.{WantValue, IsWant}
use Rattle.mvs_model.specs.declared.want.Side.{Side}
use Rattle.mvs_model.specs.declared.reason.FreeSpace.{FreeSpace}
use Rattle.mvs_model.specs.FreeRuns.{free_runs}
use Rattle.mvs_model.specs.Pools.{part_want}
use Rattle.mvs_model.specs.Finite.{count_below}
use Rattle.mvs_model.specs.Storage.{Storage, Regions, InRegion, IsLength, Places, Chosen, NoPlace, holder}
use Rattle.mvs_model.specs.View.{IsBounded}
use Rattle.mvs_model.specs.Owners.{Owners}
use Rattle.mvs_model.specs.State.{State, holder as state_holder}
use Rattle.mvs_model.specs.Reports.{page_subpool}
use Rattle.mvs_model.specs.Reasons.{IsLongest, IsRoom, free_pages}
use Rattle.mvs_model.proofs.StorageLaws.{shorter_place}
use Rattle.cell_pool.specs.Agree.{Agree}
use Rattle.cell_pool.specs.Laying.{IsEquivalentWant}
use Rattle.cell_pool.specs.Roots.{Root, pools_of}
use Rattle.mvs_model.proofs.Seen.{same_holder}
use Rattle.subpool_store.specs.FreePages.{free_pages as free_in}
use Rattle.request_forms.specs.Machine.{machine_state}
use Rattle.request_forms.specs.Reports.{page_holder}
use Rattle.request_forms.proofs.Reporting.{pages_seen}

module _ (r : Regions) (held : ℕ → Option ℕ) (s : ℕ) (want : WantValue) (is : IsWant want) (none : NoPlace r held s want) where
  -- the lengths do not matter to a place
  from_eight : (n a : ℕ) → Places r held s want n a → Places r held s (record want { least = 8 }) n a
  from_eight n a p = let m = p.1 in (p.0, record { on_doubleword = m.on_doubleword; start = m.start; within = m.within; side = m.side })

  as_wanted : (n a : ℕ) → Places r held s (record want { least = 8 }) n a → Places r held s want n a
  as_wanted n a p = let m = p.1 in (p.0, record { on_doubleword = m.on_doubleword; start = m.start; within = m.within; side = m.side })

  -- no place is as long as what is wanted
  too_long : (m a : ℕ) → want.least ≤ m → Places r held s want m a → ⊥
  too_long m a l p = let some = is.some in none a (shorter_place r held s want want.least m a (omega arith) l p)

  longest_is : (p : PlaceValue) → Chosen r held s (record want { least = 8 }) p → IsLongest r held s want p.len
  longest_is p c = record {
    whole = c.length.whole;
    placed = inr (p.addr, as_wanted p.len p.addr c.placed);
    greatest = λ m a w l q. elim (cases_lt m want.least) [
      | inr high ↦ too_long m a high q
      | inl low ↦ (let o = is.ordered in c.greatest m a l (record { least = omega arith; most = omega arith; whole = w }) (from_eight m a q))
    ];
  }

  none_is : NoPlace r held s (record want { least = 8 }) → IsLongest r held s want 0
  none_is h = record {
    whole = refl;
    placed = inl refl;
    greatest = λ m a w l q. h a (from_eight 8 a (shorter_place r held s want 8 m a (omega arith) (omega arith) q));
  }

  pub longest_correct : (eight : WantValue) (v : Option PlaceValue) → eight ≡ record want { least = 8 } → MatchOption v (NoPlace r held s eight) (Chosen r held s eight) → MatchOption v (IsLongest r held s want 0) (λ p. IsLongest r held s want p.len)
  longest_correct eight None e h = none_is (subst (NoPlace r held s) e h)
  longest_correct eight (Some p) e h = longest_is p (subst (λ w. Chosen r held s w p) e h)

module _ (roots : FinMap name_cmp Root) (st : Storage) (o : Owners) (agree : Agree roots st) (s : ℕ) (want : WantValue) where
  holder_is : holder st ≡ state_holder (machine_state roots st o)
  holder_is = sym (same_holder st o (pools_of roots st) agree.parts.storage)

  -- what the store finds
  pub found_place : (p : PlaceValue) → Chosen st.regions (holder st) s want p → (p : PlaceValue) × Chosen st.regions (state_holder (machine_state roots st o)) s want p
  found_place p c = (p, subst (λ h. Chosen st.regions h s want p) holder_is c)

  pub longest_seen : (n : ℕ) → IsLongest st.regions (holder st) s want n → IsLongest st.regions (state_holder (machine_state roots st o)) s want n
  longest_seen n = subst (λ h. IsLongest st.regions h s want n) holder_is

-- what is counted of the pages that hold nothing, of so many from one on
pub pages_free : (roots : FinMap name_cmp Root) (st : Storage) (o : Owners) → Agree roots st → (first n free : ℕ) → free ≡ free_in st first n → free ≡ free_pages (machine_state roots st o) first n
pages_free roots st o agree first n free counted =
    let seen : page_holder st ≡ page_subpool (machine_state roots st o) = pages_seen roots st o agree.parts.storage in
    counted ∙ (λ i. count_below n (λ p. not (is_some (seen i (first + p)))))

-- what is found for a thing is found for another one for which it stands
module _ (r : Regions) (bounded : IsBounded r) (held : ℕ → Option ℕ) (s : ℕ) (real want : WantValue) (stands : IsEquivalentWant real want) where
  -- no place is so long
  none_so_long : (n a : ℕ) (w : WantValue) → 0x3000000 < n → Places r held s w n a → ⊥
  none_so_long n a w l p = at p.0.inside where
    at : InRegion r (place_at a n) → ⊥
    at (inl h) = let m : a + n ≤ 0x6000 + 4096 * r.below = h.1 in let b = bounded.below in omega arith
    at (inr h) = let m : a + n ≤ 0x1000000 + 4096 * r.above = h.1 in let b = bounded.above in omega arith

  as_real : (n a : ℕ) → Places r held s want n a → Places r held s real n a
  as_real n a p =
      let m = p.1 in (
        p.0,
        record {
          on_doubleword = m.on_doubleword;
          start = subst (λ k. a % 2 ^ k ≡ 0) stands.start m.start;
          within = subst (λ w. IfSome w (λ k. a / 2 ^ k ≡ (a + n - 1) / 2 ^ k)) stands.within m.within;
          side = λ e. m.side (stands.side ∙ e);
        },
      )

  as_want : (n a : ℕ) → Places r held s real n a → Places r held s want n a
  as_want n a p =
      let m = p.1 in (
        p.0,
        record {
          on_doubleword = m.on_doubleword;
          start = subst (λ k. a % 2 ^ k ≡ 0) (sym stands.start) m.start;
          within = subst (λ w. IfSome w (λ k. a / 2 ^ k ≡ (a + n - 1) / 2 ^ k)) (sym stands.within) m.within;
          side = λ e. m.side (sym stands.side ∙ e);
        },
      )

  pub stands_none : NoPlace r held s want → NoPlace r held s real
  stands_none none a p = elim stands.length [
    | inl e ↦ none a (subst (λ n. Places r held s want n a) (sym e.0) (as_want real.least a p))
    | inr l ↦ none_so_long real.least a real l.0 p
  ]

  pub stands_chosen : (p : PlaceValue) → Chosen r held s want p → Chosen r held s real p
  stands_chosen p c = elim stands.length [
    | inl e ↦ record {
      length = as_length e p.len c.length;
      placed = as_real p.len p.addr c.placed;
      greatest = λ n a l w q. c.greatest n a l (back_length e n w) (as_want n a q);
      above = λ a q. c.above a (as_want p.len a q);
    }
    | inr l ↦ absurd (none_so_long p.len p.addr want (let least = c.length.least in let long = l.1 in omega arith) c.placed)
  ] where
    as_length : (want.least ≡ real.least) × (want.most ≡ real.most) → (n : ℕ) → IsLength want n → IsLength real n
    as_length e n w = let least = w.least in let most = w.most in let el = e.0 in let em = e.1 in record { least = omega arith; most = omega arith; whole = w.whole }

    back_length : (want.least ≡ real.least) × (want.most ≡ real.most) → (n : ℕ) → IsLength real n → IsLength want n
    back_length e n w = let least = w.least in let most = w.most in let el = e.0 in let em = e.1 in record { least = omega arith; most = omega arith; whole = w.whole }

  pub stands_longest : (n : ℕ) → IsLongest r held s want n → IsLongest r held s real n
  stands_longest n h = record {
    whole = h.whole;
    placed = elim h.placed [ inl e ↦ inl e | inr p ↦ inr (p.0, as_real n p.0 p.1) ];
    greatest = λ m a w l q. h.greatest m a w l (as_want m a q);
  }

-- what is found for what stands for a part is found for the part
pub part_stands : (st : State) → IsBounded st.regions → (s size cells : ℕ) (side : Side) (want : WantValue) → IsEquivalentWant (part_want size cells side) want → (v : Option FreeSpace)
    → MatchOption v ((p : PlaceValue) × Chosen st.regions (state_holder st) s want p) (λ room. NoPlace st.regions (state_holder st) s want × IsRoom st s want room)
    → MatchOption v ((p : PlaceValue) × Chosen st.regions (state_holder st) s (part_want size cells side) p) (λ room. NoPlace st.regions (state_holder st) s (part_want size cells side) × IsRoom st s (part_want size cells side) room)
part_stands st bounded s size cells side want stands None h = (h.0, stands_chosen st.regions bounded (state_holder st) s (part_want size cells side) want stands h.0 h.1)
part_stands st bounded s size cells side want stands (Some room) h =
    let real = part_want size cells side in (
      stands_none st.regions bounded (state_holder st) s real want stands h.0,
      record { longest = stands_longest st.regions bounded (state_holder st) s real want stands _ h.1.longest; runs = h.1.runs ∙ ap (free_runs st.regions (state_holder st) s) stands.side; below = h.1.below; above = h.1.above },
    )
