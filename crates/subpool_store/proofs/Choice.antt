-- A place is open in the two regions together where it is in one of them, and the choice between them.
use Rattle.std.proofs.Common.{◌≡◌, ℕ, ◌+◌, ◌-◌, ◌*◌, ◌/◌, ◌<◌, ◌≤◌, ◌⊎◌, Option, Some, None, MatchOption, IsSome, is_some, List, length, get_or, refl, sym, ap, ◌∙◌, subst, inl, inr, arith}
use Rattle.std.proofs.lemmas.Bool.{cases_lt, false≢true}
use Rattle.std.proofs.lemmas.Option.{slice_get-get_or}
use Rattle.std.specs.List.{slice_get}
use Rattle.std.specs.FinMap.{get}
use Rattle.mvs_model.specs.Place.{PlaceValue, place_at}
use Rattle.mvs_model.specs.Storage.{AllHeld, Chosen, Covers, HeldBy, IsLength, IsPageOwner, IsBetween, MayTake, Meets, NoPlace, Open, Places, Storage, holder}
use Rattle.mvs_model.specs.Want.{WantValue, IsWant}
use Rattle.subpool_store.specs.Region.{AllHeldIn, BestIn, ChangedIn, RegionState, HeldIn, IsBest, OpenIn, OwnsPage}
use Rattle.subpool_store.specs.Joined.{BestAbove, IsStore, Taken, regions_of, store_of}
use Rattle.subpool_store.specs.Search.{Beats, IsShorter}
use Rattle.subpool_store.proofs.Both.{low_holder, high_holder, holder_small, low_byte, high_byte, below_changes, above_changes}

-- who may take a doubleword is decided by its page alone
same_may : (f g : ℕ → Option ℕ) (s d : ℕ) → ((e : ℕ) → e / 512 ≡ d / 512 → f e ≡ g e) → MayTake f s d → MayTake g s d
same_may f g s d same may = record {
  free = sym (same d refl) ∙ may.free;
  page = λ e t on held. may.page e t on (same e on ∙ held);
}

module _ (b a : RegionState) (fill s : ℕ) (both : IsStore b a) where
  pub open_below : (p : PlaceValue) → OpenIn b s p → Open (regions_of b a fill) (holder (store_of b a fill)) s p
  open_below p is_open =
      let first : b.first ≡ 3072 = both.first_below in
      let few : b.pages ≤ 2048 = both.few_below in
      let inside : IsBetween (8 * b.first) (8 * b.first + 4096 * b.pages) p = is_open.inside in
      record {
        inside = inl (omega arith, omega arith);
        each = λ d covered. same_may _ _ s d (λ e on. sym (low_holder b a fill e (omega arith))) (is_open.each d covered);
      }

  pub open_above : (p : PlaceValue) → OpenIn a s p → Open (regions_of b a fill) (holder (store_of b a fill)) s p
  open_above p is_open =
      let first : a.first ≡ 2097152 = both.first_above in
      let few : a.pages ≤ 8192 = both.few_above in
      let inside : IsBetween (8 * a.first) (8 * a.first + 4096 * a.pages) p = is_open.inside in
      record {
        inside = inr (omega arith, omega arith);
        each = λ d covered. same_may _ _ s d (λ e on. sym (high_holder b a fill e (omega arith) (omega arith))) (is_open.each d covered);
      }

  pub open_split : (p : PlaceValue) → 8 ≤ p.len → Open (regions_of b a fill) (holder (store_of b a fill)) s p → (OpenIn b s p × (p.addr < 0x1000000)) ⊎ (OpenIn a s p × (0x1000000 ≤ p.addr))
  open_split p some is_open =
      let first_b : b.first ≡ 3072 = both.first_below in
      let few_b : b.pages ≤ 2048 = both.few_below in
      let first_a : a.first ≡ 2097152 = both.first_above in
      let few_a : a.pages ≤ 8192 = both.few_above in
      elim is_open.inside [
        | inl low ↦
            let from : 0x6000 ≤ p.addr = low.0 in
            let to : p.addr + p.len ≤ 0x6000 + 4096 * b.pages = low.1 in
            inl (record { inside = (omega arith, omega arith); each = λ d covered. same_may _ _ s d (λ e on. low_holder b a fill e (omega arith)) (is_open.each d covered) }, omega arith)
        | inr high ↦
            let from : 0x1000000 ≤ p.addr = high.0 in
            let to : p.addr + p.len ≤ 0x1000000 + 4096 * a.pages = high.1 in
            inr (record { inside = (omega arith, omega arith); each = λ d covered. same_may _ _ s d (λ e on. high_holder b a fill e (omega arith) (omega arith)) (is_open.each d covered) }, omega arith)
      ]

-- no place above is longer than the best one
above_beaten : (a : RegionState) (s : ℕ) (want : WantValue) (r : Option PlaceValue) → BestAbove a s want r → (q : PlaceValue) → IsLength want q.len → OpenIn a s q → Meets want q → 0x1000000 ≤ q.addr → Beats r q.len
above_beaten a s want None (inl none) q len is_open meets high = none q len is_open meets
above_beaten a s want (Some p) (inl best) q len is_open meets high = best.longest q len is_open meets
above_beaten a s want r (inr side) q len is_open meets high = absurd (let low : q.addr < 0x1000000 = meets.side side.0 in omega arith)

below_beaten : (b : RegionState) (s : ℕ) (want : WantValue) (r : Option PlaceValue) → BestIn b s want r → (q : PlaceValue) → IsLength want q.len → OpenIn b s q → Meets want q → Beats r q.len
below_beaten b s want None none q len is_open meets = none q len is_open meets
below_beaten b s want (Some p) best q len is_open meets = best.longest q len is_open meets

module _ (b a : RegionState) (fill : ℕ) (st : Storage) (both : IsStore b a) (is : store_of b a fill ≡ st) (s : ℕ) (want : WantValue) (ok : IsWant want) where
  there : (n at : ℕ) → Places st.regions (holder st) s want n at → Places (regions_of b a fill) (holder (store_of b a fill)) s want n at
  there n at place = subst (λ t. Places t.regions (holder t) s want n at) (sym is) place

  long : (n : ℕ) → IsLength want n → 8 ≤ n
  long n len = let some : 8 ≤ want.least = ok.some in let least : want.least ≤ n = len.least in omega arith

  -- where each length that is wanted is beaten, and the place is the best one above or below, it is the one to choose
  chosen : (ra r : Option PlaceValue) → BestAbove a s want ra →
      ((q : PlaceValue) → IsLength want q.len → Open (regions_of b a fill) (holder (store_of b a fill)) s q → Meets want q → Beats r q.len) →
      (r ≡ ra) ⊎ (BestIn b s want r × IsShorter ra r) → MatchOption r (NoPlace st.regions (holder st) s want) (Chosen st.regions (holder st) s want)
  chosen ra None above beats from = λ at place.
      let p = there want.least at place in
      beats (place_at at want.least) (record { least = omega arith; most = ok.ordered; whole = ok.least_whole }) p.0 p.1
  chosen ra (Some p) above beats from = subst (λ t. Chosen t.regions (holder t) s want p) is (record {
    length = (placed ra above from).0;
    placed = ((placed ra above from).1, (placed ra above from).2);
    greatest = λ n at longer len place. let h : n ≤ p.len = beats (place_at at n) len place.0 place.1 in omega arith;
    above = λ at place high. side ra above from at place high;
  }) where
    first_a : a.first ≡ 2097152
    first_a = both.first_above

    placed : (ra : Option PlaceValue) → BestAbove a s want ra → (Some p ≡ ra) ⊎ (BestIn b s want (Some p) × IsShorter ra (Some p)) →
        IsLength want p.len × Open (regions_of b a fill) (holder (store_of b a fill)) s p × Meets want p
    placed ra (inl best) (inl e) = let at : IsBest a s want p = subst (BestIn a s want) (sym e) best in (at.length, open_above b a fill s both p at.is_open, at.meets)
    placed ra (inr side) (inl e) = absurd (let n : ◌≡◌ {A = Option PlaceValue} (Some p) None = e ∙ side.1 in cc)
    placed ra above (inr low) = (low.0.length, open_below b a fill s both p low.0.is_open, low.0.meets)

    side : (ra : Option PlaceValue) → BestAbove a s want ra → (Some p ≡ ra) ⊎ (BestIn b s want (Some p) × IsShorter ra (Some p)) →
        (at : ℕ) → Places (regions_of b a fill) (holder (store_of b a fill)) s want p.len at → 0x1000000 ≤ at → 0x1000000 ≤ p.addr
    side ra (inl best) (inl e) at place high = let here : IsBest a s want p = subst (BestIn a s want) (sym e) best in let inside : 8 * a.first ≤ p.addr = here.is_open.inside.0 in let first : a.first ≡ 2097152 = first_a in omega arith
    side ra (inr none) (inl e) at place high = absurd (let n : ◌≡◌ {A = Option PlaceValue} (Some p) None = e ∙ none.1 in cc)
    side ra above (inr low) at place high =
        elim (open_split b a fill s both (place_at at p.len) (long p.len low.0.length) place.0) [
          | inl down ↦ absurd (omega (arith, down.1))
          | inr up ↦ absurd (shorter ra low.1 (above_beaten a s want ra above (place_at at p.len) low.0.length up.0 place.1 high))
        ] where
          shorter : (ra : Option PlaceValue) → IsShorter ra (Some p) → Beats ra p.len → ⊥
          shorter None h beaten = beaten
          shorter (Some q) h beaten = omega arith

  -- the best place above, where no length that is wanted is greater
  pub chosen_longest : (ra : Option PlaceValue) → BestAbove a s want ra → ((n : ℕ) → IsLength want n → Beats ra n) → MatchOption ra (NoPlace st.regions (holder st) s want) (Chosen st.regions (holder st) s want)
  chosen_longest ra above beats = chosen ra ra above (λ q len is_open meets. beats q.len len) (inl refl)

  -- the longer one of the best places above and below
  pub chosen_longer : (ra rb r : Option PlaceValue) → BestAbove a s want ra → BestIn b s want rb → (r ≡ ra) ⊎ ((r ≡ rb) × IsShorter ra rb) → ((n : ℕ) → Beats ra n → Beats r n) → ((n : ℕ) → Beats rb n → Beats r n) →
      MatchOption r (NoPlace st.regions (holder st) s want) (Chosen st.regions (holder st) s want)
  chosen_longer ra rb r above below either one other = chosen ra r above
      (λ q len is_open meets. elim (open_split b a fill s both q (long q.len len) is_open) [
        | inl down ↦ other q.len (below_beaten b s want rb below q len down.0 meets)
        | inr up ↦ one q.len (above_beaten a s want ra above q len up.0 meets up.1)
      ])
      (from either) where
        from : (r ≡ ra) ⊎ ((r ≡ rb) × IsShorter ra rb) → (r ≡ ra) ⊎ (BestIn b s want r × IsShorter ra r)
        from (inl e) = inl e
        from (inr e) = inr (subst (BestIn b s want) (sym e.0) below, subst (IsShorter ra) (sym e.0) e.1)

module _ (b a : RegionState) (fill : ℕ) (st : Storage) (both : IsStore b a) (is : store_of b a fill ≡ st) (s : ℕ) (p : PlaceValue) (some : 8 ≤ p.len) where
  pub open_in_below : p.addr < 0x1000000 → Open st.regions (holder st) s p → OpenIn b s p
  open_in_below low is_open = elim (open_split b a fill s both p some (subst (λ t. Open t.regions (holder t) s p) (sym is) is_open)) [
    | inl below ↦ below.0
    | inr up ↦ absurd (omega (arith, up.1))
  ]

  pub open_in_above : 0x1000000 ≤ p.addr → Open st.regions (holder st) s p → OpenIn a s p
  open_in_above high is_open = elim (open_split b a fill s both p some (subst (λ t. Open t.regions (holder t) s p) (sym is) is_open)) [
    | inl below ↦ absurd (omega (arith, below.1))
    | inr up ↦ up.0
  ]

  pub open_high : 0x1000000 < p.addr + p.len → Open st.regions (holder st) s p → 0x1000000 ≤ p.addr
  open_high high is_open = elim (open_split b a fill s both p some (subst (λ t. Open t.regions (holder t) s p) (sym is) is_open)) [
    | inr up ↦ up.1
    | inl below ↦
        let first : b.first ≡ 3072 = both.first_below in
        let few : b.pages ≤ 2048 = both.few_below in
        let ends : p.addr + p.len ≤ 8 * b.first + 4096 * b.pages = below.0.inside.1 in
        absurd (omega arith)
  ]

  pub below_taken : (v w : Option ℕ) (b' : RegionState) → IsBetween (8 * b.first) (8 * b.first + 4096 * b.pages) p → ChangedIn b p v w b' → Taken st p v w (store_of b' a fill)
  below_taken v w b' inside change =
      let first : b.first ≡ 3072 = both.first_below in
      let few : b.pages ≤ 2048 = both.few_below in
      subst (λ t. Taken t p v w (store_of b' a fill)) is (below_changes b a fill b' p v w (omega arith) change)

  pub above_taken : (v w : Option ℕ) (a' : RegionState) → IsBetween (8 * a.first) (8 * a.first + 4096 * a.pages) p → ChangedIn a p v w a' → Taken st p v w (store_of b a' fill)
  above_taken v w a' inside change =
      let first : a.first ≡ 2097152 = both.first_above in
      let few : a.pages ≤ 8192 = both.few_above in
      subst (λ t. Taken t p v w (store_of b a' fill)) is (above_changes b a fill a' p v w (omega arith) (omega arith) change)

module _ (b a : RegionState) (fill : ℕ) (st : Storage) (both : IsStore b a) (is : store_of b a fill ≡ st) where
  -- a doubleword that is held is held in one of the regions, and not at the end of the lower part
  pub held_low : (d t : ℕ) → holder st d ≡ Some t → d < 2097152 → d < 1051648
  held_low d t held low =
      let first : b.first ≡ 3072 = both.first_below in
      let few : b.pages ≤ 2048 = both.few_below in
      let last : d < b.first + 512 * b.pages = (both.sound_below.bounded d t (sym (low_holder b a fill d low) ∙ ap (λ s. holder s d) is ∙ held)).1 in
      omega arith

  pub held_small : (d t : ℕ) → holder st d ≡ Some t → d < 268435456
  held_small d t held = holder_small b a fill d t (ap (λ s. holder s d) is ∙ held)

  pub low_is : (d : ℕ) → d < 2097152 → get b.held d ≡ holder st d
  low_is d low = sym (low_holder b a fill d low) ∙ ap (λ t. holder t d) is

  pub high_is : (d : ℕ) → 2097152 ≤ d → d < 268435456 → get a.held d ≡ holder st d
  high_is d high small = sym (high_holder b a fill d high small) ∙ ap (λ t. holder t d) is

  module _ (p : PlaceValue) (some : 1 ≤ p.len) where
    -- a place that is held from below 16 megabytes on ends there
    pub below_ends : p.addr < 0x1000000 → ((d : ℕ) → Covers p d → IsSome (holder st d)) → p.addr + p.len ≤ 0x1000000
    below_ends low held = elim (cases_lt 0x1000000 (p.addr + p.len)) [
      | inr fits ↦ fits
      | inl past ↦ absurd (by (holder st 2097151) refl (held 2097151 (omega arith, omega arith)))
    ] where
      by : (o : Option ℕ) → holder st 2097151 ≡ o → IsSome o → ⊥
      by None e none = false≢true none
      by (Some t) e _ = let low : 2097151 < 1051648 = held_low 2097151 t e (omega arith) in omega arith

    pub above_from : AllHeld st p → 0x1000000 < p.addr + p.len → 0x1000000 ≤ p.addr
    above_from held high = elim (cases_lt p.addr 0x1000000) [
      | inr up ↦ up
      | inl low ↦ let ends : p.addr + p.len ≤ 0x1000000 = below_ends low held in absurd (omega arith)
    ]

    -- the place is held in the region where it begins
    pub all_below : p.addr < 0x1000000 → AllHeld st p → AllHeldIn b p
    all_below low held d covered = let ends : p.addr + p.len ≤ 0x1000000 = below_ends low held in ap is_some (low_is d (omega arith)) ∙ held d covered

    pub all_above : 0x1000000 ≤ p.addr → AllHeld st p → AllHeldIn a p
    all_above high held d covered = by (holder st d) refl (held d covered) where
      by : (o : Option ℕ) → holder st d ≡ o → IsSome o → IsSome (get a.held d)
      by None e none = absurd (false≢true none)
      by (Some t) e _ = ap is_some (high_is d (omega arith) (held_small d t e) ∙ e)

    -- the bytes of the region are those of the storage
    pub bytes_below : (part : List ℕ) → length part ≡ p.len → p.addr < 0x1000000 → AllHeld st p → ((k : ℕ) → k < p.len → get b.bytes (p.addr + k) ≡ Some (get_or part k 0)) →
        (k : ℕ) → k < p.len → slice_get part k ≡ get st.bytes (p.addr + k)
    bytes_below part size low held each k inside =
        let ends : p.addr + p.len ≤ 0x1000000 = below_ends low held in
        slice_get-get_or part k 0 (omega arith) ∙ sym (each k inside) ∙ sym (low_byte b a fill (p.addr + k) (omega arith)) ∙ ap (λ t. get t.bytes (p.addr + k)) is

    pub bytes_above : (part : List ℕ) → length part ≡ p.len → 0x1000000 ≤ p.addr → AllHeld st p → ((k : ℕ) → k < p.len → get a.bytes (p.addr + k) ≡ Some (get_or part k 0)) →
        (k : ℕ) → k < p.len → slice_get part k ≡ get st.bytes (p.addr + k)
    bytes_above part size high held each k inside =
        let small : (p.addr + k) / 8 < 268435456 = by (holder st ((p.addr + k) / 8)) refl (held ((p.addr + k) / 8) (omega arith, omega arith)) in
        slice_get-get_or part k 0 (omega arith) ∙ sym (each k inside) ∙ sym (high_byte b a fill (p.addr + k) (omega arith) (omega arith)) ∙ ap (λ t. get t.bytes (p.addr + k)) is where
          by : (o : Option ℕ) → holder st ((p.addr + k) / 8) ≡ o → IsSome o → (p.addr + k) / 8 < 268435456
          by None e none = absurd (false≢true none)
          by (Some t) e _ = held_small ((p.addr + k) / 8) t e

  module _ (s : ℕ) (p : PlaceValue) (some : 1 ≤ p.len) where
    pub some_held : HeldBy st s p → (d : ℕ) → Covers p d → IsSome (holder st d)
    some_held held d covered = ap is_some (held d covered)

    pub held_below : p.addr < 0x1000000 → HeldBy st s p → HeldIn b s p
    held_below low held d covered = let ends : p.addr + p.len ≤ 0x1000000 = below_ends p some low (some_held held) in low_is d (omega arith) ∙ held d covered

    pub held_above : 0x1000000 ≤ p.addr → HeldBy st s p → HeldIn a s p
    held_above high held d covered = high_is d (omega arith) (held_small d s (held d covered)) ∙ held d covered

    pub below_held : HeldIn b s p → HeldBy st s p
    below_held held d covered =
        let first : b.first ≡ 3072 = both.first_below in
        let few : b.pages ≤ 2048 = both.few_below in
        let last : d < b.first + 512 * b.pages = (both.sound_below.bounded d s (held d covered)).1 in
        sym (low_is d (omega arith)) ∙ held d covered

    pub above_held : HeldIn a s p → HeldBy st s p
    above_held held d covered =
        let first : a.first ≡ 2097152 = both.first_above in
        let few : a.pages ≤ 8192 = both.few_above in
        let bound = both.sound_above.bounded d s (held d covered) in
        let low : a.first ≤ d = bound.0 in
        let last : d < a.first + 512 * a.pages = bound.1 in
        sym (high_is d (omega arith) (omega arith)) ∙ held d covered

    pub below_given : (b' : RegionState) → p.addr < 0x1000000 → HeldBy st s p → ChangedIn b p None None b' → Taken st p None None (store_of b' a fill)
    below_given b' low held change = subst (λ t. Taken t p None None (store_of b' a fill)) is (below_changes b a fill b' p None None (below_ends p some low (some_held held)) change)

    pub above_given : (a' : RegionState) → 0x1000000 ≤ p.addr → HeldBy st s p → ChangedIn a p None None a' → Taken st p None None (store_of b a' fill)
    above_given a' high held change =
        let last : (p.addr + p.len - 1) / 8 < 268435456 = held_small ((p.addr + p.len - 1) / 8) s (held ((p.addr + p.len - 1) / 8) (omega arith, omega arith)) in
        subst (λ t. Taken t p None None (store_of b a' fill)) is (above_changes b a fill a' p None None high (omega arith) change)

  -- the owner of a page is the one in its region
  pub owner_below : (x : ℕ) (o : Option ℕ) → x < 0x1000000 → OwnsPage b (x / 4096) o → IsPageOwner st x o
  owner_below x None low none = λ d on. sym (low_is d (omega arith)) ∙ none d on
  owner_below x (Some s) low found = let on : found.0 / 512 ≡ x / 4096 = found.1 in (found.0, found.1, sym (low_is found.0 (omega arith)) ∙ found.2)

  pub owner_above : (x : ℕ) (o : Option ℕ) → 0x1000000 ≤ x → x < 2147483648 → OwnsPage a (x / 4096) o → IsPageOwner st x o
  owner_above x None high small none = λ d on. sym (high_is d (omega arith) (omega arith)) ∙ none d on
  owner_above x (Some s) high small found = let on : found.0 / 512 ≡ x / 4096 = found.1 in (found.0, found.1, sym (high_is found.0 (omega arith) (omega arith)) ∙ found.2)
