-- An index of the changes of a step, and what of them frees a doubleword of an area.
use Rattle.std.proofs.Common.{◌≡◌, ℕ, ◌+◌, ◌-◌, ◌<◌, ◌≤◌, ◌&&◌, ◌==◌, Bool, true, false, List, [], ◌∷◌, ◌++◌, length, length-append, drop, get_or, Some, inl, inr, refl, sym, ap, subst, ◌∙◌, arith, suc, zero}
use Rattle.std.specs.Prelude.{◌⊎◌, nat_lt, slice_get, if◌then◌else◌}
use Rattle.std.proofs.lemmas.Grind.{common_steps}
use Rattle.std.proofs.lemmas.Option.{slice_get-get_or, slice_get_within}
use Rattle.mvs_model.proofs.Tests.{none_some}
use Rattle.mvs_model.specs.declared.gifts.Gifts.{Gifts}
use Rattle.mvs_model.specs.declared.name.Name.{Name}
use Rattle.mvs_model.specs.Place.{PlaceValue}
use Rattle.area_history.specs.declared.events.StorageChange.{StorageChange}
use Rattle.area_history.specs.declared.events.StorageChange.TheVariants as change
use Rattle.area_history.specs.declared.events.StorageEvent.{StorageEvent}
use Rattle.area_history.specs.declared.grant.AreaGrant.{AreaGrant}
use Rattle.area_history.specs.declared.release_index.LastReleases.{LastReleases}
use Rattle.area_history.specs.declared.release_index.ReleaseIndex.{ReleaseIndex}
use Rattle.area_history.specs.Histories.{fate, frees_area, frees_by, owner_by, owner_since}
use Rattle.area_history.proofs.Marking.{is_next, next_here, next_other}
use Rattle.area_history.specs.ReleaseIndex.{AreEarlier, AreLastReleases, HaveCodes, IsAmong, IsAscending, IsReleaseIndex, NoneConcerns, NoneReleases, concerns, concerns_by, first_code, has_code, later_releases, releases, releases_at}

-- ---- items of a list

pub get_snoc : {A : Type 0} (xs : List A) (x e : A) (i : ℕ) → slice_get (xs ++ x ∷ []) i ≡ Some e → (slice_get xs i ≡ Some e) ⊎ ((i ≡ length xs) × (e ≡ x))
get_snoc [] x e zero h = inr (refl, let f : e ≡ x = cc in f)
get_snoc [] x e (suc i) h = none_some h
get_snoc (y ∷ xs) x e zero h = inl h
get_snoc (y ∷ xs) x e (suc i) h = later (get_snoc xs x e i h) where
  later : (slice_get xs i ≡ Some e) ⊎ ((i ≡ length xs) × (e ≡ x)) → (slice_get xs i ≡ Some e) ⊎ ((suc i ≡ suc (length xs)) × (e ≡ x))
  later (inl h) = inl h
  later (inr h) = inr (ap (λ k. suc k) h.0, h.1)

pub get_more : {A : Type 0} (xs ys : List A) (e : A) (i : ℕ) → slice_get (xs ++ ys) i ≡ Some e → i < length xs → slice_get xs i ≡ Some e
get_more [] ys e i h l = absurd (omega (arith, l))
get_more (x ∷ xs) ys e zero h l = h
get_more (x ∷ xs) ys e (suc i) h l = get_more xs ys e i h (omega (arith, l))

pub same_item : {A : Type 0} (xs : List A) (i : ℕ) (x y : A) → slice_get xs i ≡ Some x → slice_get xs i ≡ Some y → x ≡ y
same_item xs i x y h k = let e : x ≡ y = cc in e

pub item_here : {A : Type 0} (xs : List A) (i : ℕ) (x : A) → i < length xs → x ≡ get_or xs i x → slice_get xs i ≡ Some x
item_here xs i x h is = slice_get-get_or xs i x h ∙ ap (λ y. Some y) (sym is)

cut : {A : Type 0} (xs : List A) (n : ℕ) → n < length xs → (x : A) × (slice_get xs n ≡ Some x) × (drop n xs ≡ x ∷ drop (suc n) xs)
cut [] n h = absurd (omega (arith, h))
cut (x ∷ xs) zero h = (x, refl, refl)
cut (x ∷ xs) (suc n) h = cut xs n (omega (arith, h))

-- ---- one change more

before_or_here : {A : Type 0} (xs : List A) (x e : A) (P : A → Type 0) (i n : ℕ) → slice_get xs n ≡ Some x → slice_get xs i ≡ Some e → i < n + 1 → (i < n → P e) → P x → P e
before_or_here xs x e P i n here get h before at = by (nat_lt i n) refl where
  by : (b : Bool) → nat_lt i n ≡ b → P e
  by true l = before (grind (arith, common_steps))
  by false l = let s : i ≡ n = grind (arith, common_steps) in subst P (same_item xs n x e here (subst (λ k. slice_get xs k ≡ Some e) s get)) at

module _ (events : List StorageEvent) (n : ℕ) (x : StorageEvent) (here : slice_get events n ≡ Some x) where
  last_next : (d : ℕ) (last : LastReleases) → AreLastReleases d n last events → AreLastReleases d (n + 1) (later_releases (releases d x.change) (n + 1) last) events
  last_next d last is = by (releases d x.change) refl where
    by : (b : Bool) → releases d x.change ≡ b → AreLastReleases d (n + 1) (later_releases b (n + 1) last) events
    by true e = record {
      latest = omega arith;
      previous = let l = is.latest in omega (arith, l);
      after_latest = λ i y get from to. absurd (omega (arith, from, to));
      after_previous = λ i y get from to. is.after_latest i y get from (omega (arith, to));
      after_earlier = λ i y get from to. is.after_previous i y get from to;
    }
    by false e = record {
      latest = let l = is.latest in omega (arith, l);
      previous = let l = is.previous in omega (arith, l);
      after_latest = λ i y get from to. before_or_here events x y (λ v. releases d v.change ≡ false) i n here get to (λ l. is.after_latest i y get from l) e;
      after_previous = is.after_previous;
      after_earlier = is.after_earlier;
    }

  module _ (old new : ReleaseIndex) (at : old.count ≡ n) (is : IsReleaseIndex old events) (less : n < length events) (counted : new.count ≡ old.count + 1) (kept : (code : ℕ) → has_code old.owners code ≡ true → has_code new.owners code ≡ true) where
    one_more : new.count ≡ n + 1
    one_more = omega arith

    more_codes : ((owner : Name) (k : ℕ) → concerns owner k x ≡ true → (has_code new.owners (first_code owner k + n) ≡ true) ⊎ (has_code new.owners (first_code owner 255 + n) ≡ true)) → HaveCodes new.owners new.count events
    more_codes added i e owner k get to con = by (nat_lt i n) refl where
      keep : (has_code old.owners (first_code owner k + i) ≡ true) ⊎ (has_code old.owners (first_code owner 255 + i) ≡ true) → (has_code new.owners (first_code owner k + i) ≡ true) ⊎ (has_code new.owners (first_code owner 255 + i) ≡ true)
      keep (inl h) = inl (kept _ h)
      keep (inr h) = inr (kept _ h)

      by : (b : Bool) → nat_lt i n ≡ b → (has_code new.owners (first_code owner k + i) ≡ true) ⊎ (has_code new.owners (first_code owner 255 + i) ≡ true)
      by true l = keep (is.codes i e owner k get (let l : i < n = grind (arith, common_steps) in omega (arith, at, l)) con)
      by false l =
          let s : n ≡ i = (let m : n ≤ i = grind (arith, common_steps) in omega (arith, m, to, one_more)) in
          let same : x ≡ e = same_item events n x e here (subst (λ j. slice_get events j ≡ Some e) (sym s) get) in
          subst (λ j. (has_code new.owners (first_code owner k + j) ≡ true) ⊎ (has_code new.owners (first_code owner 255 + j) ≡ true)) s (added owner k (ap (λ v. concerns owner k v) same ∙ con))

    -- a change is added
    pub change_added : ((owner : Name) (k : ℕ) → concerns owner k x ≡ true → (has_code new.owners (first_code owner k + n) ≡ true) ⊎ (has_code new.owners (first_code owner 255 + n) ≡ true)) → ((d : ℕ) → releases_at new d ≡ later_releases (releases d x.change) (old.count + 1) (releases_at old d)) → IsReleaseIndex new events
    change_added added last = record {
      count = omega (arith, one_more, less);
      releases = λ d. subst (λ k. AreLastReleases d k (releases_at new d) events) (sym one_more) (subst (λ l. AreLastReleases d (n + 1) l events) (sym (last d ∙ ap (λ k. later_releases (releases d x.change) (k + 1) (releases_at old d)) at)) (last_next d (releases_at old d) (subst (λ k. AreLastReleases d k (releases_at old d) events) at (is.releases d))));
      codes = more_codes added;
    }

-- nothing is added
pub index_kept : (old new : ReleaseIndex) (events : List StorageEvent) → IsReleaseIndex old events → new.count ≡ old.count → ((code : ℕ) → has_code old.owners code ≡ true → has_code new.owners code ≡ true) → ((d : ℕ) → releases_at new d ≡ releases_at old d) → IsReleaseIndex new events
index_kept old new events is counted kept last = record {
  count = subst (λ k. k ≤ length events) (sym counted) is.count;
  releases = λ d. subst (λ k. AreLastReleases d k (releases_at new d) events) (sym counted) (subst (λ l. AreLastReleases d old.count l events) (sym (last d)) (is.releases d));
  codes = λ i e owner n get to con. keep owner n i (is.codes i e owner n get (subst (λ k. i < k) counted to) con);
} where
  keep : (owner : Name) (n i : ℕ) → (has_code old.owners (first_code owner n + i) ≡ true) ⊎ (has_code old.owners (first_code owner 255 + i) ≡ true) → (has_code new.owners (first_code owner n + i) ≡ true) ⊎ (has_code new.owners (first_code owner 255 + i) ≡ true)
  keep owner n i (inl h) = inl (kept _ h)
  keep owner n i (inr h) = inr (kept _ h)

-- the release of a place concerns no subpool
pub release_concerns : (x : StorageEvent) (p : PlaceValue) (owner : Name) (n : ℕ) (P : Type 0) → x.change ≡ change.Released p → concerns owner n x ≡ true → P
release_concerns x p owner n P is h = absurd (let e : false ≡ true = sym (ap (concerns_by owner n x.task) is) ∙ h in cc)

-- another change releases no place
pub none_released : (d : ℕ) (c : StorageChange) → ((number : ℕ) × (t : Name) × (c ≡ change.Emptied number t)) ⊎ (((t : Name) × (c ≡ change.Ended t)) ⊎ ((t : Name) × (gifts : Gifts) × (areas : ℕ) × (c ≡ change.Attached t gifts areas))) → releases d c ≡ false
none_released d c (inl (number, t, e)) = ap (releases d) e
none_released d c (inr (inl (t, e))) = ap (releases d) e
none_released d c (inr (inr (t, gifts, areas, e))) = ap (releases d) e

-- more changes are made
module _ (events more : List StorageEvent) where
  none_more : (d from to : ℕ) → to ≤ length events → NoneReleases d events from to → NoneReleases d (events ++ more) from to
  none_more d from to within h = λ i e get f t. h i e (get_more events more e i get (omega (arith, t, within))) f t

  pub events_more : (index : ReleaseIndex) → IsReleaseIndex index events → IsReleaseIndex index (events ++ more)
  events_more index is = record {
    count = let both = length-append events more in let l = is.count in omega (arith, both, l);
    releases = λ d. let last = is.releases d in let l = is.count in let a = last.latest in let b = last.previous in record {
      latest = last.latest;
      previous = last.previous;
      after_latest = none_more d _ _ l last.after_latest;
      after_previous = none_more d _ _ (omega (arith, a, l)) last.after_previous;
      after_earlier = none_more d _ _ (omega (arith, b, l)) last.after_earlier;
    };
    codes = λ i e owner n get to con. let l = is.count in is.codes i e owner n (get_more events more e i get (omega (arith, to, l))) to con;
  }

-- the lines ascend
pub ascends_more : (events : List StorageEvent) (x : StorageEvent) → IsAscending events → ((i : ℕ) (e : StorageEvent) → slice_get events i ≡ Some e → length events ≤ i + 1 → e.line ≤ x.line) → IsAscending (events ++ x ∷ [])
ascends_more events x ascends ends i j y z get_y get_z order = by (get_snoc events x y i get_y) (get_snoc events x z j get_z) where
  to_last : (i : ℕ) (y : StorageEvent) → slice_get events i ≡ Some y → y.line ≤ x.line
  to_last i y get =
      let within = slice_get_within events i y get in
      let least : length events - 1 < length events = omega (arith, within) in
      let last = cut events (length events - 1) least in
      let a = ascends i (length events - 1) y last.0 get last.1 (omega (arith, within)) in
      let b = ends (length events - 1) last.0 last.1 (omega (arith, within)) in
      omega (arith, a, b)

  by : (slice_get events i ≡ Some y) ⊎ ((i ≡ length events) × (y ≡ x)) → (slice_get events j ≡ Some z) ⊎ ((j ≡ length events) × (z ≡ x)) → y.line ≤ z.line
  by (inl a) (inl b) = ascends i j y z a b order
  by (inl a) (inr b) = subst (λ (v : StorageEvent). y.line ≤ v.line) (sym b.1) (to_last i y a)
  by (inr a) (inl b) = absurd (let l = slice_get_within events j z b in let k = a.0 in omega (arith, l, k, order))
  by (inr a) (inr b) = subst (λ (v : StorageEvent). y.line ≤ v.line) (sym b.1) (subst (λ (v : StorageEvent). v.line ≤ x.line) (sym a.1) (omega arith))

-- ---- where a search begins and ends

-- ---- what frees a doubleword

module _ (d : ℕ) (g : AreaGrant) (owner : Name) (events : List StorageEvent) where
  -- a change that does nothing to the doubleword, nor to its subpool
  abbrev IsIdle : StorageEvent → Type 0
  IsIdle e = (frees_area d g owner e ≡ false) × (owner_since g owner e ≡ owner)

  skip_by : (m from : ℕ) → from + m ≤ length events → ((i : ℕ) (e : StorageEvent) → slice_get events i ≡ Some e → from ≤ i → i < from + m → IsIdle e) → fate d g owner (drop from events) ≡ fate d g owner (drop (from + m) events)
  skip_by zero from within idle = ap (λ k. fate d g owner (drop k events)) (let e : from ≡ from + 0 = omega arith in e)
  skip_by (suc m) from within idle =
      let here = cut events from (omega (arith, within)) in
      let x = here.0 in
      let still = idle from x here.1 (omega arith) (omega arith) in
      ap (fate d g owner) here.2
      ∙ ap (λ b. if b then Some x else fate d g (owner_since g owner x) (drop (suc from) events)) still.0
      ∙ ap (λ o. fate d g o (drop (suc from) events)) still.1
      ∙ skip_by m (suc from) (omega (arith, within)) (λ i e get f t. idle i e get (omega (arith, f)) (omega (arith, t)))
      ∙ ap (λ k. fate d g owner (drop k events)) (let e : suc from + m ≡ from + suc m = omega arith in e)

  skip_to : (from to : ℕ) → from ≤ to → to ≤ length events → ((i : ℕ) (e : StorageEvent) → slice_get events i ≡ Some e → from ≤ i → i < to → IsIdle e) → fate d g owner (drop from events) ≡ fate d g owner (drop to events)
  skip_to from to order within idle =
      let e : from + (to - from) ≡ to = omega (arith, order) in
      skip_by (to - from) from (omega (arith, order, within)) (λ i y get f t. idle i y get f (omega (arith, t, order)))
      ∙ ap (λ k. fate d g owner (drop k events)) e

  not_freed : (t : Name) (c : StorageChange) → releases d c ≡ false → concerns_by owner g.subpool t c ≡ false → frees_by d g.subpool owner c ≡ false
  not_freed t (change.Released p) none idle = none
  not_freed t (change.Emptied emptied task) none idle = idle
  not_freed t (change.Ended task) none idle = idle
  not_freed t (change.Attached name gifts areas) none idle = refl

  same_owner : (t : Name) (c : StorageChange) → concerns_by owner g.subpool t c ≡ false → owner_by t g.subpool owner c ≡ owner
  same_owner t (change.Released p) idle = refl
  same_owner t (change.Emptied emptied task) idle = refl
  same_owner t (change.Ended task) idle = refl
  same_owner t (change.Attached name gifts areas) idle = ap (λ b. if b then name else owner) idle

  and_false : (a b : Bool) → b ≡ false → (a && b) ≡ false
  and_false true b h = h
  and_false false b h = refl

  either : (b : Bool) (o : Name) → o ≡ owner → (if b then o else owner) ≡ owner
  either true o h = h
  either false o h = refl

  idle_other : (e : StorageEvent) → concerns owner g.subpool e ≡ false → releases d e.change ≡ false → IsIdle e
  idle_other e idle none = (and_false (nat_lt g.line e.line) _ (not_freed e.task e.change none idle), either (nat_lt g.line e.line) _ (same_owner e.task e.change idle))

  idle_early : (e : StorageEvent) → e.line ≤ g.line → IsIdle e
  idle_early e early = (ap (λ b. b && frees_by d g.subpool owner e.change) not_later, ap (λ b. if b then owner_by e.task g.subpool owner e.change else owner) not_later) where
    not_later : nat_lt g.line e.line ≡ false
    not_later = grind (arith, common_steps)

  -- the changes of earlier lines are left out
  pub skip_early : (first : ℕ) → first ≤ length events → AreEarlier g.line events first → fate d g owner (drop first events) ≡ fate d g owner events
  skip_early first within early = sym (skip_to 0 first (omega arith) within (λ i e get f t. idle_early e (early i e get t)))

  -- and those that release other places and concern other subpools
  skip_idle : (from to : ℕ) → from ≤ to → to ≤ length events → NoneConcerns owner g.subpool events from to → NoneReleases d events from to → fate d g owner (drop from events) ≡ fate d g owner (drop to events)
  skip_idle from to order within idle quiet = skip_to from to order within (λ i e get f t. idle_other e (idle i e get f t) (quiet i e get f t))

  module _ (from end : ℕ) (is : IsAmong d g owner events from end) where
    module _ (n : ℕ) (x : StorageEvent) (order : from ≤ n) (before : n < end) (here : slice_get events n ≡ Some x) (idle : NoneConcerns owner g.subpool events from n) where
      at_number : (if frees_area d g owner x then Some x else fate d g (owner_since g owner x) (drop (suc n) events)) ≡ fate d g g.owner events
      at_number =
          let within = slice_get_within events n x here in
          let now = cut events n within in
          let same : now.0 ≡ x = same_item events n now.0 x now.1 here in
          sym (ap (fate d g owner) (now.2 ∙ ap (λ v. v ∷ drop (suc n) events) same))
          ∙ sym (skip_idle from n order (omega (arith, within)) idle (λ i e get f t. is.quiet i e get f (omega (arith, t, before))))
          ∙ is.same

      -- the next change that concerns the subpool frees it
      pub number_frees : frees_area d g owner x ≡ true → Some x ≡ fate d g g.owner events
      number_frees frees = sym (ap (λ b. if b then Some x else fate d g (owner_since g owner x) (drop (suc n) events)) frees) ∙ at_number

      -- or does not
      pub number_passes : frees_area d g owner x ≡ false → IsAmong d g (owner_since g owner x) events (n + 1) end
      number_passes frees = record {
        order = omega (arith, before);
        quiet = λ i e get f t. is.quiet i e get (omega (arith, f, order)) t;
        same =
            ap (λ k. fate d g (owner_since g owner x) (drop k events)) (let e : n + 1 ≡ suc n = omega arith in e)
            ∙ sym (ap (λ b. if b then Some x else fate d g (owner_since g owner x) (drop (suc n) events)) frees)
            ∙ at_number;
      }

    -- none before the end concerns it
    pub none_before : end ≤ length events → NoneConcerns owner g.subpool events from end → fate d g owner (drop end events) ≡ fate d g g.owner events
    none_before within idle = sym (skip_idle from end is.order within idle is.quiet) ∙ is.same

-- ---- the doublewords of a place

-- one doubleword more of a place that is released
pub releases_next : (first n d number : ℕ) (start before after : LastReleases) → before ≡ later_releases (is_next first n d) number start → ((d == first + n) ≡ true → after ≡ later_releases true number start) → ((d == first + n) ≡ false → after ≡ before)
    → after ≡ later_releases (is_next first (n + 1) d) number start
releases_next first n d number start before after is here other = at (d == first + n) refl where
  at : (b : Bool) → (d == first + n) ≡ b → after ≡ later_releases (is_next first (n + 1) d) number start
  at true e = here e ∙ ap (λ b. later_releases b number start) (sym (next_here first n d e))
  at false e = other e ∙ is ∙ ap (λ b. later_releases b number start) (sym (next_other first n d e))

-- what holds in both cases of a result
pub of_result : {P : Type 0} (b : Bool) → (b ≡ true → P) → (b ≡ false → P) → P
of_result true done failed = done refl
of_result false done failed = failed refl
