-- Which areas are the last ones that have a doubleword, and what is left of them.
use Rattle.std.proofs.Common.{◌≡◌, ℕ, ◌+◌, ◌-◌, ◌*◌, ◌/◌, ◌<◌, ◌≤◌, ◌&&◌, ◌||◌, ◌==◌, Bool, true, false, not, List, [], ◌∷◌, ◌++◌, append-nil, length, length-append, take, drop, get_or, Some, inl, inr, refl, sym, ap, subst, ◌∙◌, arith, suc, zero}
use Rattle.std.specs.Prelude.{◌⊎◌, nat_lt, slice_get, slice_index_or, if◌then◌else◌}
use Rattle.std.proofs.lemmas.Grind.{common_steps}
use Rattle.std.proofs.lemmas.Option.{slice_get-get_or, slice_get_within}
use Rattle.std.proofs.Math.Seq.{drop-length, take-length, take-suc}
use Rattle.mvs_model.specs.Finite.{count_below}
use Rattle.mvs_model.specs.Place.{PlaceValue}
use Rattle.mvs_model.proofs.Below.{count_all, count_none, count_same}
use Rattle.mvs_model.proofs.Tests.{false_true, none_some}
use Rattle.area_history.specs.declared.grant.AreaGrant.{AreaGrant}
use Rattle.area_history.specs.declared.last_areas.LastAreas.{LastAreas}
use Rattle.area_history.specs.declared.last_areas.LastNumbers.{LastNumbers}
use Rattle.area_history.specs.declared.largest.Leaks.{Leaks}
use Rattle.area_history.specs.LastAreas.{AreHidden, AreVisible, IsHidden, IsIndexOf, IsTallied, IsWhole, is_last, is_whole, later_numbers, no_numbers, numbers_after, numbers_at}
use Rattle.area_history.specs.Leaking.{bytes_left, has_doubleword, is_covered, is_left, leak_of, leaks, ranked, total}
use Rattle.area_history.specs.Totals.{by_subpool, by_task}
use Rattle.area_history.proofs.Marking.{inside, is_next, next_other, none_next, same_of}
use Rattle.area_history.proofs.Releasing.{get_more, same_item}

-- ---- nothing is left of an area of which later ones have each doubleword

no_left : (a b c : Bool) → (b ≡ true → c ≡ true) → b ≡ true → (a && not c) ≡ false
no_left a b true h e = grind (arith, common_steps)
no_left a b false h e = false_true (h e)

no_bytes : (plain : ℕ → Bool) (later : List AreaGrant) (g : AreaGrant) → ((d : ℕ) → has_doubleword g.place d ≡ true → is_covered later d ≡ true) → bytes_left plain later g ≡ 0
no_bytes plain later g hidden =
    ap (λ n. 8 * n) (count_none (g.place.len / 8) (λ k. is_left plain later (g.place.addr / 8 + k)) (λ k h. no_left (plain (g.place.addr / 8 + k)) (has_doubleword g.place (g.place.addr / 8 + k)) (is_covered later (g.place.addr / 8 + k)) (hidden (g.place.addr / 8 + k)) (inside g.place k h)))

no_leak : (g : AreaGrant) (b : Bool) (n : ℕ) → n ≡ 0 → leak_of g (if b then n else 0) ≡ []
no_leak g true n e = ap (λ k. leak_of g k) e
no_leak g false n e = refl

no_leaks : (g : AreaGrant) (later : List AreaGrant) (selected : AreaGrant → Bool) (plain : ℕ → Bool) → ((d : ℕ) → has_doubleword g.place d ≡ true → is_covered later d ≡ true) → leaks selected plain later ≡ leaks selected plain (g ∷ later)
no_leaks g later selected plain hidden = sym (ap (λ ls. ls ++ leaks selected plain later) (no_leak g (selected g) (bytes_left plain later g) (no_bytes plain later g hidden)))

-- ---- the last area that has a doubleword

same_number : (n : ℕ) → (n == n) ≡ true
same_number n = grind (arith, common_steps)

more_number : (n m : ℕ) → m < n → (n == m) ≡ false
more_number n m h = grind (arith, common_steps)

latest_least : (d least n : ℕ) (two : LastNumbers) (grants : List AreaGrant) → least ≤ two.latest → least ≤ n → least ≤ (numbers_after d n two grants).latest
latest_least d least n two [] at next = at
latest_least d least n two (x ∷ grants) at next = latest_least d least (n + 1) (later_numbers d n two x.place) grants (by (has_doubleword x.place d)) (omega (arith, next)) where
  by : (b : Bool) → least ≤ (if b then record { latest = n; previous = two.latest } else two).latest
  by true = next
  by false = at

latest_after : (d n m : ℕ) (two : LastNumbers) (grants : List AreaGrant) → two.latest ≡ m → m < n → ((numbers_after d n two grants).latest == m) ≡ not (is_covered grants d)
latest_after d n m two [] at less = ap (λ k. k == m) at ∙ same_number m
latest_after d n m two (x ∷ grants) at less = by (has_doubleword x.place d) (latest_after d (n + 1) m two grants at (omega (arith, less))) where
  by : (b : Bool) → ((numbers_after d (n + 1) two grants).latest == m) ≡ not (is_covered grants d) → ((numbers_after d (n + 1) (if b then record { latest = n; previous = two.latest } else two) grants).latest == m) ≡ not (b || is_covered grants d)
  by true rest =
      let least = latest_least d n (n + 1) (record { latest = n; previous = two.latest }) grants (omega arith) (omega arith) in
      more_number (numbers_after d (n + 1) (record { latest = n; previous = two.latest }) grants).latest m (omega (arith, least, less))
  by false rest = rest

latest_at : (d start n : ℕ) (two : LastNumbers) (grants : List AreaGrant) (g : AreaGrant) → slice_get grants n ≡ Some g → has_doubleword g.place d ≡ true → ((numbers_after d start two grants).latest == start + n) ≡ not (is_covered (drop (suc n) grants) d)
latest_at d start n two [] g get has = none_some get
latest_at d start zero two (x ∷ grants) g get has = by (has_doubleword x.place d) is_so where
  is_so : has_doubleword x.place d ≡ true
  is_so = let e : x ≡ g = cc in ap (λ (v : AreaGrant). has_doubleword v.place d) e ∙ has

  by : (b : Bool) → b ≡ true → ((numbers_after d (start + 1) (if b then record { latest = start; previous = two.latest } else two) grants).latest == start + 0) ≡ not (is_covered grants d)
  by true h = ap (λ k. (numbers_after d (start + 1) (record { latest = start; previous = two.latest }) grants).latest == k) (let e : start + 0 ≡ start = omega arith in e) ∙ latest_after d (start + 1) start (record { latest = start; previous = two.latest }) grants refl (omega arith)
  by false h = absurd (let e : false ≡ true = h in cc)
latest_at d start (suc n) two (x ∷ grants) g get has =
    ap (λ k. (numbers_after d (start + 1) (later_numbers d start two x.place) grants).latest == k) (let e : start + suc n ≡ (start + 1) + n = omega arith in e)
    ∙ latest_at d (start + 1) n (later_numbers d start two x.place) grants g get has

-- it is the last one that has it if no later one has it
pub last_is_left : (last : LastAreas) (grants : List AreaGrant) (n d : ℕ) (g : AreaGrant) → IsIndexOf last grants → last.count ≡ length grants → slice_get grants n ≡ Some g → has_doubleword g.place d ≡ true → is_last last n d ≡ not (is_covered (drop (suc n) grants) d)
last_is_left last grants n d g is all get has =
    ap (λ (two : LastNumbers). two.latest == n + 1) (is.numbers d ∙ ap (λ l. numbers_after d 1 no_numbers l) (ap (λ k. take k grants) all ∙ take-length grants))
    ∙ ap (λ k. (numbers_after d 1 no_numbers grants).latest == k) (let e : n + 1 ≡ 1 + n = omega arith in e)
    ∙ latest_at d 1 n no_numbers grants g get has

-- ---- one area more

flag_before : (flags more : List Bool) (n : ℕ) → n < length flags → slice_index_or (flags ++ more) n false ≡ slice_index_or flags n false
flag_before [] more n h = absurd (omega (arith, h))
flag_before (x ∷ flags) more zero h = refl
flag_before (x ∷ flags) more (suc n) h = flag_before flags more n (omega (arith, h))

flag_within : (flags : List Bool) (n : ℕ) → slice_index_or flags n false ≡ true → n < length flags
flag_within [] n h = absurd (let e : false ≡ true = none n ∙ h in cc) where
  none : (n : ℕ) → false ≡ slice_index_or [] n false
  none zero = refl
  none (suc n) = refl
flag_within (x ∷ flags) zero h = omega arith
flag_within (x ∷ flags) (suc n) h = let l = flag_within flags n h in omega (arith, l)

module _ (old new : LastAreas) (grants : List AreaGrant) (count : ℕ) (hidden : (n d : ℕ) → n < count → is_last old n d ≡ false → is_last new n d ≡ false) where
  hidden_stay : (from to : ℕ) → to ≤ count → AreHidden old grants from to → AreHidden new grants from to
  hidden_stay from to most h = λ n g get f t d has. hidden n d (omega (arith, t, most)) (h n g get f t d has)

  visible_stay : (from : ℕ) (numbers : List ℕ) (to : ℕ) → to ≤ count → AreVisible old grants from numbers to → AreVisible new grants from numbers to
  visible_stay from [] to most h = hidden_stay from to most h
  visible_stay from (n ∷ numbers) to most h = (h.0, h.1, hidden_stay from n (let l = h.1 in omega (arith, l, most)) h.2, visible_stay (n + 1) numbers to most h.3)

visible_more : (last : LastAreas) (grants : List AreaGrant) (from : ℕ) (numbers : List ℕ) (to : ℕ) → from ≤ to → AreVisible last grants from numbers to → AreVisible last grants from (numbers ++ to ∷ []) (to + 1)
visible_more last grants from [] to order h = (order, omega arith, h, λ n g get f t. absurd (omega (arith, f, t)))
visible_more last grants from (n ∷ numbers) to order h = (h.0, (let l = h.1 in omega (arith, l)), h.2, visible_more last grants (n + 1) numbers to (let l = h.1 in omega (arith, l)) h.3)

pub index_next : (old mid new : LastAreas) (grants : List AreaGrant) (g : AreaGrant) → IsIndexOf old grants → slice_get grants old.count ≡ Some g
    → ((d : ℕ) → numbers_at mid d ≡ numbers_at old d) → mid.whole.items ≡ old.whole.items ++ true ∷ [] → mid.visible.items ≡ old.visible.items ++ old.count ∷ []
    → new.count ≡ old.count + 1 → length new.whole.items ≡ length mid.whole.items → new.visible.items ≡ mid.visible.items → ((d : ℕ) → numbers_at new d ≡ later_numbers d (old.count + 1) (numbers_at mid d) g.place)
    → ((n : ℕ) → is_whole new n ≡ true → (is_whole mid n ≡ true) × ((d : ℕ) → has_doubleword g.place d ≡ true → is_last mid n d ≡ false))
    → ((d : ℕ) → numbers_at new d ≡ numbers_after d 1 no_numbers (take new.count grants)) → IsIndexOf new grants
index_next old mid new grants g is get same flags_mid visible_mid counted len visible numbers whole all = record {
  count = omega (arith, counted, within);
  flags = len ∙ ap length flags_mid ∙ (let both = length-append old.whole.items (true ∷ []) in let f = is.flags in let e : length (old.whole.items ++ true ∷ []) ≡ new.count = omega (arith, both, f, counted) in e);
  whole = λ n x at flag d has. by_whole n x at flag d has;
  visible = subst (λ l. AreVisible new grants 0 l new.count) (sym (visible ∙ visible_mid)) (subst (λ k. AreVisible new grants 0 (old.visible.items ++ old.count ∷ []) k) (sym counted) (visible_more new grants 0 old.visible.items old.count (omega arith) (visible_stay old new grants old.count still_hidden 0 old.visible.items old.count (omega arith) is.visible)));
  numbers = all;
} where
  within : old.count < length grants
  within = slice_get_within grants old.count g get

  -- it is the last one in the new index
  last_new : (n d : ℕ) (b : Bool) → has_doubleword g.place d ≡ b → is_last new n d ≡ (if b then old.count + 1 == n + 1 else is_last old n d)
  last_new n d b h = ap (λ (two : LastNumbers). two.latest == n + 1) (numbers d ∙ ap (λ two. later_numbers d (old.count + 1) two g.place) (same d)) ∙ ap (λ b. (if b then record { latest = old.count + 1; previous = (numbers_at old d).latest } else numbers_at old d).latest == n + 1) h ∙ either b where
    either : (b : Bool) → ((if b then record { latest = old.count + 1; previous = (numbers_at old d).latest } else numbers_at old d).latest == n + 1) ≡ (if b then old.count + 1 == n + 1 else is_last old n d)
    either true = refl
    either false = refl

  still_hidden : (n d : ℕ) → n < old.count → is_last old n d ≡ false → is_last new n d ≡ false
  still_hidden n d less h = by (has_doubleword g.place d) refl where
    by : (b : Bool) → has_doubleword g.place d ≡ b → is_last new n d ≡ false
    by true e = last_new n d true e ∙ more_number (old.count + 1) (n + 1) (omega (arith, less))
    by false e = last_new n d false e ∙ h

  before : (n d : ℕ) (x : AreaGrant) → n < old.count → slice_get grants n ≡ Some x → is_whole new n ≡ true → has_doubleword x.place d ≡ true → is_last new n d ≡ true
  before n d x less at flag has = by (has_doubleword g.place d) refl where
    flag_mid : (is_whole mid n ≡ true) × ((d : ℕ) → has_doubleword g.place d ≡ true → is_last mid n d ≡ false)
    flag_mid = whole n flag

    was : is_last old n d ≡ true
    was = is.whole n x at (sym (flag_before old.whole.items (true ∷ []) n (let f = is.flags in omega (arith, f, less))) ∙ sym (ap (λ l. slice_index_or l n false) flags_mid) ∙ flag_mid.0) d has

    by : (b : Bool) → has_doubleword g.place d ≡ b → is_last new n d ≡ true
    by true e = absurd (let f : false ≡ true = sym (flag_mid.1 d e) ∙ ap (λ (two : LastNumbers). two.latest == n + 1) (same d) ∙ was in cc)
    by false e = last_new n d false e ∙ was

  by_whole : (n : ℕ) (x : AreaGrant) → slice_get grants n ≡ Some x → is_whole new n ≡ true → (d : ℕ) → has_doubleword x.place d ≡ true → is_last new n d ≡ true
  by_whole n x at flag d has = by (nat_lt n old.count) refl where
    most : n < old.count + 1
    most = let l = flag_within new.whole.items n flag in let both = length-append old.whole.items (true ∷ []) in let f = is.flags in let m = ap length flags_mid in omega (arith, l, len, m, both, f)

    by : (b : Bool) → nat_lt n old.count ≡ b → is_last new n d ≡ true
    by true e = before n d x (grind (arith, common_steps)) at flag has
    by false e =
        let here : n ≡ old.count = grind (arith, common_steps) in
        let g_here : x ≡ g = same_item grants old.count x g (subst (λ k. slice_get grants k ≡ Some x) here at) get in
        last_new n d true (sym (ap (λ (v : AreaGrant). has_doubleword v.place d) g_here) ∙ has) ∙ ap (λ k. old.count + 1 == k + 1) here ∙ same_number (old.count + 1)

-- nothing is added
pub index_same : (old new : LastAreas) (grants : List AreaGrant) → IsIndexOf old grants → new.count ≡ old.count → new.whole.items ≡ old.whole.items → new.visible.items ≡ old.visible.items → ((d : ℕ) → numbers_at new d ≡ numbers_at old d) → IsIndexOf new grants
index_same old new grants is counted flags visible numbers = record {
  count = subst (λ k. k ≤ length grants) (sym counted) is.count;
  flags = ap length flags ∙ is.flags ∙ sym counted;
  whole = λ n g get flag d has. same_last n d ∙ is.whole n g get (sym (ap (λ l. slice_index_or l n false) flags) ∙ flag) d has;
  visible = subst (λ l. AreVisible new grants 0 l new.count) (sym visible) (subst (λ k. AreVisible new grants 0 old.visible.items k) (sym counted) (visible_stay old new grants old.count (λ n d less h. same_last n d ∙ h) 0 old.visible.items old.count (omega arith) is.visible));
  numbers = λ d. numbers d ∙ is.numbers d ∙ ap (λ k. numbers_after d 1 no_numbers (take k grants)) (sym counted);
} where
  same_last : (n d : ℕ) → is_last new n d ≡ is_last old n d
  same_last n d = ap (λ (two : LastNumbers). two.latest == n + 1) (numbers d)

-- more areas are granted
hidden_more : (last : LastAreas) (grants more : List AreaGrant) (from to : ℕ) → to ≤ length grants → AreHidden last grants from to → AreHidden last (grants ++ more) from to
hidden_more last grants more from to within h = λ n g get f t. h n g (get_more grants more g n get (omega (arith, t, within))) f t

pub visible_longer : (last : LastAreas) (grants more : List AreaGrant) (from : ℕ) (numbers : List ℕ) (to : ℕ) → to ≤ length grants → AreVisible last grants from numbers to → AreVisible last (grants ++ more) from numbers to
visible_longer last grants more from [] to within h = hidden_more last grants more from to within h
visible_longer last grants more from (n ∷ numbers) to within h = (h.0, h.1, hidden_more last grants more from n (let l = h.1 in omega (arith, l, within)) h.2, visible_longer last grants more (n + 1) numbers to within h.3)

pub whole_longer : (last : LastAreas) (grants more : List AreaGrant) → IsIndexOf last grants → (n : ℕ) (g : AreaGrant) → slice_get (grants ++ more) n ≡ Some g → is_whole last n ≡ true → IsWhole last n g.place
whole_longer last grants more is n g get flag = is.whole n g (get_more grants more g n get (let l = flag_within last.whole.items n flag in let f = is.flags in let c = is.count in omega (arith, l, f, c))) flag

-- ---- the areas with the numbers

hidden_both : (last : LastAreas) (grants : List AreaGrant) (from n to : ℕ) (g : AreaGrant) → slice_get grants n ≡ Some g → AreHidden last grants from n → IsHidden last n g.place → AreHidden last grants (n + 1) to → AreHidden last grants from to
hidden_both last grants from n to g here before at after k x get f t = by (nat_lt k n) (nat_lt n k) refl refl where
  by : (b c : Bool) → nat_lt k n ≡ b → nat_lt n k ≡ c → IsHidden last k x.place
  by true c e h = before k x get f (grind (arith, common_steps))
  by false true e h = after k x get (let l : n < k = grind (arith, common_steps) in omega (arith, l)) t
  by false false e h =
      let same : k ≡ n = grind (arith, common_steps) in
      subst (λ (v : AreaGrant). IsHidden last k v.place) (same_item grants n g x here (subst (λ i. slice_get grants i ≡ Some x) same get)) (subst (λ i. IsHidden last i g.place) (sym same) at)

-- one of them is hidden
pub one_hidden : (last : LastAreas) (grants : List AreaGrant) (from : ℕ) (numbers : List ℕ) (n : ℕ) (more : List ℕ) (to : ℕ) (g : AreaGrant) → slice_get grants n ≡ Some g → IsHidden last n g.place → AreVisible last grants from (numbers ++ n ∷ more) to → AreVisible last grants from (numbers ++ more) to
one_hidden last grants from [] n [] to g here at h = hidden_both last grants from n to g here h.2 at h.3
one_hidden last grants from [] n (m ∷ more) to g here at h = ((let a = h.0 in let b = h.3.0 in omega (arith, a, b)), h.3.1, hidden_both last grants from n m g here h.2 at h.3.2, h.3.3)
one_hidden last grants from (k ∷ numbers) n more to g here at h = (h.0, h.1, h.2, one_hidden last grants (k + 1) numbers n more to g here at h.3)

-- the last of them
pub last_visible : (last : LastAreas) (grants : List AreaGrant) (from : ℕ) (numbers : List ℕ) (n to : ℕ) → AreVisible last grants from (numbers ++ n ∷ []) to → (from ≤ n) × (n < to) × AreVisible last grants from numbers n × AreHidden last grants (n + 1) to
last_visible last grants from [] n to h = (h.0, h.1, h.2, h.3)
last_visible last grants from (k ∷ numbers) n to h =
    let r = last_visible last grants (k + 1) numbers n to h.3 in
    ((let a = h.0 in let b = r.0 in omega (arith, a, b)), r.1, (h.0, (let b = r.0 in omega (arith, b)), h.2, r.2), r.3)

-- each of them is one of the areas
pub visible_within : (last : LastAreas) (grants : List AreaGrant) (from : ℕ) (numbers : List ℕ) (to i n : ℕ) → AreVisible last grants from numbers to → slice_get numbers i ≡ Some n → n < to
visible_within last grants from [] to i n h get = none_some get
visible_within last grants from (k ∷ numbers) to zero n h get = let e : k ≡ n = cc in let l = h.1 in omega (arith, e, l)
visible_within last grants from (k ∷ numbers) to (suc i) n h get = visible_within last grants (k + 1) numbers to i n h.3 get

-- ---- what is left

not_false : (b : Bool) → false ≡ not b → b ≡ true
not_false true h = refl
not_false false h = absurd (let e : false ≡ true = h in cc)

module _ (last : LastAreas) (grants : List AreaGrant) (is : IsIndexOf last grants) (all : last.count ≡ length grants) (selected : AreaGrant → Bool) (plain : ℕ → Bool) where
  item : (n : ℕ) (xs : List AreaGrant) → n < length xs → (g : AreaGrant) × (slice_get xs n ≡ Some g) × (drop n xs ≡ g ∷ drop (suc n) xs)
  item n [] h = absurd (omega (arith, h))
  item zero (x ∷ xs) h = (x, refl, refl)
  item (suc n) (x ∷ xs) h = item n xs (omega (arith, h))

  -- nothing is left of areas that are hidden
  hidden_by : (m from : ℕ) → from + m ≤ length grants → AreHidden last grants from (from + m) → leaks selected plain (drop from grants) ≡ leaks selected plain (drop (from + m) grants)
  hidden_by zero from within h = ap (λ k. leaks selected plain (drop k grants)) (let e : from ≡ from + 0 = omega arith in e)
  hidden_by (suc m) from within h =
      let here = item from grants (omega (arith, within)) in
      let g = here.0 in
      let later = drop (suc from) grants in
      let covered : (d : ℕ) → has_doubleword g.place d ≡ true → is_covered later d ≡ true = λ d has. not_false (is_covered later d) (sym (h from g here.1 (omega arith) (omega arith) d has) ∙ last_is_left last grants from d g is all here.1 has) in
      ap (leaks selected plain) here.2
      ∙ sym (no_leaks g later selected plain covered)
      ∙ hidden_by m (suc from) (omega (arith, within)) (λ n x get f t. h n x get (omega (arith, f)) (omega (arith, t)))
      ∙ ap (λ k. leaks selected plain (drop k grants)) (let e : suc from + m ≡ from + suc m = omega arith in e)

  pub hidden_leaks : (from to : ℕ) → from ≤ to → to ≤ length grants → AreHidden last grants from to → leaks selected plain (drop from grants) ≡ leaks selected plain (drop to grants)
  hidden_leaks from to order within h =
      let e : from + (to - from) ≡ to = omega (arith, order) in
      hidden_by (to - from) from (omega (arith, order, within)) (λ n x get f t. h n x get f (omega (arith, t, order)))
      ∙ ap (λ k. leaks selected plain (drop k grants)) e

  -- the doublewords that are left of an area
  pub left_by_index : (n : ℕ) (g : AreaGrant) → slice_get grants n ≡ Some g → count_below (g.place.len / 8) (λ k. plain (g.place.addr / 8 + k) && is_last last n (g.place.addr / 8 + k)) ≡ count_below (g.place.len / 8) (λ k. is_left plain (drop (suc n) grants) (g.place.addr / 8 + k))
  left_by_index n g get = count_same (g.place.len / 8) (λ k. plain (g.place.addr / 8 + k) && is_last last n (g.place.addr / 8 + k)) (λ k. is_left plain (drop (suc n) grants) (g.place.addr / 8 + k)) (λ k h. ap (λ b. plain (g.place.addr / 8 + k) && b) (last_is_left last grants n (g.place.addr / 8 + k) g is all get (inside g.place k h)))

-- ---- the doublewords of a place

pub none_has : {P : Type 0} (first d : ℕ) → is_next first 0 d ≡ true → P
none_has first d h = absurd (let e : false ≡ true = sym (none_next first d) ∙ h in cc)

pub and_both : (a b : Bool) → (a && not b) ≡ true → (a ≡ true) × (b ≡ false)
and_both true true h = absurd (let e : false ≡ true = h in cc)
and_both true false h = (refl, refl)
and_both false b h = absurd (let e : false ≡ true = h in cc)

pub swapped : (n m : ℕ) → (n + 1 == m) ≡ false → (m == n + 1) ≡ false
swapped n m h = grind (arith, common_steps)

-- one doubleword more of which an area is not the last one
pub next_last : (first n d : ℕ) (test : ℕ → Bool) → test (first + n) ≡ false → ((d : ℕ) → is_next first n d ≡ true → test d ≡ false) → is_next first (n + 1) d ≡ true → test d ≡ false
next_last first n d test here before h = by (d == first + n) refl where
  by : (b : Bool) → (d == first + n) ≡ b → test d ≡ false
  by true e = ap test (same_of d (first + n) e) ∙ here
  by false e = before d (sym (next_other first n d e) ∙ h)

and_true : (a b : Bool) → a ≡ true → b ≡ true → (a && b) ≡ true
and_true true b h k = k
and_true false b h k = h

-- all doublewords of a place are counted
pub count_whole : (n : ℕ) (f g : ℕ → Bool) → ((k : ℕ) → k < n → f k ≡ true) → ((k : ℕ) → k < n → g k ≡ true) → n ≡ count_below n (λ k. f k && g k)
count_whole n f g h i = sym (count_all n (λ k. f k && g k) (λ k l. and_true (f k) (g k) (h k l) (i k l)))

-- all areas from one on are looked at
module _ (last : LastAreas) (grants : List AreaGrant) (is : IsIndexOf last grants) (all : last.count ≡ length grants) (selected : AreaGrant → Bool) (plain : ℕ → Bool) (numbers : List ℕ) (n first : ℕ) (found : Leaks) where
  pub all_tallied : n ≡ 0 → (t : IsTallied last grants selected plain (take n numbers) found) → first ≤ t.from → leaks selected plain (drop t.from grants) ≡ leaks selected plain (drop first grants)
  all_tallied none t after = sym (hidden_leaks last grants is all selected plain first t.from after t.within (λ k g get f low. hidden k g get (omega arith) low)) where
    hidden : AreHidden last grants 0 t.from
    hidden = subst (λ k. AreVisible last grants 0 (take k numbers) t.from) none t.visible

  pub later_tallied : (t : IsTallied last grants selected plain (take n numbers) found) → 0 < n → n ≤ length numbers → get_or numbers (n - 1) 0 < first → first ≤ t.from → leaks selected plain (drop t.from grants) ≡ leaks selected plain (drop first grants)
  later_tallied t some within before after = sym (hidden_leaks last grants is all selected plain first t.from after t.within (λ k g get f low. seen.3 k g get (omega (arith, before, f)) low)) where
    cut : take n numbers ≡ take (n - 1) numbers ++ get_or numbers (n - 1) 0 ∷ []
    cut = ap (λ k. take k numbers) (let e : n ≡ suc (n - 1) = omega (arith, some) in e) ∙ take-suc numbers (n - 1) 0 (omega (arith, some, within))

    seen : (0 ≤ get_or numbers (n - 1) 0) × (get_or numbers (n - 1) 0 < t.from) × AreVisible last grants 0 (take (n - 1) numbers) (get_or numbers (n - 1) 0) × AreHidden last grants (get_or numbers (n - 1) 0 + 1) t.from
    seen = last_visible last grants 0 (take (n - 1) numbers) (get_or numbers (n - 1) 0) t.from (subst (λ l. AreVisible last grants 0 l t.from) cut t.visible)

-- no area is looked at
module _ (last : LastAreas) (grants : List AreaGrant) (is : IsIndexOf last grants) (all : last.count ≡ length grants) (selected : AreaGrant → Bool) (plain : ℕ → Bool) where
  none_left : leaks selected plain (drop (length grants) grants) ≡ []
  none_left = ap (leaks selected plain) (drop-length grants)

  pub none_tallied : (numbers : List ℕ) (n : ℕ) (found : Leaks) → numbers ≡ last.visible.items → n ≡ length numbers → found.largest ≡ [] → found.count ≡ 0 → found.bytes ≡ 0 → found.subpools ≡ [] → found.tasks ≡ []
      → (t : IsTallied last grants selected plain (take n numbers) found) × (t.from ≡ length grants)
  none_tallied numbers n found numbers_are n_is largest count bytes subpools tasks = (
    record {
      from = length grants;
      within = omega arith;
      visible = subst (λ l. AreVisible last grants 0 l (length grants)) (sym (ap (λ k. take k numbers) n_is ∙ take-length numbers ∙ numbers_are)) (subst (λ k. AreVisible last grants 0 last.visible.items k) all is.visible);
      largest = largest ∙ ap (λ l. take 10 (ranked l)) (sym none_left);
      count = count ∙ ap length (sym none_left);
      bytes = bytes ∙ ap total (sym none_left);
      subpools = subpools ∙ ap (λ l. take 10 (by_subpool l)) (sym none_left);
      tasks = tasks ∙ ap (λ l. take 10 (by_task l)) (sym none_left);
    },
    refl,
  )

append_assoc : (xs ys zs : List ℕ) → (xs ++ ys) ++ zs ≡ xs ++ (ys ++ zs)
append_assoc [] ys zs = refl
append_assoc (x ∷ xs) ys zs = ap (λ l. x ∷ l) (append_assoc xs ys zs)

-- one number more is looked at
pub kept_next : (last : LastAreas) (grants : List AreaGrant) (kept new : List ℕ) (n : ℕ) (more : List ℕ) (to : ℕ) (g : AreaGrant) → slice_get grants n ≡ Some g → AreVisible last grants 0 (kept ++ n ∷ more) to → (new ≡ kept ++ n ∷ []) ⊎ ((new ≡ kept) × IsHidden last n g.place) → AreVisible last grants 0 (new ++ more) to
kept_next last grants kept new n more to g here h (inl e) = subst (λ l. AreVisible last grants 0 l to) (sym (append_assoc kept (n ∷ []) more) ∙ ap (λ l. l ++ more) (sym e)) h
kept_next last grants kept new n more to g here h (inr (e, at)) = subst (λ l. AreVisible last grants 0 (l ++ more) to) (sym e) (one_hidden last grants 0 kept n more to g here at h)

-- a number that is looked at is that of an area
pub number_within : (last : LastAreas) (grants : List AreaGrant) (numbers : List ℕ) (i : ℕ) → IsIndexOf last grants → numbers ≡ last.visible.items → i < length numbers → get_or numbers i 0 < last.count
number_within last grants numbers i is same less = visible_within last grants 0 last.visible.items last.count i (get_or numbers i 0) is.visible (ap (λ l. slice_get l i) (sym same) ∙ slice_get-get_or numbers i 0 less)
