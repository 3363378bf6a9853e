-- Whether places may be released is decided on labels and offsets as it is on addresses.
use Rattle.std.proofs.Common.{◌≡◌, ℕ, ◌+◌, ◌-◌, ◌*◌, ◌/◌, ◌<◌, ◌≤◌, Bool, true, false, cond, List, [], ◌∷◌, map, Option, Some, arith, refl, sym, ap, ◌∙◌, subst, is_some, ◌||◌, ◌&&◌, ◌==◌, eqb-true, eq-eqb}
use Rattle.std.specs.List.{list_any, list_all, AllByRecursion}
use Rattle.std.proofs.lemmas.Bool.{and_from}
use Rattle.std.specs.FinMap.{get}
use Rattle.std.specs.Cmp.{first_so, second_so}
use Rattle.std.proofs.lemmas.Bool.Decides.{nat_tests}
use Rattle.mvs_model.specs.Storage.{IsWhole, Covers}
use Rattle.mvs_model.specs.State.{plain, subpool_in}
use Rattle.mvs_model.specs.Changes.{HeldPlain, Misses, Disjoint}
use Rattle.mvs_model.proofs.ByCase.{MayRelease}
use Rattle.mvs_model.specs.Job.{JobValue}
use Rattle.mvs_laws.specs.Labels.{Labels, Spot, has_offset, meets, some_meet, is_there, is_held}
use Rattle.mvs_laws.proofs.LabelCases.{may_free}
use Rattle.mvs_laws.specs.Tidy.{Link}
use Rattle.mvs_laws.proofs.Spots.{span_of, there_at, offset_is, offset_yes}
use Rattle.mvs_model.proofs.Below.{below_each, below_some, each_below, some_below}
use Rattle.mvs_model.proofs.Tests.{true_false}

subpool_same : (s u : ℕ) → Some (plain s) ≡ Some (plain u) → s ≡ u
subpool_same s u e = let f : Some s ≡ Some u = ap subpool_in e in cc

module _ (job : JobValue) (m : Labels) (k : Link job m) where
  -- the offset of a doubleword that a whole place covers
  covered : (q : Spot) → IsWhole (span_of job m k q) → (d : ℕ) → Covers (span_of job m k q) d → (q.place.addr ≤ 8 * d - k.base q.label) × (8 * d - k.base q.label < q.place.addr + q.place.len) × (k.base q.label + (8 * d - k.base q.label) ≡ 8 * d)
  covered q h1 d h2 = grind (arith, nat_tests)

  covers_it : (q : Spot) (i : ℕ) → q.place.addr ≤ i → i < q.place.addr + q.place.len → Covers (span_of job m k q) ((k.base q.label + i) / 8)
  covers_it q i low high = (omega (arith, low), omega (arith, high))

  held_plain : (s : ℕ) (q : Spot) → is_there m q ≡ true → IsWhole (span_of job m k q) → is_held m s q ≡ true → HeldPlain job.state s (span_of job m k q)
  held_plain s q there w h d c =
      let o = covered q w d c in
      let low : q.place.addr ≤ 8 * d - k.base q.label = o.0 in
      let high : 8 * d - k.base q.label < q.place.addr + q.place.len = o.1 in
      let at : k.base q.label + (8 * d - k.base q.label) ≡ 8 * d = o.2 in
      let b = there_at m q there (8 * d - k.base q.label) low high in
      let e = below_each (λ i. is_some (m.byte q.label (q.place.addr + i)) && (m.subpool q.label == s)) q.place.len h (8 * d - k.base q.label - q.place.addr) (omega (arith, low, high)) in
      ap (get job.state.held) (let z : d ≡ (k.base q.label + (8 * d - k.base q.label)) / 8 = omega (arith, at) in z)
      ∙ k.held q.label (8 * d - k.base q.label) b.0 b.1
      ∙ ap (λ u. Some (plain u)) (eqb-true (m.subpool q.label) s (second_so (is_some (m.byte q.label (q.place.addr + (8 * d - k.base q.label - q.place.addr)))) _ e))

  plain_held : (s : ℕ) (q : Spot) → is_there m q ≡ true → HeldPlain job.state s (span_of job m k q) → is_held m s q ≡ true
  plain_held s q there h = each_below (λ i. is_some (m.byte q.label (q.place.addr + i)) && (m.subpool q.label == s)) q.place.len (λ i less.
      let b = there_at m q there (q.place.addr + i) (omega arith) (omega (arith, less)) in
      and_from (is_some (m.byte q.label (q.place.addr + i))) (m.subpool q.label == s) (ap is_some b.1)
      (eq-eqb (m.subpool q.label) s (subpool_same (m.subpool q.label) s (sym (k.held q.label (q.place.addr + i) b.0 b.1) ∙ h ((k.base q.label + (q.place.addr + i)) / 8) (covers_it q (q.place.addr + i) (omega arith) (omega (arith, less)))))))

  meets_hit : (q r : Spot) → meets q r ≡ true → Misses (span_of job m k q) (span_of job m k r) → ⊥
  meets_hit q r e miss =
      let w = below_some (λ i. has_offset r q.label (q.place.addr + i)) q.place.len e in
      let less : w.0 < q.place.len = w.1 in
      let o = offset_is r q.label (q.place.addr + w.0) w.2 in
      let low : r.place.addr ≤ q.place.addr + w.0 = o.1 in
      let high : q.place.addr + w.0 < r.place.addr + r.place.len = o.2 in
      miss ((k.base q.label + (q.place.addr + w.0)) / 8)
      (covers_it q (q.place.addr + w.0) (omega arith) (omega (arith, less)))
      (subst (λ l. Covers (span_of job m k r) ((k.base l + (q.place.addr + w.0)) / 8)) (sym o.0) (covers_it r (q.place.addr + w.0) low high))

  hit_meets : (q r : Spot) → is_there m q ≡ true → is_there m r ≡ true → IsWhole (span_of job m k q) → IsWhole (span_of job m k r) → meets q r ≡ false → Misses (span_of job m k q) (span_of job m k r)
  hit_meets q r tq tr wq wr e d cq cr =
      let o = covered q wq d cq in
      let low : q.place.addr ≤ 8 * d - k.base q.label = o.0 in
      let high : 8 * d - k.base q.label < q.place.addr + q.place.len = o.1 in
      let p = covered r wr d cr in
      let b = there_at m q tq (8 * d - k.base q.label) o.0 o.1 in
      let c = there_at m r tr (8 * d - k.base r.label) p.0 p.1 in
      let s = k.apart q.label r.label (8 * d - k.base q.label) (8 * d - k.base r.label) b.0 c.0 b.1 c.1 (o.2 ∙ sym p.2) in
      let i : 8 * d - k.base q.label ≡ 8 * d - k.base r.label = s.1 in
      let rlow : r.place.addr ≤ 8 * d - k.base r.label = p.0 in
      let rhigh : 8 * d - k.base r.label < r.place.addr + r.place.len = p.1 in
      let f = some_below (λ j. has_offset r q.label (q.place.addr + j)) q.place.len (8 * d - k.base q.label - q.place.addr) (omega (arith, low, high))
      (offset_yes r q.label (q.place.addr + (8 * d - k.base q.label - q.place.addr)) s.0 (omega (arith, low, i, rlow)) (omega (arith, low, i, rhigh))) in
      let g : false ≡ true = sym e ∙ f in cc

  abbrev pub AllWhole : List Spot → Type 0
  AllWhole qs = AllByRecursion IsWhole (map (span_of job m k) qs)

  held_all : (s : ℕ) (qs : List Spot) → list_all (is_there m) qs ≡ true → AllWhole qs → list_all (is_held m s) qs ≡ true → AllByRecursion (HeldPlain job.state s) (map (span_of job m k) qs)
  held_all s [] t w h = tt
  held_all s (q ∷ qs) t w h = (held_plain s q (first_so (is_there m q) _ t) w.0 (first_so (is_held m s q) _ h), held_all s qs (second_so (is_there m q) _ t) w.1 (second_so (is_held m s q) _ h))

  all_held : (s : ℕ) (qs : List Spot) → list_all (is_there m) qs ≡ true → AllByRecursion (HeldPlain job.state s) (map (span_of job m k) qs) → list_all (is_held m s) qs ≡ true
  all_held s [] t h = refl
  all_held s (q ∷ qs) t h = and_from (is_held m s q) (list_all (is_held m s) qs) (plain_held s q (first_so (is_there m q) _ t) h.0) (all_held s qs (second_so (is_there m q) _ t) h.1)

  none_met : (q : Spot) (qs : List Spot) → is_there m q ≡ true → IsWhole (span_of job m k q) → list_all (is_there m) qs ≡ true → AllWhole qs → list_any (meets q) qs ≡ false → AllByRecursion (Misses (span_of job m k q)) (map (span_of job m k) qs)
  none_met q [] tq wq t w e = tt
  none_met q (r ∷ qs) tq wq t w e = at (meets q r) refl e (λ g. none_met q qs tq wq (second_so (is_there m r) _ t) w.1 g) where
    at : (c : Bool) → meets q r ≡ c → (c || list_any (meets q) qs) ≡ false → (list_any (meets q) qs ≡ false → AllByRecursion (Misses (span_of job m k q)) (map (span_of job m k) qs)) → AllByRecursion (Misses (span_of job m k q)) (map (span_of job m k) (r ∷ qs))
    at true f g rest = true_false g
    at false f g rest = (hit_meets q r tq (first_so (is_there m r) _ t) wq w.0 f, rest g)

  met_none : (q : Spot) (qs : List Spot) → AllByRecursion (Misses (span_of job m k q)) (map (span_of job m k) qs) → list_any (meets q) qs ≡ false
  met_none q [] h = refl
  met_none q (r ∷ qs) h = grind (arith, nat_tests, meets_hit, met_none q qs h.1)

  disjoint : (qs : List Spot) → list_all (is_there m) qs ≡ true → AllWhole qs → some_meet qs ≡ false → Disjoint (map (span_of job m k) qs)
  disjoint [] t w e = tt
  disjoint (q ∷ qs) t w e = at (list_any (meets q) qs) refl e (λ g. disjoint qs (second_so (is_there m q) _ t) w.1 g) where
    at : (c : Bool) → list_any (meets q) qs ≡ c → cond c true (some_meet qs) ≡ false → (some_meet qs ≡ false → Disjoint (map (span_of job m k) qs)) → Disjoint (map (span_of job m k) (q ∷ qs))
    at true f g rest = true_false g
    at false f g rest = (none_met q qs (first_so (is_there m q) _ t) w.0 (second_so (is_there m q) _ t) w.1 f, rest g)

  apart : (qs : List Spot) → Disjoint (map (span_of job m k) qs) → some_meet qs ≡ false
  apart [] h = refl
  apart (q ∷ qs) h = ap (λ c. cond c true (some_meet qs)) (met_none q qs h.0) ∙ apart qs h.1

  -- what may be released here may be released there
  pub free_may : (s : Option ℕ) (qs : List Spot) → list_all (is_there m) qs ≡ true → AllWhole qs → may_free m s qs ≡ true → MayRelease job.state s (map (span_of job m k) qs)
  free_may s qs h1 h2 h3 = grind (arith, nat_tests, held_all, disjoint)

  pub may_be_free : (s : Option ℕ) (qs : List Spot) → list_all (is_there m) qs ≡ true → MayRelease job.state s (map (span_of job m k) qs) → may_free m s qs ≡ true
  may_be_free s qs h1 h2 = grind (arith, nat_tests, all_held, apart)
