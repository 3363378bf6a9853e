-- The places of a label and their addresses.
use Rattle.std.proofs.Common.{◌≡◌, ℕ, ◌+◌, ◌-◌, ◌<◌, ◌≤◌, true, Some, arith, ap, subst, is_some, ◌==◌}
use Rattle.std.proofs.lemmas.Bool.Decides.{nat_tests}
use Rattle.std.proofs.lemmas.Bool.{and_from}
use Rattle.mvs_model.specs.Place.{PlaceValue, place_at}
use Rattle.mvs_model.specs.Storage.{has_address}
use Rattle.mvs_model.specs.Job.{JobValue}
use Rattle.mvs_laws.specs.Labels.{Labels, Spot, has_offset, is_there}
use Rattle.mvs_laws.specs.Tidy.{Link}
use Rattle.mvs_laws.proofs.LinkLess.{some_there}
use Rattle.mvs_model.proofs.CellPlaces.{has_is, address_yes}
use Rattle.mvs_model.proofs.Below.{below_each}
use Rattle.mvs_model.proofs.Tests.{same_test}

pub offset_is : (q : Spot) (l i : ℕ) → has_offset q l i ≡ true → (l ≡ q.label) × (q.place.addr ≤ i) × (i < q.place.addr + q.place.len)
offset_is q l i h1 = grind (arith, nat_tests)

pub offset_yes : (q : Spot) (l i : ℕ) → l ≡ q.label → q.place.addr ≤ i → i < q.place.addr + q.place.len → has_offset q l i ≡ true
offset_yes q l i e low high = and_from (l == q.label) (has_address q.place i) (let x : (l == q.label) ≡ true = grind (arith, nat_tests) in x) (let y : has_address q.place i ≡ true = grind (arith, nat_tests) in y)

-- an offset of a place that is there has a byte
pub there_at : (m : Labels) (q : Spot) → is_there m q ≡ true → (i : ℕ) → q.place.addr ≤ i → i < q.place.addr + q.place.len → (b : ℕ) × (m.byte q.label i ≡ Some b)
there_at m q h i low high =
    let e = below_each (λ j. is_some (m.byte q.label (q.place.addr + j))) q.place.len h (i - q.place.addr) (omega (arith, low, high)) in
    some_there (m.byte q.label i) (subst (λ j. is_some (m.byte q.label j) ≡ true) (let z : q.place.addr + (i - q.place.addr) ≡ i = omega (arith, low) in z) e)

module _ (job : JobValue) (m : Labels) (k : Link job m) where
  -- the place in the storage of a place in an area
  abbrev pub span_of : Spot → PlaceValue
  span_of q = place_at (k.base q.label + q.place.addr) q.place.len

  pub has_same : (q : Spot) → is_there m q ≡ true → (l i b : ℕ) → m.byte l i ≡ Some b → has_offset q l i ≡ has_address (span_of q) (k.base l + i)
  has_same q h l i b e = same_test (has_offset q l i) (has_address (span_of q) (k.base l + i)) there back where
    there : has_offset q l i ≡ true → has_address (span_of q) (k.base l + i) ≡ true
    there t =
        let o = offset_is q l i t in
        let s : k.base l ≡ k.base q.label = ap k.base o.0 in
        let low : q.place.addr ≤ i = o.1 in
        let high : i < q.place.addr + q.place.len = o.2 in
        address_yes (span_of q) (k.base l + i) (omega (arith, s, low)) (omega (arith, s, high))

    back : has_address (span_of q) (k.base l + i) ≡ true → has_offset q l i ≡ true
    back t =
        let low : k.base q.label + q.place.addr ≤ k.base l + i = (has_is (span_of q) (k.base l + i) t).0 in
        let high : k.base l + i < k.base q.label + q.place.addr + q.place.len = (has_is (span_of q) (k.base l + i) t).1 in
        let w = there_at m q h (k.base l + i - k.base q.label) (omega (arith, low)) (omega (arith, low, high)) in
        let same = k.apart l q.label i (k.base l + i - k.base q.label) b w.0 e w.1 (omega (arith, low)) in
        let at : i ≡ k.base l + i - k.base q.label = same.1 in
        offset_yes q l i same.0 (omega (arith, at, low)) (omega (arith, at, low, high))
