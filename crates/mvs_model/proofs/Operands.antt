-- What a step has looked at before it changes anything: that places are whole, and that there are bytes to write.
use Rattle.std.proofs.Common.{◌≡◌, ℕ, ◌+◌, ◌-◌, ◌<◌, ◌≤◌, ◌⊎◌, inl, inr, true, List, [], ◌∷◌, map, length, Option, refl, ap, arith, ◌&&◌, IsSome, is_some}
use Rattle.std.specs.List.{list_all, AllByRecursion}
use Rattle.std.proofs.lemmas.Bool.Decides.{nat_tests}
use Rattle.std.proofs.lemmas.Option.{slice_get-get_or}
use Rattle.std.specs.FinMap.{get}
use Rattle.std.specs.Cmp.{first_so, second_so}
use Rattle.mvs_model.specs.Place.{PlaceValue, place_at}
use Rattle.mvs_model.specs.Storage.{IsWhole, has_address}
use Rattle.mvs_model.specs.State.{State, granted}
use Rattle.mvs_model.specs.Requests.{whole, on_doubleword, all_granted, bytes_from, moved_from}
use Rattle.mvs_model.proofs.Below.{below_each}

-- places that begin on doublewords are whole with their lengths rounded
whole_place : (p : PlaceValue) → on_doubleword p ≡ true → IsWhole (whole p)
whole_place p e = (grind (arith, nat_tests), omega arith)

pub whole_places : (ps : List PlaceValue) → list_all on_doubleword ps ≡ true → AllByRecursion IsWhole (map whole ps)
whole_places [] e = tt
whole_places (p ∷ ps) e = (whole_place p (first_so _ _ e), whole_places ps (second_so (on_doubleword p) _ e))

-- There is a byte, or it is what stands at an address that may be read.
abbrev pub HasByte : State → Option ℕ → Type 0
HasByte st v = IsSome v ⊎ ((y : ℕ) × (granted st y ≡ true) × (v ≡ get st.bytes y))

-- There is, at each address of the place.
abbrev pub HasBytes : State → PlaceValue → (ℕ → Option ℕ) → Type 0
HasBytes st p value = (x : ℕ) → has_address p x ≡ true → HasByte st (value x)

-- so it is with the bytes of a list
pub bytes_put : (st : State) (a : ℕ) (bytes : List ℕ) → HasBytes st (place_at a (length bytes)) (bytes_from a bytes)
bytes_put st a bytes x e = let l : (a ≤ x) × (x < a + length bytes) = grind (arith, nat_tests) in inl (ap is_some (slice_get-get_or bytes (x - a) 0 (omega arith)))

-- and with those of a place that may be read
pub bytes_moved : (st : State) (to from n : ℕ) → all_granted st (place_at from n) ≡ true → HasBytes st (place_at to n) (moved_from st to from)
bytes_moved st to from n all x e =
    let l : (to ≤ x) × (x < to + n) = grind (arith, nat_tests) in
    inr (from + (x - to), below_each (λ i. granted st (from + i)) n all (x - to) (omega arith), refl)

pub moved_granted : (st : State) (to from n : ℕ) → (all_granted st (place_at to n) && all_granted st (place_at from n)) ≡ true → HasBytes st (place_at to n) (moved_from st to from)
moved_granted st to from n e = bytes_moved st to from n (second_so (all_granted st (place_at to n)) _ e)
