-- Reading and writing bytes on both machines, and the places that a request names.
use Rattle.std.proofs.Common.{◌≡◌, ℕ, zero, suc, ◌+◌, ◌/◌, ◌<◌, ◌≤◌, Bool, true, false, List, [], ◌∷◌, map, Option, Some, None, arith, refl, sym, ap, ◌∙◌, is_some, ◌&&◌, zip, option_map, option_and_then, unwrap_or}
use Rattle.std.specs.List.{list_all}
use Rattle.std.specs.FinMap.{get}
use Rattle.std.proofs.lemmas.Bool.{and_right, and_from}
use Rattle.std.proofs.lemmas.Bool.Decides.{nat_tests}
use Rattle.std.proofs.lemmas.Grind.{common_steps}
use Rattle.mvs_laws.proofs.Types.{Name, Location, Absolute, Named}
use Rattle.mvs_model.specs.Place.{PlaceValue, place_at, round8}
use Rattle.mvs_model.specs.Finite.{has}
use Rattle.mvs_model.specs.State.{is_plain, granted}
use Rattle.mvs_model.specs.Requests.{all_granted}
use Rattle.mvs_model.specs.Job.{JobValue}
use Rattle.mvs_model.specs.Replies.{bytes_at}
use Rattle.mvs_model.specs.Resolving.{address_of, places_of}
use Rattle.mvs_laws.specs.Labels.{Labels, Spot, spot, rounded, is_there, spot_of, spots_of, bytes_in}
use Rattle.mvs_laws.specs.Tidy.{Link, is_set, is_good}
use Rattle.mvs_laws.proofs.LinkGone.{granted_is}
use Rattle.mvs_laws.proofs.Spots.{span_of, there_at}
use Rattle.mvs_model.proofs.Below.{each_below}

module _ (job : JobValue) (m : Labels) (k : Link job m) where
  -- what is there may be read and written
  pub there_granted : (q : Spot) → is_there m q ≡ true → all_granted job.state (span_of job m k q) ≡ true
  there_granted q h = each_below (λ i. granted job.state (k.base q.label + q.place.addr + i)) q.place.len (λ i less.
      let b = there_at m q h (q.place.addr + i) (omega arith) (omega (arith, less)) in
      granted_is job.state (k.base q.label + q.place.addr + i) k.pools
      ∙ ap (λ d. is_plain (get job.state.held d)) (let z : (k.base q.label + q.place.addr + i) / 8 ≡ (k.base q.label + (q.place.addr + i)) / 8 = omega arith in z)
      ∙ ap is_plain (k.held q.label (q.place.addr + i) b.0 b.1))

  -- and the bytes are the same
  bytes_same : (l n x i : ℕ) → x ≡ k.base l + i → ((j : ℕ) → i ≤ j → j < i + n → (b : ℕ) × (m.byte l j ≡ Some b)) → bytes_at job.state x n ≡ bytes_in m l i n
  unfolding bytes_at bytes_in
  bytes_same l zero x i e h = refl
  bytes_same l (suc n) x i e h =
      let b = h i (omega arith) (omega arith) in
      λ z. unwrap_or ((ap (get job.state.bytes) e ∙ k.bytes l i b.0 b.1 ∙ sym b.1) z) 0 ∷ bytes_same l n (x + 1) (i + 1) (omega (arith, e)) (λ j low high. h j (omega (arith, low)) (omega (arith, high))) z

  pub shown_same : (q : Spot) → is_there m q ≡ true → bytes_at job.state (k.base q.label + q.place.addr) q.place.len ≡ bytes_in m q.label q.place.addr q.place.len
  shown_same q h = bytes_same q.label q.place.len (k.base q.label + q.place.addr) q.place.addr refl (λ j low high. there_at m q h j low high)

  -- the addresses of names
  pub named_address : (name : Name) (n : ℕ) → address_of job.names (Named name n) ≡ option_map (λ l. k.base l + n) (get m.names name)
  named_address name n = grind (arith, nat_tests)

  -- A place that is written: its name is not set, or it has no name, or it is the same on both machines.
  pub data Found (location : Location) (n : ℕ) : Type 0 where
    unset : spot_of m location n ≡ None → address_of job.names location ≡ None → is_set m location ≡ false → Found location n
    nameless : spot_of m location n ≡ None → is_set m location ≡ true → ((x : ℕ) → is_good m location x ≡ false) → Found location n
    found : (q : Spot) → spot_of m location n ≡ Some q → address_of job.names location ≡ Some (k.base q.label + q.place.addr) → q.place.len ≡ n → is_set m location ≡ true → ((x : ℕ) → is_good m location x ≡ is_there m (spot q.label q.place.addr x)) → Found location n

  pub look : (location : Location) (n : ℕ) → Found location n
  look (Absolute a) n = nameless refl refl (λ x. refl)
  look (Named name x) n = at (get m.names name) refl where
    at : (v : Option ℕ) → get m.names name ≡ v → Found (Named name x) n
    at None e = unset (ap (option_map (λ l. spot l x n)) e) (named_address name x ∙ ap (option_map (λ l. k.base l + x)) e) (ap is_some e)
    at (Some l) e = found (spot l x n) (ap (option_map (λ l. spot l x n)) e) (named_address name x ∙ ap (option_map (λ l. k.base l + x)) e) refl (ap is_some e) (λ y. ap (has (λ l. is_there m (spot l x y))) e)

  abbrev pub all_places_set : List Location → List ℕ → Bool
  all_places_set ls ns = list_all (λ (p : Location × ℕ). is_set m p.0) (zip ls (map round8 ns))

  abbrev pub all_good : List Location → List ℕ → Bool
  all_good ls ns = list_all (λ (p : Location × ℕ). is_good m p.0 p.1) (zip ls (map round8 ns))

  -- the same of several
  pub data FoundAll (ls : List Location) (ns : List ℕ) : Type 0 where
    some_unset : spots_of m ls ns ≡ None → places_of job.names ls ns ≡ None → all_places_set ls ns ≡ false → FoundAll ls ns
    some_nameless : all_places_set ls ns ≡ true → all_good ls ns ≡ false → FoundAll ls ns
    all_found : (qs : List Spot) → spots_of m ls ns ≡ Some qs → places_of job.names ls ns ≡ Some (map (span_of job m k) qs) → all_places_set ls ns ≡ true → all_good ls ns ≡ list_all (is_there m) (map rounded qs) → FoundAll ls ns

  abbrev pub joined_spots : Option Spot → Option (List Spot) → Option (List Spot)
  joined_spots v w = option_and_then (λ q. option_map (λ qs. q ∷ qs) w) v

  abbrev pub joined_places : ℕ → Option ℕ → Option (List PlaceValue) → Option (List PlaceValue)
  joined_places n v w = option_and_then (λ a. option_map (λ ps. place_at a n ∷ ps) w) v

  no_rest : {X Y : Type 0} (v : Option X) (f : X → Y → Y) → option_and_then (λ x. option_map (f x) None) v ≡ None
  no_rest v f = grind (arith, common_steps)

  pub look_all : (ls : List Location) (ns : List ℕ) → FoundAll ls ns
  look_all [] ns = all_found [] refl refl refl refl
  look_all (l ∷ ls) [] = all_found [] refl refl refl refl
  look_all (l ∷ ls) (n ∷ ns) = at (look l n) (look_all ls ns) where
    at : Found l n → FoundAll ls ns → FoundAll (l ∷ ls) (n ∷ ns)
    at (unset e f g) rest = some_unset (ap (λ v. joined_spots v (spots_of m ls ns)) e) (ap (λ v. joined_places n v (places_of job.names ls ns)) f) (ap (λ b. b && all_places_set ls ns) g)
    at (nameless e f g) (some_unset u v w) = some_unset (ap (λ v. joined_spots v (spots_of m ls ns)) e) (ap (λ w. joined_places n (address_of job.names l) w) v ∙ no_rest (address_of job.names l) (λ a ps. place_at a n ∷ ps)) (and_right (is_set m l) (all_places_set ls ns) w)
    at (nameless e f g) (some_nameless u v) = some_nameless (and_from (is_set m l) (all_places_set ls ns) f u) (ap (λ b. b && all_good ls ns) (g (round8 n)))
    at (nameless e f g) (all_found qs u v w x) = some_nameless (and_from (is_set m l) (all_places_set ls ns) f w) (ap (λ b. b && all_good ls ns) (g (round8 n)))
    at (found q e f len g h) (some_unset u v w) =
        some_unset (ap (λ w. joined_spots (spot_of m l n) w) u ∙ no_rest (spot_of m l n) (λ q qs. q ∷ qs)) (ap (λ w. joined_places n (address_of job.names l) w) v ∙ no_rest (address_of job.names l) (λ a ps. place_at a n ∷ ps)) (and_right (is_set m l) (all_places_set ls ns) w)
    at (found q e f len g h) (some_nameless u v) = some_nameless (and_from (is_set m l) (all_places_set ls ns) g u) (and_right (is_good m l (round8 n)) (all_good ls ns) v)
    at (found q e f len g h) (all_found qs u v w x) =
        all_found (q ∷ qs) (λ i. joined_spots (e i) (u i)) ((λ i. joined_places n (f i) (v i)) ∙ ap (λ x. Some (place_at (k.base q.label + q.place.addr) x ∷ map (span_of job m k) qs)) (sym len))
        (and_from (is_set m l) (all_places_set ls ns) g w)
        (λ i. (h (round8 n) ∙ ap (λ x. is_there m (spot q.label q.place.addr (round8 x))) (sym len)) i && x i)
