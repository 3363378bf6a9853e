-- Reading and writing bytes, over a store and the owners.
use Rattle.std.proofs.Common.{◌≡◌, ℕ, ◌+◌, ◌-◌, ◌*◌, ◌/◌, ◌<◌, ◌≤◌, inl, inr, Bool, true, false, cond, List, length, Option, Some, None, refl, sym, ap, ◌∙◌, arith, is_some, slice_index, option_map}
use Rattle.std.proofs.lemmas.Bool.{cases_lt, false_from_ne_true}
use Rattle.std.proofs.lemmas.Bool.Decides.{nat_tests}
use Rattle.std.proofs.lemmas.Option.{slice_get-get_or}
use Rattle.std.specs.FinMap.{FinMap, get}
use Rattle.mvs_model.specs.Place.{PlaceValue, place_at}
use Rattle.mvs_model.specs.Storage.{Storage, holder as held_by, IsStorage, AllHeld, has_address}
use Rattle.mvs_model.specs.Owners.{Owners}
use Rattle.mvs_model.specs.State.{granted}
use Rattle.mvs_model.specs.Name.{name_cmp}
use Rattle.mvs_model.specs.Pools.{Pool}
use Rattle.mvs_model.specs.View.{in_pools, state_of}
use Rattle.mvs_model.specs.Changes.{Granted, Writes}
use Rattle.mvs_model.specs.Requests.{all_granted, bytes_from, moved_from}
use Rattle.mvs_model.proofs.Tables.{same_maps}
use Rattle.mvs_model.proofs.CellPlaces.{has_is}
use Rattle.mvs_model.proofs.Seen.{held_as, granted_alike}
use Rattle.mvs_model.proofs.Stand.{Stand, held_state, bytes_state, granted_held}
use Rattle.mvs_model.proofs.Below.{below_each, each_below}
pub use Rattle.mvs_model.proofs.Below.{below_each}

module _ (st : Storage) (o : Owners) (pools : FinMap name_cmp Pool) (is : IsStorage st) where
  -- each byte of a place may be read and written
  pub all_granted_is : (p : PlaceValue) → Granted (state_of st o pools) p → all_granted (state_of st o pools) p ≡ true
  all_granted_is p h = each_below (λ i. granted (state_of st o pools) (p.addr + i)) p.len (λ i l. h (p.addr + i) (omega arith) (omega arith))

  pub granted_all : (p : PlaceValue) → all_granted (state_of st o pools) p ≡ true → Granted (state_of st o pools) p
  granted_all p e a low high =
      ap (granted (state_of st o pools)) (let s : a ≡ p.addr + (a - p.addr) = omega arith in s) ∙ below_each (λ i. granted (state_of st o pools) (p.addr + i)) p.len e (a - p.addr) (omega arith)

  pub not_granted : (p : PlaceValue) → (Granted (state_of st o pools) p → ⊥) → all_granted (state_of st o pools) p ≡ false
  not_granted p none = false_from_ne_true (all_granted (state_of st o pools) p) (λ e. none (granted_all p e))

  -- then each of its doublewords is held
  pub granted_place : (p : PlaceValue) → 1 ≤ p.len → Stand st pools → Granted (state_of st o pools) p → AllHeld st p
  granted_place p some stand h d c =
      elim (cases_lt p.addr (8 * d)) [
        | inl low ↦ by (8 * d) (omega arith) (omega arith) (let high : 8 * d < p.addr + p.len = c.1 in high)
        | inr low ↦ by p.addr (let high : p.addr < 8 * d + 8 = c.0 in omega arith) (omega arith) (omega arith)
      ] where
        by : (a : ℕ) → a / 8 ≡ d → p.addr ≤ a → a < p.addr + p.len → is_some (held_by st d) ≡ true
        by a e low high = ap (λ x. is_some (held_by st x)) (sym e) ∙ granted_held st o pools is stand a (h a low high)

  -- and its bytes are those of the store
  pub bytes_granted : (p : PlaceValue) → Granted (state_of st o pools) p → (a : ℕ) → p.addr ≤ a → a < p.addr + p.len → get (state_of st o pools).bytes a ≡ get st.bytes a
  bytes_granted p h a low high = bytes_state st o pools is a ∙ ap (λ b. cond b (get st.bytes a) None) (h a low high)

  -- a write of the store is one of the machine
  pub writes_seen : (new : Storage) (p : PlaceValue) (value : ℕ → Option ℕ) → IsStorage new → Granted (state_of st o pools) p → new.regions ≡ st.regions → new.held ≡ st.held
      → ((a : ℕ) → get new.bytes a ≡ cond (has_address p a) (value a) (get st.bytes a)) → Writes (state_of st o pools) p value (state_of new o pools)
  writes_seen new p value now may regions held bytes = record {
    regions = regions;
    held = same_maps _ _ held_now;
    bytes = λ a. bytes_state new o pools now a ∙ ap (λ b. cond b (get new.bytes a) None) (granted_alike st new o o pools a (held_now (a / 8))) ∙ ap (λ v. cond (granted (state_of st o pools) a) v None) (bytes a) ∙ at a (has_address p a) refl;
    owners = refl;
    pools = refl;
  } where
    held_now : (d : ℕ) → get (state_of new o pools).held d ≡ get (state_of st o pools).held d
    held_now d = held_state new o pools now d ∙ ap (λ m. option_map (held_as (in_pools pools d)) (get m d)) held ∙ sym (held_state st o pools is d)

    at : (a : ℕ) (b : Bool) → has_address p a ≡ b → cond (granted (state_of st o pools) a) (cond b (value a) (get st.bytes a)) None ≡ cond b (value a) (get (state_of st o pools).bytes a)
    at a true e = ap (λ b. cond b (value a) None) (let i = has_is p a e in may a i.0 i.1)
    at a false e = sym (bytes_state st o pools is a)

  -- the value of a place that has the address
  same_inside : (p : PlaceValue) (a : ℕ) (v w u : Option ℕ) → (p.addr ≤ a → a < p.addr + p.len → v ≡ w) → cond (has_address p a) v u ≡ cond (has_address p a) w u
  same_inside p a v w u h = grind (arith, nat_tests)

  pub puts_seen : (new : Storage) (to : ℕ) (bytes : List ℕ) → IsStorage new → Granted (state_of st o pools) (place_at to (length bytes)) → new.regions ≡ st.regions → new.held ≡ st.held
      → ((a : ℕ) → get new.bytes a ≡ cond (has_address (place_at to (length bytes)) a) (Some (slice_index bytes (a - to))) (get st.bytes a))
      → Writes (state_of st o pools) (place_at to (length bytes)) (bytes_from to bytes) (state_of new o pools)
  puts_seen new to bytes now may regions held h =
      writes_seen new (place_at to (length bytes)) (bytes_from to bytes) now may regions held
      (λ a. h a ∙ same_inside (place_at to (length bytes)) a _ _ (get st.bytes a) (λ low high. sym (slice_get-get_or bytes (a - to) 0 (omega arith))))

  pub moves_seen : (new : Storage) (to from n : ℕ) → IsStorage new → Granted (state_of st o pools) (place_at to n) → Granted (state_of st o pools) (place_at from n) → new.regions ≡ st.regions → new.held ≡ st.held
      → ((a : ℕ) → get new.bytes a ≡ cond (has_address (place_at to n) a) (get st.bytes (from + (a - to))) (get st.bytes a))
      → Writes (state_of st o pools) (place_at to n) (moved_from (state_of st o pools) to from) (state_of new o pools)
  moves_seen new to from n now may source regions held h =
      writes_seen new (place_at to n) (moved_from (state_of st o pools) to from) now may regions held
      (λ a. h a ∙ same_inside (place_at to n) a _ _ (get st.bytes a) (λ low high. sym (bytes_granted (place_at from n) source (from + (a - to)) (omega arith) (omega arith))))
