-- Bytes of a store that are copied piece by piece.
use Rattle.std.proofs.Common.{◌≡◌, ℕ, ◌+◌, ◌-◌, ◌*◌, ◌/◌, ◌<◌, ◌≤◌, ◌⊎◌, inl, inr, List, length, get_or, true, false, cond, Option, Some, None, refl, sym, ap, ◌∙◌, subst, arith}
use Rattle.std.specs.Prelude.{is_some, slice_get}
use Rattle.std.proofs.lemmas.Bool.{cases_Bool, cases_lt, cond-true, cond-false}
use Rattle.std.proofs.lemmas.Option.{slice_get-get_or}
use Rattle.std.proofs.lemmas.Bool.Decides.{nat_tests}
use Rattle.std.specs.FinMap.{get}
use Rattle.mvs_model.specs.Place.{PlaceValue, place_at}
use Rattle.mvs_model.specs.Storage.{Storage, holder, AllHeld, has_address}
use Rattle.subpool_store.specs.WrittenBytes.{Puts}
use Rattle.request_forms.specs.Machine.{IsStepStorage}
use Rattle.request_forms.specs.Access.{Copied}
use Rattle.mvs_model.proofs.CellPlaces.{address_yes}

has_from : (p : PlaceValue) (x : ℕ) → has_address p x ≡ true → p.addr ≤ x
has_from p x hit = grind (arith, nat_tests)

has_to : (p : PlaceValue) (x : ℕ) → has_address p x ≡ true → x < p.addr + p.len
has_to p x hit = grind (arith, nat_tests)

has_out : (p : PlaceValue) (x : ℕ) → (p.addr ≤ x → p.addr + p.len ≤ x) → has_address p x ≡ false
has_out p x out = grind (arith, nat_tests)

-- what is held has an address
held_address : (st : Storage) (d : ℕ) → IsStepStorage st → is_some (holder st d) ≡ true → 8 * d + 8 ≤ 2147483648
held_address st d is h = at (holder st d) refl h where
  at : (v : Option ℕ) → holder st d ≡ v → is_some v ≡ true → 8 * d + 8 ≤ 2147483648
  at None e f = absurd (let g : false ≡ true = f in cc)
  at (Some s) e f = elim (is.storage.inside d s e) [ inl b ↦ (let t : 8 * d + 8 ≤ 0x6000 + 4096 * st.regions.below = b.1 in let m : st.regions.below ≤ 2048 = is.bounded.below in omega arith) | inr b ↦ (let t : 8 * d + 8 ≤ 0x1000000 + 4096 * st.regions.above = b.1 in let m : st.regions.above ≤ 8192 = is.bounded.above in omega arith) ]

pub address_held : (st : Storage) (a n k : ℕ) → IsStepStorage st → AllHeld st (place_at a n) → k < n → a + k < 2147483648
address_held st a n k is h l =
    let e = held_address st ((a + k) / 8) is (h ((a + k) / 8) (omega arith, omega arith)) in
    let f : 8 * ((a + k) / 8) + 8 ≤ 2147483648 = e in
    omega arith

-- more bytes after those that are copied
module _ (f g h : ℕ → Option ℕ) (to from k m : ℕ) where
  next_bytes : to ≤ from → ((x : ℕ) → g x ≡ cond (has_address (place_at to k) x) (f (from + (x - to))) (f x)) → ((x : ℕ) → h x ≡ cond (has_address (place_at (to + k) m) x) (g (from + k + (x - (to + k)))) (g x))
      → (x : ℕ) → h x ≡ cond (has_address (place_at to (k + m)) x) (f (from + (x - to))) (f x)
  next_bytes lower done one x =
      elim (cases_lt x to) [
        | inl l ↦ one x ∙ cond-false _ _ _ (has_out (place_at (to + k) m) x (λ w. omega arith)) ∙ done x ∙ cond-false _ _ _ (has_out (place_at to k) x (λ w. omega arith)) ∙ sym (cond-false _ _ _ (has_out (place_at to (k + m)) x (λ w. omega arith)))
        | inr l ↦ elim (cases_lt x (to + k)) [
          | inl b ↦ one x ∙ cond-false _ _ _ (has_out (place_at (to + k) m) x (λ w. omega arith)) ∙ done x ∙ cond-true _ _ _ (address_yes (place_at to k) x l b) ∙ sym (cond-true _ _ _ (address_yes (place_at to (k + m)) x l (omega arith)))
          | inr b ↦ elim (cases_lt x (to + k + m)) [
            | inl e ↦ one x ∙ cond-true _ _ _ (address_yes (place_at (to + k) m) x b e) ∙ done (from + k + (x - (to + k))) ∙ cond-false _ _ _ (has_out (place_at to k) (from + k + (x - (to + k))) (λ w. omega arith)) ∙ ap f (let s : from + k + (x - (to + k)) ≡ from + (x - to) = omega arith in s) ∙ sym (cond-true _ _ _ (address_yes (place_at to (k + m)) x l (omega arith)))
            | inr e ↦ one x ∙ cond-false _ _ _ (has_out (place_at (to + k) m) x (λ w. omega arith)) ∙ done x ∙ cond-false _ _ _ (has_out (place_at to k) x (λ w. omega arith)) ∙ sym (cond-false _ _ _ (has_out (place_at to (k + m)) x (λ w. omega arith)))
          ]
        ]
      ]

-- more bytes before them
module _ (f g h : ℕ → Option ℕ) (to from n m : ℕ) where
  bytes_before : from ≤ to → ((x : ℕ) → g x ≡ cond (has_address (place_at (to + m) n) x) (f (from + m + (x - (to + m)))) (f x)) → ((x : ℕ) → h x ≡ cond (has_address (place_at to m) x) (g (from + (x - to))) (g x))
      → (x : ℕ) → h x ≡ cond (has_address (place_at to (n + m)) x) (f (from + (x - to))) (f x)
  bytes_before higher done one x =
      elim (cases_lt x to) [
        | inl l ↦ one x ∙ cond-false _ _ _ (has_out (place_at to m) x (λ w. omega arith)) ∙ done x ∙ cond-false _ _ _ (has_out (place_at (to + m) n) x (λ w. omega arith)) ∙ sym (cond-false _ _ _ (has_out (place_at to (n + m)) x (λ w. omega arith)))
        | inr l ↦ elim (cases_lt x (to + m)) [
          | inl b ↦ one x ∙ cond-true _ _ _ (address_yes (place_at to m) x l b) ∙ done (from + (x - to)) ∙ cond-false _ _ _ (has_out (place_at (to + m) n) (from + (x - to)) (λ w. omega arith)) ∙ sym (cond-true _ _ _ (address_yes (place_at to (n + m)) x l (omega arith)))
          | inr b ↦ elim (cases_lt x (to + m + n)) [
            | inl e ↦ one x ∙ cond-false _ _ _ (has_out (place_at to m) x (λ w. omega arith)) ∙ done x ∙ cond-true _ _ _ (address_yes (place_at (to + m) n) x b e) ∙ ap f (let s : from + m + (x - (to + m)) ≡ from + (x - to) = omega arith in s) ∙ sym (cond-true _ _ _ (address_yes (place_at to (n + m)) x l (omega arith)))
            | inr e ↦ one x ∙ cond-false _ _ _ (has_out (place_at to m) x (λ w. omega arith)) ∙ done x ∙ cond-false _ _ _ (has_out (place_at (to + m) n) x (λ w. omega arith)) ∙ sym (cond-false _ _ _ (has_out (place_at to (n + m)) x (λ w. omega arith)))
          ]
        ]
      ]

pub copied_next : (old mid new : Storage) (to from k m : ℕ) → to ≤ from → Copied old to from k mid → Copied mid (to + k) (from + k) m new → Copied old to from (k + m) new
copied_next old mid new to from k m lower done one = record {
  regions = one.regions ∙ done.regions;
  held = one.held ∙ done.held;
  bytes = next_bytes (get old.bytes) (get mid.bytes) (get new.bytes) to from k m lower done.bytes one.bytes;
  storage = one.storage;
}

pub copied_before : (old mid new : Storage) (to from n m : ℕ) → from ≤ to → Copied old (to + m) (from + m) n mid → Copied mid to from m new → Copied old to from (n + m) new
copied_before old mid new to from n m higher done one = record {
  regions = one.regions ∙ done.regions;
  held = one.held ∙ done.held;
  bytes = bytes_before (get old.bytes) (get mid.bytes) (get new.bytes) to from n m higher done.bytes one.bytes;
  storage = one.storage;
}

-- what was written is what the source has
pub copied_put : (old : Storage) (to from n : ℕ) (w : List ℕ) (new : Storage) → length w ≡ n → ((k : ℕ) → k < n → slice_get w k ≡ get old.bytes (from + k)) → Puts old (place_at to n) w new → Copied old to from n new
copied_put old to from n w new size each puts = record { regions = puts.regions; held = puts.held; bytes = λ x. puts.bytes x ∙ read x (cases_Bool (has_address (place_at to n) x)); storage = puts.storage } where
  read : (x : ℕ) → (has_address (place_at to n) x ≡ true) ⊎ (has_address (place_at to n) x ≡ false) →
      cond (has_address (place_at to n) x) (Some (get_or w (x - to) 0)) (get old.bytes x) ≡ cond (has_address (place_at to n) x) (get old.bytes (from + (x - to))) (get old.bytes x)
  read x (inr out) = cond-false _ _ _ out ∙ sym (cond-false _ _ _ out)
  read x (inl hit) =
      let low = has_from (place_at to n) x hit in let high = has_to (place_at to n) x hit in let inside : x - to < n = omega (arith, low, high) in
      cond-true _ _ _ hit ∙ sym (slice_get-get_or w (x - to) 0 (omega (arith, inside, size))) ∙ each (x - to) inside ∙ sym (cond-true _ _ _ hit)

-- the same with other words for the addresses
pub copied_as : (old new : Storage) (to from n at off m : ℕ) → to ≡ at → from ≡ off → n ≡ m → Copied old to from n new → Copied old at off m new
copied_as old new to from n at off m a b e h = subst (λ x. Copied old at off x new) e (subst (λ x. Copied old at x n new) b (subst (λ x. Copied old x from n new) a h))
