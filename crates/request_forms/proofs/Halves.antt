-- The first doubleword or byte of a place that fails, found by halves.
use Rattle.std.proofs.Common.{◌≡◌, ℕ, ◌+◌, ◌-◌, ◌*◌, ◌/◌, ◌%◌, ◌<◌, ◌≤◌, inl, inr, true, false, Option, Some, None, refl, ap, subst, arith}
use Rattle.std.specs.Prelude.{is_some}
use Rattle.std.proofs.lemmas.Bool.{cases_lt, false_from_ne_true}
use Rattle.std.specs.FinMap.{FinMap, get}
use Rattle.mvs_model.specs.Name.{name_cmp}
use Rattle.mvs_model.specs.Place.{PlaceValue, place_at}
use Rattle.mvs_model.specs.Storage.{Storage, holder, IsWhole}
use Rattle.mvs_model.specs.Owners.{Owners}
use Rattle.mvs_model.specs.State.{State, plain, granted}
use Rattle.mvs_model.specs.Changes.{Granted, HeldPlain}
use Rattle.mvs_model.specs.Reasons.{IsDeniedIn, IsUnheldIn}
use Rattle.mvs_model.proofs.Stand.{granted_held}
use Rattle.cell_pool.specs.Agree.{Agree}
use Rattle.cell_pool.specs.Roots.{Root, pools_of}
use Rattle.request_forms.specs.Machine.{IsStepStorage, machine_state}
use Rattle.request_forms.proofs.Places.{plain_back}
use Rattle.request_forms.proofs.Pooling.{stands, step_storage}

-- what is held lies in a region
held_low : (st : Storage) (d : ℕ) (v : Option ℕ) → IsStepStorage st → holder st d ≡ v → is_some v ≡ true → 8 * d + 8 ≤ 0x3000000
held_low st d None is e f = absurd (let g : false ≡ true = f in cc)
held_low st d (Some s) is e f = elim (is.storage.inside d s e) [
  | inl b ↦ (let t : 8 * d + 8 ≤ 0x6000 + 4096 * st.regions.below = b.1 in let m : st.regions.below ≤ 2048 = is.bounded.below in omega arith)
  | inr b ↦ (let t : 8 * d + 8 ≤ 0x1000000 + 4096 * st.regions.above = b.1 in let m : st.regions.above ≤ 8192 = is.bounded.above in omega arith)
]

-- nothing is covered by no bytes from a doubleword on
pub none_held : (st : State) (s a : ℕ) → a % 8 ≡ 0 → HeldPlain st s (place_at a (8 * 0))
none_held st s a e d c = absurd (let low : a < 8 * d + 8 = c.0 in let high : 8 * d < a + 8 * 0 = c.1 in omega arith)

pub none_granted : (st : State) (a : ℕ) → Granted st (place_at a 0)
none_granted st a b low high = absurd (let l : a ≤ b = low in let h : b < a + 0 = high in omega arith)

-- the same place by its length
pub as_whole : (p : PlaceValue) (n : ℕ) → 8 * n ≡ p.len → place_at p.addr (8 * n) ≡ p
as_whole p n e = ap (place_at p.addr) e

module _ (roots : FinMap name_cmp Root) (st : Storage) (agree : Agree roots st) where
  -- the doubleword after those of a place that are held has an address
  pub unheld_address : (o : Owners) (s a k : ℕ) → a % 8 ≡ 0 → a < 2147483648 → HeldPlain (machine_state roots st o) s (place_at a (8 * k)) → a + 8 * k < 2147483648
  unheld_address o s a k e low h = elim (cases_lt 0 k) [
    | inr l ↦ (let z : k ≡ 0 = omega arith in omega arith)
    | inl l ↦ (
        let d = a / 8 + k - 1 in
        let held : holder st d ≡ Some s = plain_back roots st o agree s (place_at a (8 * k)) h d (omega arith, omega arith) in
        let b = held_low st d (Some s) (step_storage roots st agree) held refl in
        let c : 8 * d + 8 ≤ 0x3000000 = b in omega arith)
  ]

  pub denied_address : (o : Owners) (a k : ℕ) → a < 2147483648 → Granted (machine_state roots st o) (place_at a k) → a + k < 2147483648
  denied_address o a k low h = elim (cases_lt 0 k) [
    | inr l ↦ (let z : k ≡ 0 = omega arith in omega arith)
    | inl l ↦ (
        let b = a + k - 1 in
        let held : is_some (holder st (b / 8)) ≡ true = granted_held st o (pools_of roots st) agree.parts.storage (stands roots st o agree) b (h b (omega arith) (omega arith)) in
        let c : 8 * (b / 8) + 8 ≤ 0x3000000 = held_low st (b / 8) (holder st (b / 8)) (step_storage roots st agree) refl held in omega arith)
  ]

-- the one after those that are held, where no more are
pub first_not_held : (st : State) (s : ℕ) (p : PlaceValue) (k n : ℕ) → IsWhole p → n ≡ k + 1 → 8 * n ≤ p.len → HeldPlain st s (place_at p.addr (8 * k)) → (HeldPlain st s (place_at p.addr (8 * n)) → ⊥)
    → IsUnheldIn st s p (p.addr / 8 + k)
first_not_held st s p k n whole e most front none =
    let w : p.addr % 8 ≡ 0 = whole.0 in record {
      inside = (omega arith, omega arith);
      unheld = λ held. none (λ d c. elim (cases_lt d (p.addr / 8 + k)) [
        | inl l ↦ front d ((let low : p.addr < 8 * d + 8 = c.0 in low), omega arith)
        | inr l ↦ (let high : 8 * d < p.addr + 8 * n = c.1 in let same : p.addr / 8 + k ≡ d = omega arith in subst (λ x. get st.held x ≡ Some (plain s)) same held)
      ]);
      before = λ d c l. front d ((let low : p.addr < 8 * d + 8 = c.0 in low), omega arith);
    }

pub first_not_granted : (st : State) (p : PlaceValue) (k n : ℕ) → n ≡ k + 1 → n ≤ p.len → Granted st (place_at p.addr k) → (Granted st (place_at p.addr n) → ⊥) → IsDeniedIn st p (p.addr + k)
first_not_granted st p k n e most front none = record {
  low = omega arith;
  inside = omega arith;
  denied = false_from_ne_true (granted st (p.addr + k)) (λ yes. none (λ b low high. elim (cases_lt b (p.addr + k)) [
    | inl l ↦ front b low l
    | inr l ↦ (let l1 : p.addr ≤ b = low in let h : b < p.addr + n = high in let same : p.addr + k ≡ b = omega arith in subst (λ x. granted st x ≡ true) same yes)
  ]));
  before = λ b low l. front b low l;
}
