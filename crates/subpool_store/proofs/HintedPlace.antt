-- A place at a hinted address, in place of one that was found.
use Rattle.std.proofs.Common.{◌≡◌, ℕ, ◌+◌, ◌*◌, ◌%◌, ◌≤◌, Option, inl, inr, sym, subst, arith}
use Rattle.std.proofs.lemmas.Bool.{cases_lt}
use Rattle.mvs_model.specs.Place.{PlaceValue, place_at}
use Rattle.mvs_model.specs.Storage.{Chosen, IsRun, Open, Places, Regions, Storage, holder}
use Rattle.mvs_model.specs.Want.{WantValue}
use Rattle.subpool_store.specs.Region.{RegionState}
use Rattle.subpool_store.specs.Joined.{IsStore, store_of}
use Rattle.subpool_store.proofs.Choice.{open_split}

-- two places that are chosen are of one length
pub one_length : (r : Regions) (h : ℕ → Option ℕ) (s : ℕ) (want : WantValue) (p q : PlaceValue) → Chosen r h s want p → Chosen r h s want q → q.len ≡ p.len
one_length r h s want p q x y = elim (cases_lt p.len q.len) [
  | inl l ↦ absurd (x.greatest q.len q.addr l y.length y.placed)
  | inr g ↦ elim (cases_lt q.len p.len) [ inl l ↦ absurd (y.greatest p.len p.addr l x.length x.placed) | inr f ↦ omega (arith, g, f) ]
]

-- so one that is chosen at the address is this one
pub chosen_is : (r : Regions) (h : ℕ → Option ℕ) (s : ℕ) (want : WantValue) (p q : PlaceValue) (a : ℕ) → Chosen r h s want p → Chosen r h s want q → q.addr ≡ a → place_at a p.len ≡ q
chosen_is r h s want p q a x y e = let len = one_length r h s want p q x y in λ i. record { addr = sym e i; len = sym len i }

-- and one that is chosen at the address serves
pub chosen_serves : (r : Regions) (h : ℕ → Option ℕ) (s : ℕ) (want : WantValue) (p q : PlaceValue) (a : ℕ) → Chosen r h s want p → Chosen r h s want q → q.addr ≡ a → Places r h s want p.len a
chosen_serves r h s want p q a x y e = subst (λ z. Places r h s want z.len z.addr) (sym (chosen_is r h s want p q a x y e)) y.placed

-- an open place of whole doublewords is a run
pub open_run : (b a : RegionState) (fill s : ℕ) (st : Storage) (both : IsStore b a) → store_of b a fill ≡ st → (p : PlaceValue) → p.addr % 8 ≡ 0 → p.len % 8 ≡ 0 → 8 ≤ p.len → Open st.regions (holder st) s p → IsRun p
open_run b a fill s st both is p on whole some opened =
    let first_b : b.first ≡ 3072 = both.first_below in
    let few_b : b.pages ≤ 2048 = both.few_below in
    let first_a : a.first ≡ 2097152 = both.first_above in
    let few_a : a.pages ≤ 8192 = both.few_above in
    elim (open_split b a fill s both p some (subst (λ t. Open t.regions (holder t) s p) (sym is) opened)) [
      | inl down ↦ let to : p.addr + p.len ≤ 8 * b.first + 4096 * b.pages = down.0.inside.1 in record { whole = (on, whole); some = some; short = omega arith; one_side = λ l. omega arith }
      | inr up ↦ let to : p.addr + p.len ≤ 8 * a.first + 4096 * a.pages = up.0.inside.1 in let low : 0x1000000 ≤ p.addr = up.1 in record { whole = (on, whole); some = some; short = omega arith; one_side = λ l. absurd (omega arith) }
    ]
