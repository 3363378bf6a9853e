-- The parts of a pool are given back, one after another.
use Rattle.std.proofs.Common.{◌≡◌, ℕ, suc, ◌+◌, ◌/◌, ◌<◌, ◌≤◌, Bool, true, false, cond, Option, None, refl, sym, ap, ◌∙◌, subst, arith}
use Rattle.std.specs.Prelude.{◌||◌, unwrap_or}
use Rattle.std.specs.FinMap.{get}
use Rattle.mvs_model.specs.Finite.{any_below}
use Rattle.mvs_model.specs.Place.{place_at}
use Rattle.mvs_model.specs.Storage.{Storage, IsStorage, IsWhole, HeldBy, Covers, covers, has_address, Release}
use Rattle.mvs_model.specs.Pools.{part_length, in_parts}
use Rattle.mvs_model.proofs.StorageLaws.{covers_is, covers_from}
use Rattle.mvs_model.proofs.CellPlaces.{whole_has}
use Rattle.mvs_model.proofs.TakenCells.{never, same_test, part_found, part_from}
use Rattle.cell_pool.specs.Layout.{byte_of, count_at, next_at, head_length}
use Rattle.cell_pool.specs.Roots.{Root, part_addr, part_at, part_of, pool_of}
use Rattle.cell_pool.specs.Walk.{IsChain}
use Rattle.cell_pool.specs.Release.{HoldsPart, in_first, DropsParts}
use Rattle.cell_pool.proofs.Chains.{part_contained, contained_part}
use Rattle.cell_pool.proofs.Frame.{next_same, count_is}
use Rattle.mvs_model.proofs.Below.{some_below, below_some}

-- no part is the first of none
pub in_none : (m : ℕ → ℕ) (r : Root) (d : ℕ) → in_first m r 0 d ≡ false
unfolding in_first any_below
in_none m r d = refl

-- one part more
pub in_next : (m : ℕ → ℕ) (r : Root) (n d : ℕ) → in_first m r (n + 1) d ≡ (covers (part_of m r n).place d || in_first m r n d)
unfolding in_first any_below
in_next m r n d = ap (any_below (λ j. covers (part_of m r j).place d)) (let e : n + 1 ≡ suc n = omega arith in e)

-- a part that has the doubleword, and its number
pub first_found : (m : ℕ → ℕ) (r : Root) (n d : ℕ) → in_first m r n d ≡ true → (j : ℕ) × (j < n) × Covers (part_of m r j).place d
unfolding in_first
first_found m r n d e = let f = below_some (λ j. covers (part_of m r j).place d) n e in (f.0, f.1, covers_is (part_of m r f.0).place d f.2)

pub first_from : (m : ℕ → ℕ) (r : Root) (n j d : ℕ) → j < n → Covers (part_of m r j).place d → in_first m r n d ≡ true
unfolding in_first
first_from m r n j d l c = some_below (λ j. covers (part_of m r j).place d) n j l (covers_from (part_of m r j).place d c)

-- all parts are those of the pool
pub in_all : (m : ℕ → ℕ) (r : Root) (d : ℕ) → in_first m r r.count d ≡ in_parts (pool_of m r) d
in_all m r d = same_test _ _ there back where
  there : in_first m r r.count d ≡ true → in_parts (pool_of m r) d ≡ true
  there e = let f = first_found m r r.count d e in part_from (pool_of m r) d (part_of m r f.0) (part_contained m r f.0 f.1) f.2

  back : in_parts (pool_of m r) d ≡ true → in_first m r r.count d ≡ true
  back e =
      let f = part_found (pool_of m r) d e in
      let j = contained_part m r f.0 f.1 in
      first_from m r r.count j.0 d j.1 (subst (λ p. Covers p.place d) (sym j.2) f.2)

-- before the first part is given back
pub drops_none : (st : Storage) (r : Root) → IsStorage st → DropsParts st r 0 st
drops_none st r is = record {
  storage = is;
  regions = refl;
  held = λ d. sym (ap (λ b. cond b None (get st.held d)) (in_none (byte_of st) r d));
  bytes = λ a. sym (ap (λ b. cond b None (get st.bytes a)) (in_none (byte_of st) r (a / 8)));
}

module _ (old : Storage) (r : Root) (ch : IsChain old r) (n : ℕ) (l : n < r.count) (now : Storage) (drops : DropsParts old r n now) where
  -- the next part is none of those that are gone
  not_yet : (d : ℕ) → Covers (part_of (byte_of old) r n).place d → in_first (byte_of old) r n d ≡ false
  not_yet d c = never _ (λ e. let f = first_found (byte_of old) r n d e in ch.apart f.0 n f.1 l d f.2 c)

  same_byte : (x : ℕ) → Covers (part_of (byte_of old) r n).place (x / 8) → byte_of now x ≡ byte_of old x
  same_byte x c = ap (λ v. unwrap_or v 0) (drops.bytes x ∙ ap (λ b. cond b None (get old.bytes x)) (not_yet (x / 8) c))

  same_head : (x : ℕ) → part_addr (byte_of old) r.first n ≤ x → x < part_addr (byte_of old) r.first n + head_length (count_at (byte_of old) (part_addr (byte_of old) r.first n)) → byte_of now x ≡ byte_of old x
  same_head x low high = same_byte x (omega arith, omega arith)

  count_now : count_at (byte_of now) (part_addr (byte_of old) r.first n) ≡ count_at (byte_of old) (part_addr (byte_of old) r.first n)
  count_now = count_is (byte_of old) (byte_of now) (part_addr (byte_of old) r.first n) same_head

  next_now : next_at (byte_of now) (part_addr (byte_of old) r.first n) ≡ next_at (byte_of old) (part_addr (byte_of old) r.first n)
  next_now = next_same (byte_of old) (byte_of now) (part_addr (byte_of old) r.first n) same_head

  place_now : (part_at (byte_of now) r.cell_size (part_addr (byte_of old) r.first n)).place ≡ (part_of (byte_of old) r n).place
  place_now = ap (λ k. place_at (part_addr (byte_of old) r.first n) (part_length r.cell_size k)) count_now

  module _ (a : ℕ) (e : a ≡ part_addr (byte_of old) r.first n) where
    -- it stands as before
    pub stands_at : HoldsPart now r a
    stands_at = subst (HoldsPart now r) (sym e) (record {
      few = subst (λ k. k ≤ 65536) (sym count_now) (ch.laid n l).few;
      low = subst (λ k. part_addr (byte_of old) r.first n + part_length r.cell_size k ≤ 0x3000000) (sym count_now) (ch.low n l);
      whole = subst IsWhole (sym place_now) (ch.whole n l);
      held = subst (HeldBy now r.subpool) (sym place_now) (λ d c. drops.held d ∙ ap (λ b. cond b None (get old.held d)) (not_yet d c) ∙ ch.held n l d c);
    })

    pub next_is : next_at (byte_of now) a ≡ next_at (byte_of old) (part_addr (byte_of old) r.first n)
    next_is = ap (next_at (byte_of now)) e ∙ next_now

    -- and then it is gone too
    pub drops_more : (new : Storage) → Release now r.subpool (part_at (byte_of now) r.cell_size a).place new → IsStorage new → DropsParts old r (n + 1) new
    drops_more new g is = record {
      storage = is;
      regions = g.regions ∙ drops.regions;
      held = λ d.
          g.held d ∙ (λ i. cond (covers (place i) d) None (drops.held d i))
          ∙ joined (covers (part_of (byte_of old) r n).place d) (in_first (byte_of old) r n d) (get old.held d) ∙ sym (ap (λ b. cond b None (get old.held d)) (in_next (byte_of old) r n d));
      bytes = λ x.
          g.bytes x ∙ (λ i. cond (has_address (place i) x) None (drops.bytes x i))
          ∙ ap (λ b. cond b None (cond (in_first (byte_of old) r n (x / 8)) None (get old.bytes x))) (whole_has (part_of (byte_of old) r n).place x (ch.whole n l))
          ∙ joined (covers (part_of (byte_of old) r n).place (x / 8)) (in_first (byte_of old) r n (x / 8)) (get old.bytes x) ∙ sym (ap (λ b. cond b None (get old.bytes x)) (in_next (byte_of old) r n (x / 8)));
    } where
      place : (part_at (byte_of now) r.cell_size a).place ≡ (part_of (byte_of old) r n).place
      place = ap (λ b. (part_at (byte_of now) r.cell_size b).place) e ∙ place_now

      joined : {X : Type 0} → (b c : Bool) (v : Option X) → cond b None (cond c None v) ≡ cond (b || c) None v
      joined true c v = refl
      joined false c v = refl
