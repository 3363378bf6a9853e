-- The search for a free cell.
use Rattle.std.proofs.Common.{◌≡◌, ℕ, ◌+◌, ◌-◌, ◌/◌, ◌%◌, ◌<◌, ◌≤◌, inl, inr, Bool, true, List, length, refl, sym, ap, ◌∙◌, subst, arith}
use Rattle.std.specs.Prelude.{◌==◌, slice_get, slice_index}
use Rattle.std.specs.Int.{bit_at}
use Rattle.std.specs.FinMap.{get}
use Rattle.std.proofs.lemmas.Bool.{cases_lt}
use Rattle.std.proofs.lemmas.Nat.Bits.{bit_at_ones}
use Rattle.mvs_model.specs.Finite.{count_below}
use Rattle.mvs_model.specs.Place.{PlaceValue, place_at}
use Rattle.mvs_model.specs.Storage.{Storage}
use Rattle.cell_pool.specs.Layout.{byte_of, next_at, count_at, taken_at, flag}
use Rattle.cell_pool.specs.Roots.{Root, part_addr, free_in, AreFull}
use Rattle.cell_pool.specs.Walk.{IsChain, AllTaken}
use Rattle.cell_pool.specs.Agree.{IsCounted}
use Rattle.cell_pool.proofs.Counted.{none_of_full, full_of_none}
use Rattle.cell_pool.proofs.Walking.{next_addr}
use borrow.Author.Count.{below_more}
use Rattle.cell_pool.proofs.Counts.{count_full}
use Rattle.cell_pool.proofs.Spelled.{lent_byte}
use Rattle.mvs_model.proofs.Below.{count_all}

pub full_bit : (b k : ℕ) → b ≡ 255 → k < 8 → (bit_at b k == 1) ≡ true
full_bit b k e l = ap (λ x. bit_at x k == 1) e ∙ ap (λ x. x == 1) (bit_at_ones 8 k l)

-- a flag of a list that was lent
pub lent_flag : (st : Storage) (p : PlaceValue) (a part n i : ℕ) (xs : List ℕ) → p ≡ place_at a n → a ≡ part + 16 → length xs ≡ p.len → ((k : ℕ) → k < p.len → slice_get xs k ≡ get st.bytes (p.addr + k)) → i / 8 < n
    → (bit_at (slice_index xs (i / 8)) (7 - i % 8) == 1) ≡ flag (byte_of st) part i
unfolding flag
lent_flag st p a part n i xs e f size each l =
    let is : p ≡ place_at (part + 16) n = e ∙ ap (λ b. place_at b n) f in
    let len : p.len ≡ n = ap (λ s. s.len) is in
    let addr : p.addr ≡ part + 16 = ap (λ s. s.addr) is in
    ap (λ b. bit_at b (7 - i % 8) == 1) (lent_byte st p.addr (i / 8) p.len xs size (omega arith) (each (i / 8) (omega arith)) ∙ ap (λ b. byte_of st (b + i / 8)) addr)

-- not each flag is set where not each cell is taken
pub not_all : (count : ℕ) (f : ℕ → Bool) → count_below count f < count → ((i : ℕ) → i < count → f i ≡ true) → ⊥
not_all count f l all = let e : count_below count f ≡ count = count_all count f all in absurd (omega arith)

pub low_cell : (count cell : ℕ) (f : ℕ → Bool) → count_below count f < count → ((i : ℕ) → i < cell → f i ≡ true) → cell < count
low_cell count cell f l all = elim (cases_lt cell count) [ inl h ↦ h | inr h ↦ absurd (not_all count f l (λ i k. all i (omega arith))) ]

module _ (st : Storage) (r : Root) (ch : IsChain st r) (j : ℕ) (l : j < r.count) (a : ℕ) (e : a ≡ part_addr (byte_of st) r.first j) where
  pub counts : taken_at (byte_of st) a ≡ count_below (count_at (byte_of st) a) (flag (byte_of st) a)
  counts = subst (λ b. taken_at (byte_of st) b ≡ count_below (count_at (byte_of st) b) (flag (byte_of st) b)) (sym e) (ch.laid j l).taken

  -- where each cell of a part is taken
  pub all_set : (count taken : ℕ) → count ≡ count_at (byte_of st) a → taken ≡ taken_at (byte_of st) a → count ≤ taken
      → (i : ℕ) → i < count_at (byte_of st) (part_addr (byte_of st) r.first j) → flag (byte_of st) (part_addr (byte_of st) r.first j) i ≡ true
  all_set count taken f g full i low =
      let c = counts in
      subst (λ b. flag (byte_of st) b i ≡ true) e (count_full (count_at (byte_of st) a) i (flag (byte_of st) a) (subst (λ b. i < count_at (byte_of st) b) (sym e) low) (omega arith))

  pub fewer : (count taken : ℕ) → count ≡ count_at (byte_of st) a → taken ≡ taken_at (byte_of st) a → taken < count → count_below count (flag (byte_of st) a) < count
  fewer count taken f g less = let c = counts in subst (λ n. count_below n (flag (byte_of st) a) < n) (sym f) (omega arith)

-- a part that the search meets: all parts before it are full
pub record IsMet (m : ℕ → ℕ) (r : Root) (step a : ℕ) : Type 0 where
  pub number : ℕ
  pub later : step ≤ number
  pub most : number ≤ r.count
  pub addr : a ≡ part_addr m r.first number
  pub full : AreFull m r.first number

module _ (st : Storage) (r : Root) (counted : IsCounted (byte_of st) r) where
  pub open_met : (a : ℕ) → a ≡ r.open_part → IsMet (byte_of st) r 0 a
  open_met a e = record { number = counted.number; later = omega arith; most = (let l = counted.is_part in omega arith); addr = e ∙ counted.open_part; full = counted.full }

  module _ (some : 1 ≤ r.free) where
    -- it is one of the pool, where some cell is free
    pub is_met : (step a : ℕ) (w : IsMet (byte_of st) r step a) → w.number < r.count
    is_met step a w = elim (cases_lt w.number r.count) [
      | inl l ↦ l
      | inr l ↦
          let none : free_in (byte_of st) r.first r.count ≡ 0 = none_of_full (byte_of st) r.first r.count (λ j h. w.full j (omega arith)) in
          let e = counted.free in absurd (omega arith)
    ]

    pub next_met : (step a b count taken : ℕ) (w : IsMet (byte_of st) r step a) → b ≡ next_at (byte_of st) a → count ≡ count_at (byte_of st) a → taken ≡ taken_at (byte_of st) a → count ≤ taken → IsMet (byte_of st) r (step + 1) b
    next_met step a b count taken w e f g h = record {
      number = w.number + 1;
      later = (let l = w.later in omega arith);
      most = (let l = is_met step a w in omega arith);
      addr = e ∙ ap (next_at (byte_of st)) w.addr ∙ sym (next_addr (byte_of st) r.first w.number);
      full = below_more _ _ w.full (let c = f ∙ ap (count_at (byte_of st)) w.addr in let t = g ∙ ap (taken_at (byte_of st)) w.addr in omega arith);
    }

-- where no cell is free each is taken
pub all_taken : (st : Storage) (r : Root) → IsChain st r → IsCounted (byte_of st) r → r.free ≡ 0 → AllTaken st r
all_taken st r ch c none j i l low =
    all_set st r ch j l (part_addr (byte_of st) r.first j) refl (count_at (byte_of st) (part_addr (byte_of st) r.first j)) (taken_at (byte_of st) (part_addr (byte_of st) r.first j)) refl refl (full_of_none (byte_of st) r.first r.count (sym c.free ∙ none) j l) i low
