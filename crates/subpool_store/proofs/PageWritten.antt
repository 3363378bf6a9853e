-- What is held stays so where bytes that are held are written.
use Rattle.std.proofs.Common.{◌≡◌, ◌∙◌, ℕ, ◌+◌, ◌*◌, ◌/◌, ◌%◌, ◌≤◌, true, false, List, length, take, get_or, refl, sym, ap, subst, inl, inr, arith}
use Rattle.std.proofs.lemmas.Bool.{both_ways, cases_eq, cases_lt}
use Rattle.std.proofs.lemmas.List.{length-take}
use Rattle.free_queue.specs.Runs.{IsFree, Queue, Run, Same, page_of}
use Rattle.free_queue.proofs.Free.{free_from}
use Rattle.region_raw.specs.Pages.{IsPart, Pages, Writes, is_open, with_part}
use Rattle.subpool_store.specs.Memory.{IsHeldPart, IsMemory, MemoryState, held_bits, is_held, memory_of}
use Rattle.subpool_store.specs.BorrowsMemory.{with_bytes}
use Rattle.subpool_store.proofs.PageChange.{same_held}
use Rattle.subpool_store.proofs.PageTaken.{bit_is}
use Rattle.subpool_store.proofs.Queued.{closed_free, closed_past, free_is, held_open, moved, other_held}

module _ (ps : Pages) (heads : List ℕ) (m : MemoryState) (inv : IsMemory ps heads) (is : memory_of ps heads ≡ m) (at n : ℕ) (part : IsHeldPart m.held at n) where
  -- what is held is a part
  pub held_part : IsPart ps at n
  held_part = (
    part.0,
    λ k from to.
        let page : k / 8 / 512 ≡ k / 4096 = omega arith in
        sym (ap (is_open ps) page) ∙ held_open ps heads (k / 8) (sym (bit_is ps heads m inv is (k / 8)) ∙ part.1 k from to),
  )

  module _ (ws : List ℕ) (short : length ws ≤ n) (ps' : Pages) (writes : Writes ps at ws ps') where
    -- no byte that is free is written
    free_stays : (q : ℕ) → is_open ps q ≡ true → (rs : List Run) → Queue 0 (page_of ps q) (get_or heads q 0) rs → (d : ℕ) → IsFree rs d → Same (page_of ps q) (page_of ps' q) d
    free_stays q there rs queue d free on i low =
        let inside = (free_from 0 rs d queue.0 free).1 in
        let page : (512 * q + d / 8) / 512 ≡ q = omega (arith, inside) in
        let spot : d ≡ 8 * ((512 * q + d / 8) % 512) = omega (arith, inside, on) in
        let none : is_held ps heads (512 * q + d / 8) ≡ false = (free_is ps heads q rs there queue (512 * q + d / 8) page).1 (subst (IsFree rs) spot free) in
        let index : (4096 * q + (d + i)) / 8 ≡ 512 * q + d / 8 = omega (arith, on, low) in
        writes.others (4096 * q + (d + i)) (λ from. elim (cases_lt (4096 * q + (d + i)) (at + length ws)) [
          | inr past ↦ past
          | inl before ↦ absurd (both_ways _ none (sym (bit_is ps heads m inv is (512 * q + d / 8)) ∙ sym (ap (λ j. get_or m.held j false) index) ∙ part.1 (4096 * q + (d + i)) from (omega (arith, before, short))))
        ])

    pub written_inv : IsMemory ps' heads
    written_inv =
        moved ps ps' heads heads (length ps) inv writes.sizes refl (λ q _. writes.pages q) (λ q _. refl) (λ q _. free_stays q)
        (λ there. absurd (both_ways _ (closed_past ps (length ps) (omega arith)) (sym (writes.pages (length ps)) ∙ there)))

    pub written_same : held_bits ps' heads ≡ held_bits ps heads
    written_same = same_held ps ps' heads heads inv written_inv refl (λ i. elim (cases_eq (i / 512) (length ps)) [
      | inr other ↦ other_held ps ps' heads heads (length ps) inv writes.sizes refl (λ q _. writes.pages q) (λ q _. refl) (λ q _. free_stays q) i other
      | inl past ↦
          let closed : is_open ps (i / 512) ≡ false = closed_past ps (i / 512) (omega (arith, past)) in
          closed_free ps' heads i (writes.pages (i / 512) ∙ closed) ∙ sym (closed_free ps heads i closed)
    ])

    pub written_held : held_bits ps' heads ≡ m.held
    written_held = written_same ∙ ap (λ g. g.held) is

  -- a loan of what is held leaves what is held
  module _ (writes : (ws : List ℕ) → Writes ps at ws (with_part ps at ws)) where
    short : (w : List ℕ) → length (take n w) ≤ n
    short w = omega (arith, length-take n w)

    pub lent_inv : (w : List ℕ) → IsMemory (with_part ps at (take n w)) heads
    lent_inv w = written_inv (take n w) (short w) (with_part ps at (take n w)) (writes (take n w))

    pub lends_memory : (w : List ℕ) → memory_of (with_part ps at (take n w)) heads ≡ with_bytes m at n w
    lends_memory w =
        (λ i. record { held = written_same (take n w) (short w) (with_part ps at (take n w)) (writes (take n w)) i; bytes = with_part ps at (take n w) })
        ∙ ap (λ g. with_bytes g at n w) is
