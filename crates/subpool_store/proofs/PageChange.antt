-- What is held once a page is opened or closed, or doublewords of it are taken or given back.
use Rattle.std.proofs.Common.{◌≡◌, ◌∙◌, ℕ, ◌+◌, ◌*◌, ◌/◌, ◌%◌, ◌<◌, ◌≤◌, ◌↔◌, Bool, true, false, cond, List, Option, None, is_some, length, get_or, set, refl, sym, ap, subst, inl, inr, arith}
use Rattle.std.proofs.lemmas.Bool.{both_ways, cases_eq, cases_lt, cond-true, cond-false, eq-eqb, ne_eqb}
use Rattle.std.proofs.lemmas.List.{ext_get_or, get_or-set_other, get_or-set_same, length-set}
use Rattle.free_queue.specs.Runs.{IsFree, Keeps, Queue, Run, page_of}
use Rattle.region_raw.specs.Pages.{Pages, byte_in, is_open}
use Rattle.subpool_store.specs.Bits.{in_range}
use Rattle.subpool_store.specs.Edits.{IsMarked}
use Rattle.subpool_store.specs.Memory.{IsMemory, MemoryState, Stays, Turns, held_bits, is_held, memory_of}
use Rattle.subpool_store.proofs.Queued.{closed_free, free_is, held_at, held_open, held_size, moved, other_held, others_frame}
use Rattle.subpool_store.proofs.Ranges.{in_range_from, out_of_range_from}

-- a page is opened or closed, and no other
pub set_turns : (ps : Pages) (page : ℕ) (row : Option (List ℕ)) → page < length ps → Turns ps page (is_some row) (set ps page row)
set_turns ps page row low = record {
  sizes = length-set ps page row;
  pages = λ p. elim (cases_eq p page) [
    | inl is ↦ ap (λ q. is_some (get_or (set ps page row) q None)) is ∙ ap is_some (get_or-set_same ps page row None low) ∙ sym (cond-true _ _ _ (eq-eqb p page is))
    | inr other ↦ ap is_some (get_or-set_other ps page p row None other) ∙ sym (cond-false _ _ _ (ne_eqb p page other))
  ];
  others = λ k other. ap (λ o. byte_in o (k % 4096)) (get_or-set_other ps page (k / 4096) row None other);
}

-- then the queue of that page is written
pub turns_keeps : (ps mid new : Pages) (page : ℕ) (b : Bool) → Turns ps page b mid → Keeps mid page new → Turns ps page b new
turns_keeps ps mid new page b turns keeps = record {
  sizes = keeps.sizes ∙ turns.sizes;
  pages = λ p. keeps.pages p ∙ turns.pages p;
  others = λ k other. keeps.others k other ∙ turns.others k other;
}

module _ (ps ps' : Pages) (page : ℕ) (b : Bool) (turns : Turns ps page b ps') where
  pub turned_here : is_open ps' page ≡ b
  turned_here = turns.pages page ∙ cond-true _ _ _ (eq-eqb page page refl)

  pub turned_other : (q : ℕ) → (q ≡ page → ⊥) → is_open ps' q ≡ is_open ps q
  turned_other q other = turns.pages q ∙ cond-false _ _ _ (ne_eqb q page other)

-- the queue of a page is another one, and nothing else changes
module _ (ps ps' : Pages) (heads : List ℕ) (page h : ℕ) (inv : IsMemory ps heads) (within : page < length heads) (b : Bool) (turns : Turns ps page b ps')
    (here : b ≡ true → (rs : List Run) × Queue 0 (page_of ps' page) h rs) where
  head_here : get_or (set heads page h) page 0 ≡ h
  head_here = get_or-set_same heads page h 0 within

  pub one_moved : IsMemory ps' (set heads page h)
  one_moved =
      moved ps ps' heads (set heads page h) page inv turns.sizes (length-set heads page h) (turned_other ps ps' page b turns) (λ q other. get_or-set_other heads page q h 0 other)
      (λ q other there rs queue. others_frame ps ps' page turns.others q other 0 (get_or heads q 0) rs queue)
      (λ there. let found = here (sym (turned_here ps ps' page b turns) ∙ there) in (found.0, subst (λ k. Queue 0 (page_of ps' page) k found.0) (sym head_here) found.1))

  pub one_other : (i : ℕ) → (i / 512 ≡ page → ⊥) → is_held ps' (set heads page h) i ≡ is_held ps heads i
  one_other =
      other_held ps ps' heads (set heads page h) page inv turns.sizes (length-set heads page h) (turned_other ps ps' page b turns) (λ q other. get_or-set_other heads page q h 0 other)
      (λ q other there rs queue. others_frame ps ps' page turns.others q other 0 (get_or heads q 0) rs queue)

  pub one_here : (rs : List Run) → b ≡ true → Queue 0 (page_of ps' page) h rs → (i : ℕ) → i / 512 ≡ page → is_held ps' (set heads page h) i ≡ false ↔ IsFree rs (8 * (i % 512))
  one_here rs there queue = free_is ps' (set heads page h) page rs (turned_here ps ps' page b turns ∙ there) (subst (λ k. Queue 0 (page_of ps' page) k rs) (sym head_here) queue)

-- the same is held where each doubleword is held as before
pub same_held : (ps ps' : Pages) (heads heads' : List ℕ) → IsMemory ps heads → IsMemory ps' heads' → length heads' ≡ length heads → ((i : ℕ) → is_held ps' heads' i ≡ is_held ps heads i) → held_bits ps' heads' ≡ held_bits ps heads
same_held ps ps' heads heads' inv inv' sizes each =
    ext_get_or false (held_bits ps' heads') (held_bits ps heads) (held_size ps' heads' ∙ ap (λ n. 512 * n) sizes ∙ sym (held_size ps heads))
    (λ i _. held_at ps' heads' inv'.sizes i ∙ each i ∙ sym (held_at ps heads inv.sizes i))

-- what is held is marked where each doubleword is
pub marked_held : (ps ps' : Pages) (heads heads' : List ℕ) (m : MemoryState) → IsMemory ps heads → memory_of ps heads ≡ m → IsMemory ps' heads' → length heads' ≡ length heads → (from to : ℕ) (v : Bool) →
    ((i : ℕ) → is_held ps' heads' i ≡ cond (in_range from to i) v (is_held ps heads i)) → IsMarked m.held from to v (held_bits ps' heads')
marked_held ps ps' heads heads' m inv is inv' sizes from to v each = subst (λ g. IsMarked g.held from to v (held_bits ps' heads')) is (record {
  sizes = held_size ps' heads' ∙ ap (λ n. 512 * n) sizes ∙ sym (held_size ps heads);
  each = λ i. held_at ps' heads' inv'.sizes i ∙ each i ∙ ap (cond (in_range from to i) v) (sym (held_at ps heads inv.sizes i));
})

-- a page is closed: nothing of it is held
module _ (ps ps' : Pages) (heads : List ℕ) (m : MemoryState) (inv : IsMemory ps heads) (is : memory_of ps heads ≡ m) (page : ℕ) (within : page < length ps) (ps_is : ps' ≡ set ps page None) where
  pub closed_turns : Turns ps page false ps'
  closed_turns = subst (Turns ps page false) (sym ps_is) (set_turns ps page None within)

  pub closed_inv : IsMemory ps' heads
  closed_inv =
      moved ps ps' heads heads page inv closed_turns.sizes refl (turned_other ps ps' page false closed_turns) (λ q other. refl)
      (λ q other there rs queue. others_frame ps ps' page closed_turns.others q other 0 (get_or heads q 0) rs queue)
      (λ there. absurd (both_ways _ (turned_here ps ps' page false closed_turns) there))

  pub closed_marked : IsMarked m.held (512 * page) (512 * page + 512) false (held_bits ps' heads)
  closed_marked = marked_held ps ps' heads heads m inv is closed_inv refl (512 * page) (512 * page + 512) false (λ i. elim (cases_eq (i / 512) page) [
    | inl here ↦ closed_free ps' heads i (ap (is_open ps') here ∙ turned_here ps ps' page false closed_turns) ∙ sym (cond-true _ _ _ (in_range_from (512 * page) (512 * page + 512) i (omega (arith, here)) (omega (arith, here))))
    | inr other ↦
        other_held ps ps' heads heads page inv closed_turns.sizes refl (turned_other ps ps' page false closed_turns) (λ q out. refl)
        (λ q out there rs queue. others_frame ps ps' page closed_turns.others q out 0 (get_or heads q 0) rs queue) i other
        ∙ sym (cond-false _ _ _ (out_of_range_from (512 * page) (512 * page + 512) i (λ low. past i other low)))
  ]) where
    past : (i : ℕ) → (i / 512 ≡ page → ⊥) → 512 * page ≤ i → 512 * page + 512 ≤ i
    past i other low = elim (cases_lt i (512 * page + 512)) [ inl high ↦ absurd (other (omega (arith, low, high))) | inr over ↦ over ]

  pub closed_bytes : Turns m.bytes page false ps'
  closed_bytes = subst (λ g. Turns g.bytes page false ps') is closed_turns

  pub closed_stays : Stays (held_bits ps' heads) m.bytes ps'
  closed_stays = subst (λ g. Stays (held_bits ps' heads) g.bytes ps') is (λ k set. closed_turns.others k (λ here.
      let page_is : k / 8 / 512 ≡ page = omega (arith, here) in
      both_ways _ (turned_here ps ps' page false closed_turns) (sym (ap (is_open ps') page_is) ∙ held_open ps' heads (k / 8) (sym (held_at ps' heads closed_inv.sizes (k / 8)) ∙ set))))
