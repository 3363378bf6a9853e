-- What is held once doublewords of a page are taken or given back.
use Rattle.std.proofs.Common.{◌≡◌, ◌∙◌, ℕ, ◌+◌, ◌-◌, ◌*◌, ◌/◌, ◌%◌, ◌<◌, ◌≤◌, ◌↔◌, Bool, true, false, cond, List, length, get_or, set, refl, sym, ap, subst, inl, inr, arith}
use Rattle.std.proofs.lemmas.Bool.{both_ways, cases_Bool, cases_eq, cond-true, cond-false, eq-eqb, ne_eqb}
use Rattle.std.proofs.lemmas.List.{get_or_default, length-set}
use Rattle.free_queue.specs.Runs.{Covers, Gives, IsFree, Keeps, NoneFree, Outside, Queue, Run, Same, Takes, Within, page_of}
use Rattle.free_queue.proofs.Free.{free_covers, free_whole}
use Rattle.region_raw.specs.Pages.{Pages, byte_of, is_open}
use Rattle.subpool_store.specs.Bits.{in_range}
use Rattle.subpool_store.specs.Edits.{IsMarked}
use Rattle.subpool_store.specs.Memory.{IsMemory, KeepsHeld, MemoryState, Turns, held_bits, is_held, memory_of}
use Rattle.subpool_store.proofs.PageChange.{marked_held, one_here, one_moved, one_other}
use Rattle.subpool_store.proofs.Queued.{free_is, held_at, same_test}
use Rattle.subpool_store.proofs.PageParts.{inside_page, other_page, outside_part}
use Rattle.subpool_store.proofs.Ranges.{in_range_true}
use Rattle.region_raw.proofs.PageRows.{open_within}

-- a page whose queue changes stays open
pub keeps_turns : (ps ps' : Pages) (page : ℕ) → is_open ps page ≡ true → Keeps ps page ps' → Turns ps page true ps'
keeps_turns ps ps' page there keeps = record {
  sizes = keeps.sizes;
  pages = λ p. elim (cases_eq p page) [
    | inl is ↦ keeps.pages p ∙ ap (is_open ps) is ∙ there ∙ sym (cond-true _ _ _ (eq-eqb p page is))
    | inr other ↦ keeps.pages p ∙ sym (cond-false _ _ _ (ne_eqb p page other))
  ];
  others = keeps.others;
}

-- bytes of other pages stay, and so do those of the page's doublewords that are the same
pub stays_same : (ps ps' : Pages) (held : List Bool) (page : ℕ) → Keeps ps page ps' → ((i : ℕ) → i / 512 ≡ page → get_or held i false ≡ true → Same (page_of ps page) (page_of ps' page) (8 * (i % 512))) → KeepsHeld held ps ps'
stays_same ps ps' held page keeps same = record {
  sizes = keeps.sizes;
  pages = keeps.pages;
  stays = λ k set. elim (cases_eq (k / 4096) page) [
    | inr other ↦ keeps.others k other
    | inl here ↦
        let spot : 4096 * page + (8 * (k / 8 % 512) + k % 8) ≡ k = omega (arith, here) in
        sym (ap (byte_of ps') spot) ∙ same (k / 8) (omega (arith, here)) set (omega arith) (k % 8) (omega arith) ∙ ap (byte_of ps) spot
  ];
}

module _ (ps : Pages) (heads : List ℕ) (m : MemoryState) (inv : IsMemory ps heads) (is : memory_of ps heads ≡ m) where
  pub bit_is : (i : ℕ) → get_or m.held i false ≡ is_held ps heads i
  bit_is i = sym (ap (λ g. get_or g.held i false) is) ∙ held_at ps heads inv.sizes i

  module _ (page from to at n h : ℕ) (some : from < to) (first : 512 * page ≤ from) (last : to ≤ 512 * page + 512) (at_is : at ≡ 8 * (from - 512 * page)) (n_is : n ≡ 8 * (to - from)) (h_is : h ≡ get_or heads page h)
      (there : is_open ps page ≡ true) where
    pub head_low : page < length heads
    head_low = omega (arith, open_within ps page there, inv.sizes)

    abbrev pub runs : List Run
    runs = (inv.queues page there).0

    queue : Queue 0 (page_of ps page) (get_or heads page 0) runs
    queue = (inv.queues page there).1

    queue_h : Queue 0 (page_of ps page) h runs
    queue_h = subst (λ k. Queue 0 (page_of ps page) k runs) (sym (h_is ∙ get_or_default heads page h 0 head_low)) queue

    -- a doubleword of the page is free where it lies in a run
    pub free_bit : (i : ℕ) → i / 512 ≡ page → get_or m.held i false ≡ false ↔ IsFree runs (8 * (i % 512))
    free_bit i here = let test = free_is ps heads page runs there queue i here in (λ none. test.0 (sym (bit_is i) ∙ none), λ free. bit_is i ∙ test.1 free)

    -- a byte among these lies in a doubleword among these
    index : (d : ℕ) → Within at n d → ((512 * page + d / 8) / 512 ≡ page) × (from ≤ 512 * page + d / 8) × (512 * page + d / 8 < to) × (8 * ((512 * page + d / 8) % 512) ≡ 8 * (d / 8))
    index d within = (omega (arith, within.0, within.1), omega (arith, within.0), omega (arith, within.0, within.1), omega (arith, within.0, within.1))

    abbrev inside : (i : ℕ) → from ≤ i → i < to → (i / 512 ≡ page) × Within at n (8 * (i % 512))
    inside = inside_page page from to at n some first last at_is n_is

    abbrev outside : (i : ℕ) → i / 512 ≡ page → in_range from to i ≡ false → Outside at n (8 * (i % 512))
    outside = outside_part page from to at n some first last at_is n_is

    abbrev in_page : (i : ℕ) → (i / 512 ≡ page → ⊥) → in_range from to i ≡ false
    in_page = other_page page from to at n some first last at_is n_is

    module _ (free : (i : ℕ) → from ≤ i → i < to → get_or m.held i false ≡ false) where
      pub take_covers : Covers runs at n
      take_covers = free_covers 0 runs at n queue.0 (omega arith) (λ d within.
          let i = index d within in
          (free_whole 0 runs d queue.0).1 (subst (IsFree runs) i.3 ((free_bit (512 * page + d / 8) i.0).0 (free (512 * page + d / 8) i.1 i.2))))

      pub take_requires : (rs : List Run) × Queue 0 (page_of ps page) h rs × Covers rs at n
      take_requires = (runs, queue_h, take_covers)

      module _ (ps' : Pages) (h' : ℕ) (keeps : Keeps ps page ps') (takes : (rs : List Run) → Queue 0 (page_of ps page) h rs → Covers rs at n → Takes 0 rs at n (page_of ps' page) h') where
        taken : Takes 0 runs at n (page_of ps' page) h'
        taken = takes runs queue_h take_covers

        turns : Turns ps page true ps'
        turns = keeps_turns ps ps' page there keeps

        pub take_inv : IsMemory ps' (set heads page h')
        take_inv = one_moved ps ps' heads page h' inv head_low true turns (λ _. (taken.0, taken.1))

        take_bit : (i : ℕ) → is_held ps' (set heads page h') i ≡ cond (in_range from to i) true (is_held ps heads i)
        take_bit i = elim (cases_eq (i / 512) page) [
          | inr other ↦ one_other ps ps' heads page h' inv head_low true turns (λ _. (taken.0, taken.1)) i other ∙ sym (cond-false _ _ _ (in_page i other))
          | inl here ↦
              let new = one_here ps ps' heads page h' inv head_low true turns (λ _. (taken.0, taken.1)) taken.0 refl taken.1 i here in
              let old = free_is ps heads page runs there queue i here in
              elim (cases_Bool (in_range from to i)) [
                | inl hit ↦ same_test _ true (λ none. absurd (apart i hit ((taken.2 (8 * (i % 512))).0 (new.0 none)).1)) (λ none. absurd (both_ways _ none refl)) ∙ sym (cond-true _ _ _ hit)
                | inr out ↦ same_test _ _ (λ none. old.1 ((taken.2 (8 * (i % 512))).0 (new.0 none)).0) (λ none. new.1 ((taken.2 (8 * (i % 512))).1 (old.0 none, outside i here out))) ∙ sym (cond-false _ _ _ out)
              ]
        ] where
          apart : (i : ℕ) → in_range from to i ≡ true → Outside at n (8 * (i % 512)) → ⊥
          apart i hit out = let at = in_range_true from to i hit in let w = inside i at.0 at.1 in elim out [ inl low ↦ omega (arith, low, w.1.0) | inr past ↦ omega (arith, past, w.1.1) ]

        pub take_marked : IsMarked m.held from to true (held_bits ps' (set heads page h'))
        take_marked = marked_held ps ps' heads (set heads page h') m inv is take_inv (length-set heads page h') from to true take_bit

        pub take_keeps : ((rs : List Run) → Queue 0 (page_of ps page) h rs → Covers rs at n → (d : ℕ) → (IsFree rs d → ⊥) → Same (page_of ps page) (page_of ps' page) d) → KeepsHeld m.held m.bytes ps'
        take_keeps same = subst (λ g. KeepsHeld m.held g.bytes ps') is (stays_same ps ps' m.held page keeps (λ i here held. same runs queue_h take_covers (8 * (i % 512)) (λ free. both_ways _ ((free_bit i here).1 free) held)))

    module _ (held : (i : ℕ) → from ≤ i → i < to → get_or m.held i false ≡ true) where
      pub give_none : NoneFree runs at n
      give_none d within free =
          let i = index d within in
          both_ways _ ((free_bit (512 * page + d / 8) i.0).1 (subst (IsFree runs) (sym i.3) ((free_whole 0 runs d queue.0).0 free))) (held (512 * page + d / 8) i.1 i.2)

      pub give_requires : (rs : List Run) × Queue 0 (page_of ps page) h rs × NoneFree rs at n
      give_requires = (runs, queue_h, give_none)

      module _ (ps' : Pages) (h' : ℕ) (keeps : Keeps ps page ps') (gives : (rs : List Run) → Queue 0 (page_of ps page) h rs → NoneFree rs at n → Gives 0 rs at n (page_of ps' page) h') where
        given : Gives 0 runs at n (page_of ps' page) h'
        given = gives runs queue_h give_none

        turned : Turns ps page true ps'
        turned = keeps_turns ps ps' page there keeps

        pub give_inv : IsMemory ps' (set heads page h')
        give_inv = one_moved ps ps' heads page h' inv head_low true turned (λ _. (given.0, given.1))

        give_bit : (i : ℕ) → is_held ps' (set heads page h') i ≡ cond (in_range from to i) false (is_held ps heads i)
        give_bit i = elim (cases_eq (i / 512) page) [
          | inr other ↦ one_other ps ps' heads page h' inv head_low true turned (λ _. (given.0, given.1)) i other ∙ sym (cond-false _ _ _ (in_page i other))
          | inl here ↦
              let new = one_here ps ps' heads page h' inv head_low true turned (λ _. (given.0, given.1)) given.0 refl given.1 i here in
              let old = free_is ps heads page runs there queue i here in
              elim (cases_Bool (in_range from to i)) [
                | inl hit ↦ let at = in_range_true from to i hit in new.1 ((given.2 (8 * (i % 512))).1 (inr (inside i at.0 at.1).1)) ∙ sym (cond-true _ _ _ hit)
                | inr out ↦
                    same_test _ _
                    (λ none. elim ((given.2 (8 * (i % 512))).0 (new.0 none)) [ inl free ↦ old.1 free | inr within ↦ absurd (apart (8 * (i % 512)) (outside i here out) within) ])
                    (λ none. new.1 ((given.2 (8 * (i % 512))).1 (inl (old.0 none))))
                    ∙ sym (cond-false _ _ _ out)
              ]
        ] where
          apart : (d : ℕ) → Outside at n d → Within at n d → ⊥
          apart d out within = elim out [ inl low ↦ omega (arith, low, within.0) | inr past ↦ omega (arith, past, within.1) ]

        pub give_marked : IsMarked m.held from to false (held_bits ps' (set heads page h'))
        give_marked = marked_held ps ps' heads (set heads page h') m inv is give_inv (length-set heads page h') from to false give_bit

        pub give_keeps : ((rs : List Run) → Queue 0 (page_of ps page) h rs → NoneFree rs at n → (d : ℕ) → (IsFree rs d → ⊥) → (Within at n d → ⊥) → Same (page_of ps page) (page_of ps' page) d) → KeepsHeld (held_bits ps' (set heads page h')) m.bytes ps'
        give_keeps same = subst (λ g. KeepsHeld (held_bits ps' (set heads page h')) g.bytes ps') is (stays_same ps ps' (held_bits ps' (set heads page h')) page keeps (λ i here held.
            let new = one_here ps ps' heads page h' inv head_low true turned (λ _. (given.0, given.1)) given.0 refl given.1 i here in
            let bit : is_held ps' (set heads page h') i ≡ true = sym (held_at ps' (set heads page h') give_inv.sizes i) ∙ held in
            same runs queue_h give_none (8 * (i % 512))
            (λ free. both_ways _ (new.1 ((given.2 (8 * (i % 512))).1 (inl free))) bit)
            (λ within. both_ways _ (new.1 ((given.2 (8 * (i % 512))).1 (inr within))) bit)))
