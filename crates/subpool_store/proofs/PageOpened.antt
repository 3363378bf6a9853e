-- What is held once a page is opened with some doublewords held, and the bytes of those.
use Rattle.std.proofs.Common.{◌≡◌, ◌∙◌, ℕ, ◌+◌, ◌-◌, ◌*◌, ◌/◌, ◌%◌, ◌<◌, ◌≤◌, true, false, cond, List, Some, None, length, get_or, set, replicate, refl, sym, ap, subst, inl, inr, arith}
use Rattle.std.proofs.lemmas.Bool.{both_ways, cases_Bool, cases_eq, cond-true, cond-false}
use Rattle.std.proofs.lemmas.List.{get_or-replicate, get_or-set_same, length-set}
use Rattle.free_queue.specs.Runs.{Keeps, Outside, Same, Takes, Within, page_of, whole_page}
use Rattle.region_raw.specs.Pages.{Pages, byte_in, byte_of, is_open}
use Rattle.subpool_store.specs.Bits.{in_range}
use Rattle.subpool_store.specs.Edits.{IsMarked}
use Rattle.subpool_store.specs.Memory.{IsFilled, IsMemory, MemoryState, Stays, Turns, held_bits, is_held, memory_of}
use Rattle.subpool_store.proofs.PageChange.{marked_held, one_here, one_moved, one_other, set_turns, turns_keeps}
use Rattle.subpool_store.proofs.PageParts.{inside_page, other_page, outside_part}
use Rattle.subpool_store.proofs.Queued.{closed_free, held_at, held_open, same_test}
use Rattle.subpool_store.proofs.Ranges.{in_range_true}

module _ (ps mid ps' : Pages) (heads : List ℕ) (m : MemoryState) (inv : IsMemory ps heads) (is : memory_of ps heads ≡ m) (page from to at n h value : ℕ) (within : page < length ps) (closed : is_open ps page ≡ false)
    (some : from < to) (first : 512 * page ≤ from) (last : to ≤ 512 * page + 512) (at_is : at ≡ 8 * (from - 512 * page)) (n_is : n ≡ 8 * (to - from))
    (mid_is : mid ≡ set ps page (Some (replicate 4096 value))) (keeps : Keeps mid page ps') where
  pub opened_turns : Turns ps page true ps'
  opened_turns = turns_keeps ps mid ps' page true (subst (Turns ps page true) (sym mid_is) (set_turns ps page (Some (replicate 4096 value)) within)) keeps

  head_within : page < length heads
  head_within = omega (arith, within, inv.sizes)

  pub opened_bytes : Turns m.bytes page true ps'
  opened_bytes = subst (λ g. Turns g.bytes page true ps') is opened_turns

  pub opened_stays : Stays m.held m.bytes ps'
  opened_stays = subst (λ g. Stays g.held g.bytes ps') is (λ k set. opened_turns.others k (λ here.
      let page_is : k / 8 / 512 ≡ page = omega (arith, here) in
      both_ways _ closed (sym (ap (is_open ps) page_is) ∙ held_open ps heads (k / 8) (sym (held_at ps heads inv.sizes (k / 8)) ∙ set))))

  -- the doublewords that are held keep the value with which the page was opened
  pub opened_filled : ((d : ℕ) → Within at n d → Same (page_of mid page) (page_of ps' page) d) → IsFilled from to value ps'
  opened_filled same k low high =
      let part = inside_page page from to at n some first last at_is n_is (k / 8) (omega (arith, low)) (omega (arith, high)) in
      let page_is : k / 4096 ≡ page = omega (arith, part.0) in
      let spot : 4096 * page + (8 * (k / 8 % 512) + k % 8) ≡ k = omega (arith, page_is) in
      sym (ap (byte_of ps') spot) ∙ same (8 * (k / 8 % 512)) part.1 (omega arith) (k % 8) (omega arith) ∙ ap (byte_of mid) spot
      ∙ ap (λ l. byte_in (get_or l (k / 4096) None) (k % 4096)) mid_is
      ∙ ap (λ q. byte_in (get_or (set ps page (Some (replicate 4096 value))) q None) (k % 4096)) page_is
      ∙ ap (λ o. byte_in o (k % 4096)) (get_or-set_same ps page (Some (replicate 4096 value)) None within)
      ∙ ap Some (get_or-replicate 4096 (k % 4096) value 0 (omega arith))

  module _ (takes : Takes 0 whole_page at n (page_of ps' page) h) where
    pub opened_inv : IsMemory ps' (set heads page h)
    opened_inv = one_moved ps ps' heads page h inv head_within true opened_turns (λ _. (takes.0, takes.1))

    opened_bit : (i : ℕ) → is_held ps' (set heads page h) i ≡ cond (in_range from to i) true (is_held ps heads i)
    opened_bit i = elim (cases_eq (i / 512) page) [
      | inr other ↦ one_other ps ps' heads page h inv head_within true opened_turns (λ _. (takes.0, takes.1)) i other ∙ sym (cond-false _ _ _ (other_page page from to at n some first last at_is n_is i other))
      | inl here ↦
          let new = one_here ps ps' heads page h inv head_within true opened_turns (λ _. (takes.0, takes.1)) takes.0 refl takes.1 i here in
          elim (cases_Bool (in_range from to i)) [
            | inl hit ↦ same_test _ true (λ none. absurd (apart i hit ((takes.2 (8 * (i % 512))).0 (new.0 none)).1)) (λ none. absurd (both_ways _ none refl)) ∙ sym (cond-true _ _ _ hit)
            | inr out ↦
                new.1 ((takes.2 (8 * (i % 512))).1 (inl (omega arith, omega arith), outside_part page from to at n some first last at_is n_is i here out))
                ∙ sym (closed_free ps heads i (ap (is_open ps) here ∙ closed)) ∙ sym (cond-false _ _ _ out)
          ]
    ] where
      apart : (i : ℕ) → in_range from to i ≡ true → Outside at n (8 * (i % 512)) → ⊥
      apart i hit out =
          let spot = in_range_true from to i hit in let w = inside_page page from to at n some first last at_is n_is i spot.0 spot.1 in
          elim out [ inl low ↦ omega (arith, low, w.1.0) | inr past ↦ omega (arith, past, w.1.1) ]

    pub opened_marked : IsMarked m.held from to true (held_bits ps' (set heads page h))
    opened_marked = marked_held ps ps' heads (set heads page h) m inv is opened_inv (length-set heads page h) from to true opened_bit
