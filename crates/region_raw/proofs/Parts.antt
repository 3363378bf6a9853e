-- The parts of a region, as runs of the block below.
use Rattle.std.proofs.Common.{◌≡◌, ◌+◌, ◌*◌, ◌<◌, ◌≤◌, ◌∙◌, ℕ, List, [], ◌∷◌, ◌++◌, Option, Some, length, take, drop, set, get_or, refl, sym, ap, subst, arith, length-set}
use Rattle.mvs_model.specs.Numbers.{page_bytes, most_pages_above}
use Rattle.region_raw.specs.Rows.{IsRun, run, overlaid}
use Rattle.region_raw.specs.Pages.{Pages, ArePages, IsPart, Writes, byte_of, page_row, pages_of, part_of, row_of, with_part}
use Rattle.region_raw.proofs.Masks.{repaged}
use Rattle.region_raw.proofs.Overlays.{marks_overlaid}
use Rattle.region_raw.proofs.PageBytes.{part_is_run, run_reads, writes}
use Rattle.region_raw.proofs.PageRows.{are_set, length-spread, seen, swap}
use Rattle.region_raw.proofs.Runs.{length-run}

-- the block is the row of some pages
abbrev pub Sound : ℕ → List (Option ℕ) → Type 0
Sound count block = (count ≤ most_pages_above) × ((ps : Pages) × ArePages page_bytes ps × (length ps ≡ count) × (block ≡ row_of ps))

module _ (count : ℕ) (block : List (Option ℕ)) (i : Sound count block) (view : Pages) (is : pages_of page_bytes count block ≡ view) where
  same : i.1.0 ≡ view
  same = let pos : 0 < page_bytes = omega arith in sym (seen page_bytes pos i.1.0 count block i.1.1 i.1.2 i.1.3) ∙ is

  pub are_pages : ArePages page_bytes view
  are_pages = subst (ArePages page_bytes) same i.1.1

  pub block_is : block ≡ row_of view
  block_is = i.1.3 ∙ ap row_of same

  pub count_is : length view ≡ count
  count_is = ap length (sym same) ∙ i.1.2

  -- where a page lies
  pub page_within : (p : ℕ) → p < length view → p * page_bytes + page_bytes ≤ length block
  page_within p lt = let pos : 0 < page_bytes = omega arith in omega (arith, lt, ap length block_is, length-spread page_bytes pos view are_pages)

  -- the block with another page
  pub page_set : (p : ℕ) (q : Option (List ℕ)) → p < length view → ArePages page_bytes (q ∷ []) → (new : List (Option ℕ))
      → new ≡ take (p * page_bytes) block ++ (page_row page_bytes q ++ drop (p * page_bytes + page_bytes) block) → Sound count new × (pages_of page_bytes count new ≡ set view p q)
  page_set p q lt one new is_new =
      let pos : 0 < page_bytes = omega arith in let at = p * page_bytes in
      let are = are_set page_bytes pos view p q are_pages one in let long = length-set view p q ∙ count_is in
      let row = is_new ∙ ap (λ l. take at l ++ (page_row page_bytes q ++ drop (at + page_bytes) l)) block_is ∙ swap page_bytes pos view p at q are_pages lt refl in
      ((i.0, (set view p q, are, long, row)), seen page_bytes pos (set view p q) count new are long row)

  pub run_of : (at n : ℕ) → IsPart view at n → IsRun block at n
  run_of at n part = subst (λ l. IsRun l at n) (sym block_is) (part_is_run view are_pages at n part)

  pub part_is : (at n : ℕ) → run block at n ≡ part_of view at n
  part_is at n = ap (λ l. run l at n) block_is

  pub length-part : (at n : ℕ) → IsPart view at n → length (part_of view at n) ≡ n
  length-part at n part = length-run (row_of view) at n (part_is_run view are_pages at n part)

  pub part_reads : (at n : ℕ) → IsPart view at n → (k : ℕ) → k < n → byte_of view (at + k) ≡ Some (get_or (part_of view at n) k 0)
  part_reads at n part = run_reads view are_pages at n (part_is_run view are_pages at n part)

  pub part_writes : (at : ℕ) (ws : List ℕ) → Writes view at ws (with_part view at ws)
  part_writes = writes view are_pages

  -- the block stays the row of some pages, whatever is written to a part
  pub kept : (at : ℕ) (ws : List ℕ) → Sound count (overlaid block at ws)
  kept at ws =
      let on = repaged page_bytes i.1.0 (overlaid (row_of i.1.0) at ws) i.1.1 (marks_overlaid (row_of i.1.0) at ws) in
      (i.0, (on.0, on.1, on.2 ∙ i.1.2, ap (λ l. overlaid l at ws) i.1.3 ∙ on.3))

  pub borrows : (at : ℕ) (ws : List ℕ) → pages_of page_bytes count (overlaid block at ws) ≡ with_part view at ws
  borrows at ws = (λ j. pages_of page_bytes (sym i.1.2 j) (overlaid (i.1.3 j) at ws)) ∙ ap (λ l. with_part l at ws) same
