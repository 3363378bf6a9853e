-- A page that is copied from another region.
use Rattle.std.proofs.Common.{◌≡◌, ◌∙◌, ◌+◌, ◌*◌, ◌<◌, ℕ, zero, suc, List, [], ◌∷◌, ◌++◌, map, length, take, drop, set, get_or, true, Option, Some, None, refl, sym, ap, subst, arith}
use Rattle.mvs_model.specs.Numbers.{page_bytes}
use Rattle.region_raw.specs.Rows.{IsBlankRun, IsRun, run, values, written}
use Rattle.region_raw.specs.Pages.{Pages, ArePages, IsBlank, is_open, page_row, pages_of}
use Rattle.region_raw.proofs.PageRows.{blank_is, open_within, rest_are, run_of_page, values-map}
use Rattle.region_raw.proofs.Parts.{Sound, are_pages, block_is, page_set, page_within}

opened : (size : ℕ) → 0 < size → (ps : Pages) (p : ℕ) → ArePages size ps → is_open ps p ≡ true → (bs : List ℕ) × (get_or ps p None ≡ Some bs) × (length bs ≡ size)
opened size pos [] p are there = absurd (let e : is_open [] p ≡ true = there in cc)
opened size pos (None ∷ ps) zero are there = absurd (let e : is_open (None ∷ ps) zero ≡ true = there in cc)
opened size pos (Some bs ∷ ps) zero are there = (bs, refl, are.0)
opened size pos (q ∷ ps) (suc p) are there = opened size pos ps p (rest_are size pos q ps are) there

module _ (count : ℕ) (block : List (Option ℕ)) (i : Sound count block) (view : Pages) (is : pages_of page_bytes count block ≡ view) (p : ℕ) where
  cut : p < length view → take page_bytes (drop (p * page_bytes) block) ≡ page_row page_bytes (get_or view p None)
  cut lt =
      let pos : 0 < page_bytes = omega arith in
      ap (λ l. take page_bytes (drop (p * page_bytes) l)) (block_is count block i view is)
      ∙ run_of_page page_bytes pos view p (p * page_bytes) None (are_pages count block i view is) lt refl

  -- an open page is a run of the block
  pub open_run : is_open view p ≡ true → (bs : List ℕ) × (get_or view p None ≡ Some bs) × (length bs ≡ page_bytes) × IsRun block (p * page_bytes) page_bytes × (run block (p * page_bytes) page_bytes ≡ bs)
  open_run there =
      let pos : 0 < page_bytes = omega arith in
      let within = open_within view p there in
      let o = opened page_bytes pos view p (are_pages count block i view is) there in
      let row : take page_bytes (drop (p * page_bytes) block) ≡ map Some o.0 = cut within ∙ ap (page_row page_bytes) o.1 in
      let same : run block (p * page_bytes) page_bytes ≡ o.0 = ap values row ∙ values-map o.0 in
      (o.0, o.1, o.2, (page_within count block i view is p within, row ∙ ap (map Some) (sym same)), same)

  -- a blank page is a blank run of the block
  pub blank_run : (n : ℕ) → n ≡ page_bytes → IsBlank view p → IsBlankRun block (p * page_bytes) n
  blank_run n long blank =
      subst (λ k. IsBlankRun block (p * page_bytes) k) (sym long)
      (page_within count block i view is p blank.0, cut blank.0 ∙ ap (page_row page_bytes) (blank_is view p blank.1))

  -- the block with another page's bytes in place of a page
  pub copied : (q : Option (List ℕ)) (bs r : List ℕ) (new : List (Option ℕ)) → p < length view → q ≡ Some bs → length bs ≡ page_bytes → r ≡ bs → new ≡ written block (p * page_bytes) (length r) r
      → Sound count new × (pages_of page_bytes count new ≡ set view p q)
  copied q bs r new lt is_q long same is_new =
      let on = page_set count block i view is p (Some bs) lt (long, tt) new
      (is_new ∙ (λ j. written block (p * page_bytes) (length (same j)) (same j)) ∙ ap (λ k. written block (p * page_bytes) k bs) long) in
      (on.0, on.1 ∙ ap (set view p) (sym is_q))
