-- The bytes of a region by their index, and the row of its pages.
use Rattle.std.proofs.Common.{◌≡◌, ◌∙◌, ℕ, zero, suc, ◌+◌, ◌-◌, ◌*◌, ◌/◌, ◌%◌, ◌<◌, ◌≤◌, List, [], ◌∷◌, ◌++◌, map, length, take, drop, get_or, true, false, Option, Some, None, is_some, refl, sym, ap, subst, arith, length-take, get_or-append-add, get_or-take, get_or-drop, suc-mul, zero-mul}
use Rattle.std.proofs.lemmas.List.{get_or-map, get_or-replicate, get_or_append_left}
use Rattle.std.proofs.lemmas.Bool.Decides.{nat_tests}
use Rattle.std.proofs.lemmas.Grind.{common_steps}
use Rattle.mvs_model.specs.Numbers.{page_bytes}
use Rattle.region_raw.specs.Rows.{IsRun, values, overlaid}
use Rattle.region_raw.specs.Pages.{Pages, ArePages, IsPart, Writes, byte_in, byte_of, is_open, page_row, part_of, row_of, spread, with_part}
use Rattle.region_raw.proofs.Overlays.{marks_overlaid, overlaid_in, overlaid_out}
use Rattle.region_raw.proofs.Masks.{repaged}
use Rattle.region_raw.proofs.PageRows.{length_row, rest_are, seen}
use Rattle.region_raw.proofs.Runs.{length-run}

byte_in_row : (size : ℕ) (p : Option (List ℕ)) (i : ℕ) → ArePages size (p ∷ []) → i < size → get_or (page_row size p) i None ≡ byte_in p i
byte_in_row size p i h1 h2 = grind (arith, nat_tests, get_or-map, get_or-replicate)

first_are : (size : ℕ) (p : Option (List ℕ)) (ps : Pages) → ArePages size (p ∷ ps) → ArePages size (p ∷ [])
first_are size p ps h1 = grind (arith, common_steps)

trailing : (xs ys : List (Option ℕ)) (k m : ℕ) → m ≡ length xs + k → get_or (xs ++ ys) m None ≡ get_or ys k None
trailing xs ys k m e = ap (λ j. get_or (xs ++ ys) j None) e ∙ get_or-append-add xs ys k None

byte_in_pages : (size : ℕ) (pos : 0 < size) (ps : Pages) (p o i : ℕ) → ArePages size ps → i < size → o ≡ p * size + i → get_or (spread size ps) o None ≡ byte_in (get_or ps p None) i
byte_in_pages size pos [] p o i are low e = refl
byte_in_pages size pos (x ∷ ps) zero o i are low e =
    let at : o ≡ i = omega (arith, e, zero-mul size) in
    ap (λ k. get_or (page_row size x ++ spread size ps) k None) at
    ∙ get_or_append_left (page_row size x) (spread size ps) None i (omega (arith, low, length_row size pos x ps are))
    ∙ byte_in_row size x i (first_are size x ps are) low
byte_in_pages size pos (x ∷ ps) (suc p) o i are low e =
    trailing (page_row size x) (spread size ps) (p * size + i) o (omega (arith, e, suc-mul p size, length_row size pos x ps are))
    ∙ byte_in_pages size pos ps p (p * size + i) i (rest_are size pos x ps are) low refl

-- the byte at an index is the one there in the row
pub byte_row : (ps : Pages) → ArePages page_bytes ps → (k : ℕ) → get_or (row_of ps) k None ≡ byte_of ps k
byte_row ps h1 k = grind (arith, nat_tests, byte_in_pages)

some_in : (p : Option (List ℕ)) (i : ℕ) → is_some (byte_in p i) ≡ is_some p
some_in p i = grind (arith, common_steps)

-- a row of which each byte has a value
all_values : (cs : List (Option ℕ)) → ((i : ℕ) → i < length cs → is_some (get_or cs i None) ≡ true) → cs ≡ map Some (values cs)
all_values [] each = refl
all_values (None ∷ cs) each = absurd (let has : is_some {T = ℕ} None ≡ true = each 0 (omega arith) in cc)
all_values (Some x ∷ cs) each = ap (λ l. Some x ∷ l) (all_values cs (λ i low. each (suc i) (omega (arith, low))))

within : (cs : List (Option ℕ)) (k : ℕ) → is_some (get_or cs k None) ≡ true → k < length cs
within cs k h1 = grind (arith, common_steps)

run_from : (cs : List (Option ℕ)) (at n : ℕ) → 1 ≤ n → ((k : ℕ) → at ≤ k → k < at + n → is_some (get_or cs k None) ≡ true) → IsRun cs at n
run_from cs at zero some each = absurd (omega (arith, some))
run_from cs at (suc n) some each =
    let last : at + n < length cs = within cs (at + n) (each (at + n) (omega arith) (omega arith)) in
    let long : length (take (suc n) (drop at cs)) ≤ suc n = omega (arith, length-take (suc n) (drop at cs)) in (
      omega (arith, last),
      all_values (take (suc n) (drop at cs)) (λ i low.
          let less : i < suc n = omega (arith, low, long) in
          ap is_some (get_or-take (suc n) (drop at cs) i None less ∙ get_or-drop at cs i None) ∙ each (at + i) (omega arith) (omega (arith, less))),
    )

-- a part of a region is a run of its row
pub part_is_run : (ps : Pages) → ArePages page_bytes ps → (at n : ℕ) → IsPart ps at n → IsRun (row_of ps) at n
part_is_run ps are at n part = run_from (row_of ps) at n part.0 (λ k from to. ap is_some (byte_row ps are k) ∙ some_in (get_or ps (k / page_bytes) None) (k % page_bytes) ∙ part.1 k from to)

-- a run, byte by byte
pub run_reads : (ps : Pages) → ArePages page_bytes ps → (at n : ℕ) → IsRun (row_of ps) at n → (k : ℕ) → k < n → byte_of ps (at + k) ≡ Some (get_or (part_of ps at n) k 0)
run_reads ps are at n is k low =
    let cs = row_of ps in
    sym (get_or-take n (drop at cs) k None low ∙ get_or-drop at cs k None ∙ byte_row ps are (at + k))
    ∙ ap (λ l. get_or l k None) is.1 ∙ get_or-map Some (part_of ps at n) k 0 None (omega (arith, low, length-run cs at n is))

-- The pages of a row with other values.
pub record Laid (ps : Pages) (at : ℕ) (ws : List ℕ) : Type 0 where
  pub are : ArePages page_bytes (with_part ps at ws)
  pub sizes : length (with_part ps at ws) ≡ length ps
  pub row : row_of (with_part ps at ws) ≡ overlaid (row_of ps) at ws

pub laid : (ps : Pages) → ArePages page_bytes ps → (at : ℕ) (ws : List ℕ) → Laid ps at ws
laid ps are at ws =
    let pos : 0 < page_bytes = omega arith in
    let on = repaged page_bytes ps (overlaid (row_of ps) at ws) are (marks_overlaid (row_of ps) at ws) in
    let same : with_part ps at ws ≡ on.0 = seen page_bytes pos on.0 (length ps) (overlaid (row_of ps) at ws) on.1 on.2 on.3 in
    record { are = subst (ArePages page_bytes) (sym same) on.1; sizes = ap length same ∙ on.2; row = ap row_of same ∙ sym on.3 }

module _ (ps : Pages) (are : ArePages page_bytes ps) where
  open_in_row : (p o : ℕ) → o ≡ p * page_bytes → is_some (get_or (row_of ps) o None) ≡ is_open ps p
  open_in_row p o e =
      let pos : 0 < page_bytes = omega arith in let at : o ≡ p * page_bytes + 0 = omega (arith, e) in
      ap is_some (byte_in_pages page_bytes pos ps p o 0 are pos at) ∙ some_in (get_or ps p None) 0

  has_in_row : (k : ℕ) → is_open ps (k / page_bytes) ≡ true → is_some (get_or (row_of ps) k None) ≡ true
  has_in_row k there = ap is_some (byte_row ps are k) ∙ some_in (get_or ps (k / page_bytes) None) (k % page_bytes) ∙ there

-- a write, byte by byte
pub writes : (ps : Pages) → ArePages page_bytes ps → (at : ℕ) (ws : List ℕ) → Writes ps at ws (with_part ps at ws)
writes ps are at ws =
    let on = laid ps are at ws in let row = row_of ps in let new = with_part ps at ws in
    let each : (k : ℕ) → byte_of new k ≡ get_or (overlaid row at ws) k None = λ k. sym (byte_row new on.are k) ∙ ap (λ l. get_or l k None) on.row in
    record {
      sizes = on.sizes;
      pages = λ p.
          sym (open_in_row new on.are p (p * page_bytes) refl) ∙ ap (λ l. is_some (get_or l (p * page_bytes) None)) on.row
          ∙ sym (get_or-map-is_some (overlaid row at ws) (p * page_bytes)) ∙ ap (λ l. get_or l (p * page_bytes) false) (marks_overlaid row at ws)
          ∙ get_or-map-is_some row (p * page_bytes) ∙ open_in_row ps are p (p * page_bytes) refl;
      bytes = λ k from to there. each k ∙ overlaid_in row at ws k (k - at) (omega (arith, from)) (omega (arith, from, to)) (has_in_row ps are k there);
      others = λ k out. each k ∙ overlaid_out row at ws k out ∙ byte_row ps are k;
    } where
      get_or-map-is_some : (cs : List (Option ℕ)) (k : ℕ) → get_or (map is_some cs) k false ≡ is_some (get_or cs k None)
      get_or-map-is_some [] k = refl
      get_or-map-is_some (c ∷ cs) zero = refl
      get_or-map-is_some (c ∷ cs) (suc k) = get_or-map-is_some cs k
