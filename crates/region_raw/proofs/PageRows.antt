-- Pages and their rows of bytes.
use Rattle.std.proofs.Common.{true, false, ◌≡◌, ℕ, zero, suc, ◌+◌, ◌*◌, ◌<◌, List, [], ◌∷◌, ◌++◌, map, length, take, drop, set, get_or, replicate, Option, Some, None, refl, sym, ap, ◌∙◌, arith, length-append, append_assoc, suc-mul, zero-mul}
use Rattle.std.proofs.lemmas.List.{length-map, length-replicate}
use Rattle.std.proofs.Math.Seq.{take-append_seam, drop-append_seam, take-append-add, drop-append-add}
use Rattle.std.proofs.lemmas.Bool.Decides.{nat_tests}
use Rattle.std.proofs.lemmas.Grind.{common_steps}
use Rattle.region_raw.specs.Rows.{values}
use Rattle.region_raw.specs.Pages.{Pages, page_row, spread, ArePages, page_of, pages_of, is_open}

pub values-map : (xs : List ℕ) → values (map Some xs) ≡ xs
values-map [] = refl
values-map (x ∷ xs) = ap (λ l. x ∷ l) (values-map xs)

take_row : {X : Type 0} (xs ys : List X) (n : ℕ) → length xs ≡ n → take n (xs ++ ys) ≡ xs
take_row xs ys n e = ap (λ k. take k (xs ++ ys)) (sym e) ∙ take-append_seam xs ys

drop_row : {X : Type 0} (xs ys : List X) (n : ℕ) → length xs ≡ n → drop n (xs ++ ys) ≡ ys
drop_row xs ys n e = ap (λ k. drop k (xs ++ ys)) (sym e) ∙ drop-append_seam xs ys

take_past : {X : Type 0} (xs ys : List X) (n k m : ℕ) → length xs ≡ n → m ≡ n + k → take m (xs ++ ys) ≡ xs ++ take k ys
take_past xs ys n k m e is = let at : m ≡ length xs + k = omega (arith, e, is) in ap (λ j. take j (xs ++ ys)) at ∙ take-append-add xs ys k

drop_past : {X : Type 0} (xs ys : List X) (n k m : ℕ) → length xs ≡ n → m ≡ n + k → drop m (xs ++ ys) ≡ drop k ys
drop_past xs ys n k m e is = let at : m ≡ length xs + k = omega (arith, e, is) in ap (λ j. drop j (xs ++ ys)) at ∙ drop-append-add xs ys k

module _ (size : ℕ) (pos : 0 < size) where
  pub length_row : (p : Option (List ℕ)) (ps : Pages) → ArePages size (p ∷ ps) → length (page_row size p) ≡ size
  length_row p ps h1 = grind (arith, nat_tests, length-map, length-replicate)

  pub rest_are : (p : Option (List ℕ)) (ps : Pages) → ArePages size (p ∷ ps) → ArePages size ps
  rest_are p ps h1 = grind (arith, common_steps)

  page_of_blank : (n : ℕ) → page_of (replicate n None) ≡ None
  page_of_blank n = grind (arith, common_steps)

  page_of_row : (p : Option (List ℕ)) (ps : Pages) → ArePages size (p ∷ ps) → page_of (page_row size p) ≡ p
  page_of_row None ps are = page_of_blank size
  page_of_row (Some []) ps are = absurd (omega (arith, pos, are.0))
  page_of_row (Some (b ∷ bs)) ps are = ap (λ l. Some (b ∷ l)) (values-map bs)

  -- a row that was spread out is cut into the same pages
  pub pages_of-spread : (ps : Pages) → ArePages size ps → pages_of size (length ps) (spread size ps) ≡ ps
  pages_of-spread [] are = refl
  pages_of-spread (p ∷ ps) are =
      let long = length_row p ps are in let row = page_row size p in
      (λ i. page_of (take_row row (spread size ps) size long i) ∷ pages_of size (length ps) (drop_row row (spread size ps) size long i))
      ∙ (λ i. page_of_row p ps are i ∷ pages_of-spread ps (rest_are p ps are) i)

  pub length-spread : (ps : Pages) → ArePages size ps → length (spread size ps) ≡ length ps * size
  length-spread [] are = sym (zero-mul size)
  length-spread (p ∷ ps) are = omega (arith, length-append (page_row size p) (spread size ps), length_row p ps are, length-spread ps (rest_are p ps are), suc-mul (length ps) size)

  pub are_blank : (n : ℕ) → ArePages size (replicate n None)
  are_blank zero = tt
  are_blank (suc n) = are_blank n

  replicate-add : (m n k : ℕ) → k ≡ m + n → replicate {A = Option ℕ} m None ++ replicate n None ≡ replicate k None
  replicate-add zero n k e = let same : n ≡ k = omega (arith, e) in ap (λ j. replicate j None) same
  replicate-add (suc m) n zero e = absurd (omega (arith, e))
  replicate-add (suc m) n (suc k) e = ap (λ l. None ∷ l) (replicate-add m n k (omega (arith, e)))

  pub spread_blank : (n k : ℕ) → k ≡ n * size → replicate k None ≡ spread size (replicate n None)
  spread_blank zero k e = let none : k ≡ 0 = e ∙ zero-mul size in ap (λ j. replicate j None) none
  spread_blank (suc n) k e = sym (replicate-add size (n * size) k (omega (arith, e, suc-mul n size))) ∙ ap (λ l. replicate size None ++ l) (spread_blank n (n * size) refl)

  -- the row with another page p
  pub swap : (ps : Pages) (p o : ℕ) (q : Option (List ℕ)) → ArePages size ps → p < length ps → o ≡ p * size
      → take o (spread size ps) ++ (page_row size q ++ drop (o + size) (spread size ps)) ≡ spread size (set ps p q)
  swap [] p o q are lt e = absurd (omega (arith, lt))
  swap (x ∷ ps) zero o q are lt e =
      let none : o ≡ 0 = e ∙ zero-mul size in let row = page_row size x in let all = row ++ spread size ps in
      let sum : 0 + size ≡ size = omega arith in
      ap (λ k. take k all ++ (page_row size q ++ drop (k + size) all)) none
      ∙ ap (λ k. page_row size q ++ drop k all) sum
      ∙ ap (λ l. page_row size q ++ l) (drop_row row (spread size ps) size (length_row x ps are))
  swap (x ∷ ps) (suc p) o q are lt e =
      let row = page_row size x in let long = length_row x ps are in let on : o ≡ size + p * size = omega (arith, e, suc-mul p size) in
      (λ i. take_past row (spread size ps) size (p * size) o long on i ++ (page_row size q ++ drop_past row (spread size ps) size (p * size + size) (o + size) long (omega (arith, on)) i))
      ∙ append_assoc row (take (p * size) (spread size ps)) (page_row size q ++ drop (p * size + size) (spread size ps))
      ∙ ap (λ l. row ++ l) (swap ps p (p * size) q (rest_are x ps are) (omega (arith, lt)) refl)

  pub run_of_page : (ps : Pages) (p o : ℕ) (d : Option (List ℕ)) → ArePages size ps → p < length ps → o ≡ p * size → take size (drop o (spread size ps)) ≡ page_row size (get_or ps p d)
  run_of_page [] p o d are lt e = absurd (omega (arith, lt))
  run_of_page (x ∷ ps) zero o d are lt e =
      let none : o ≡ 0 = e ∙ zero-mul size in
      ap (λ k. take size (drop k (page_row size x ++ spread size ps))) none ∙ take_row (page_row size x) (spread size ps) size (length_row x ps are)
  run_of_page (x ∷ ps) (suc p) o d are lt e =
      ap (take size) (drop_past (page_row size x) (spread size ps) size (p * size) o (length_row x ps are) (omega (arith, e, suc-mul p size)))
      ∙ run_of_page ps p (p * size) d (rest_are x ps are) (omega (arith, lt)) refl

  pub are_set : (ps : Pages) (p : ℕ) (q : Option (List ℕ)) → ArePages size ps → ArePages size (q ∷ []) → ArePages size (set ps p q)
  are_set [] p q are one = tt
  are_set (x ∷ ps) zero None are one = rest_are x ps are
  are_set (x ∷ ps) zero (Some bs) are one = (one.0, rest_are x ps are)
  are_set (None ∷ ps) (suc p) q are one = are_set ps p q are one
  are_set (Some bs ∷ ps) (suc p) q are one = (are.0, are_set ps p q are.1 one)

  -- what a row of pages is cut into
  pub seen : (ps : Pages) (count : ℕ) (row : List (Option ℕ)) → ArePages size ps → length ps ≡ count → row ≡ spread size ps → pages_of size count row ≡ ps
  seen ps count row are long is = (λ i. pages_of size (sym long i) (is i)) ∙ pages_of-spread ps are

pub open_within : (ps : Pages) (p : ℕ) → is_open ps p ≡ true → p < length ps
open_within ps p h1 = grind (arith, common_steps)

pub blank_is : (ps : Pages) (p : ℕ) → is_open ps p ≡ false → get_or ps p None ≡ None
blank_is ps p is = grind (arith, common_steps)
