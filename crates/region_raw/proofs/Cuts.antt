-- Rows of bytes in a block: cut, joined, and two runs of them taken out. Assumes `Logic`.
use Rattle.std.proofs.Common.{◌≡◌, refl, sym, ap, ◌∙◌, inl, inr, List, [], ◌∷◌, ◌++◌, map, get_or, set, length, take, drop, take-append-drop, length-take, length-drop, replicate, drop-drop, drop-cons, Option, Some, None, take-take}
use Prim.Native.Nat.{ℕ, suc, ◌+◌, ◌-◌, ◌<◌, ◌≤◌}
use native.Mathlib.Omega.{arith}
use lib.ListN.{length-map}
use lib.Seq.{set_split}
use seplogic.Ra.Ura.{Ura}
use base.Logic.{SProp, ent, sep, emp, all, wand, apply∗, id⊢, mono_r}
use base.Fml.{ftrue, fat}
use base.Fraction.{full_share}
use types.Logic.{Logic, sem}
use types.SemTy.{cells}
use types.Run.{forget}
use mir.Syntax.{ty_int, w8}
use mir.Val.{vint}
use denote.Plain.{uint_out}
use types.Share.{parts as parts_of}
use types.Kit.{frame, use3, ‵, raw, ◌⊛◌, ◌$◌, ◌∵◌, !, qed, by, move, drop as skip, use1, use2, split, each, assume, fsplit, fjoin, rewrite, done}
use denote.Builtin.{u8}
use denote.Memory.{part_at, mem, shares}
use denote.Steps.{nothing}
use Rattle.std.proofs.lemmas.List.{drop-take}
use Rattle.region_raw.specs.Rows.{IsApart, written}
use Rattle.region_raw.specs.Ownership.{row, byte_at}

abbrev pub Bytes : Type 0
Bytes = List (Option ℕ)

-- the first of two runs, where the second lies after it
run_before : (cs : Bytes) (i j n : ℕ) → i + n ≤ j → take n (drop i (take j cs)) ≡ take n (drop i cs)
run_before cs i j n le =
    let gap : j ≡ i + (j - i) = omega arith in
    ap (λ k. take n (drop i (take k cs))) gap ∙ ap (take n) (drop-take i (j - i) cs) ∙ take-take n (j - i) (drop i cs) (omega arith)

-- and where it lies before it
run_after : (cs : Bytes) (i k n : ℕ) → k ≤ i → take n (drop (i - k) (drop k cs)) ≡ take n (drop i cs)
run_after cs i k n le = let same : k + (i - k) ≡ i = omega arith in ap (take n) (drop-drop (i - k) k cs ∙ ap (λ m. drop m cs) same)

-- a run of one
pub single : (cs : Bytes) (i : ℕ) → i < length cs → take 1 (drop i cs) ≡ get_or cs i None ∷ []
single cs i lt = ap (take 1) (drop-cons cs i None lt)

pub single_set : (cs : Bytes) (i x : ℕ) → i < length cs → take i cs ++ (Some x ∷ [] ++ drop (i + 1) cs) ≡ set cs i (Some x)
single_set cs i x lt = let next : i + 1 ≡ suc i = omega arith in ap (λ k. take i cs ++ Some x ∷ drop k cs) next ∙ sym (set_split cs i (Some x) lt)

module _ {M : Type 1} {𝓤 : Ura M} (𝓛 : Logic 𝓤) (b : ℕ) where
  split_row : (xs ys : Bytes) (o at : ℕ) → at ≡ o + length xs → ent 𝓤 (sem 𝓛 (row b o (xs ++ ys))) (sep 𝓤 (sem 𝓛 (row b o xs)) (sem 𝓛 (row b at ys)))
  split_row [] ys o at e = let same : o ≡ at = omega arith in qed 𝓛 (‵ (row b o ys) ∷ []) ∵ rewrite ! 0 (λ (k : ℕ). ‵ (row b k ys)) same refl $ nothing ! $ done !
  split_row (x ∷ xs) ys o at e = let next : at ≡ (o + 1) + length xs = omega arith in qed 𝓛 (‵ (row b o (x ∷ xs ++ ys)) ∷ []) ∵ fsplit ! $ move ! (1 ∷ []) $
      use1 𝓛 (‵ (row b (o + 1) xs) ⊛ ‵ (row b at ys)) (split_row xs ys (o + 1) at next) $ split ! $ move ! (2 ∷ 0 ∷ []) $ fjoin ! $ done !

  join_rows : (xs ys : Bytes) (o at : ℕ) → at ≡ o + length xs → ent 𝓤 (sep 𝓤 (sem 𝓛 (row b o xs)) (sem 𝓛 (row b at ys))) (sem 𝓛 (row b o (xs ++ ys)))
  join_rows [] ys o at e = let same : at ≡ o = omega arith in qed 𝓛 (‵ ftrue ∷ ‵ (row b at ys) ∷ []) ∵ skip ! $ rewrite ! 0 (λ (k : ℕ). ‵ (row b k ys)) same refl $ done !
  join_rows (x ∷ xs) ys o at e = let next : at ≡ (o + 1) + length xs = omega arith in qed 𝓛 (‵ (row b o (x ∷ xs)) ∷ ‵ (row b at ys) ∷ []) ∵ fsplit ! $ move ! (1 ∷ 2 ∷ []) $
      use2 𝓛 (‵ (row b (o + 1) (xs ++ ys))) (join_rows xs ys (o + 1) at next) $ move ! (1 ∷ 0 ∷ []) $ fjoin ! $ done !

  -- a row of values, as the elements of a slice
  pub to_cells : (xs : List ℕ) (o : ℕ) → ent 𝓤 (sem 𝓛 (row b o (map Some xs))) (sem 𝓛 (cells (mem u8) xs b o))
  to_cells [] o = id⊢ 𝓤 (emp 𝓤)
  to_cells (x ∷ xs) o = mono_r 𝓤 (sem 𝓛 (part_at u8 full_share x b o)) (to_cells xs (o + 1))

  pub of_cells : (xs : List ℕ) (o : ℕ) → ent 𝓤 (sem 𝓛 (cells (mem u8) xs b o)) (sem 𝓛 (row b o (map Some xs)))
  of_cells [] o = id⊢ 𝓤 (emp 𝓤)
  of_cells (x ∷ xs) o = mono_r 𝓤 (sem 𝓛 (part_at u8 full_share x b o)) (of_cells xs (o + 1))

  module _ (cs : Bytes) (o at n : ℕ) (inside : at + n ≤ length cs) where
    abbrev pub Run : Bytes
    Run = take n (drop at cs)

    long_front : o + at ≡ o + length (take at cs)
    long_front = omega (arith, length-take at cs)

    long_run : (o + at) + n ≡ (o + at) + length Run
    long_run = omega (arith, length-take n (drop at cs), length-drop at cs)

    parts : cs ≡ take at cs ++ (Run ++ drop (at + n) cs)
    parts = sym (take-append-drop at cs) ∙ ap (λ l. take at cs ++ l) (sym (take-append-drop n (drop at cs)) ∙ ap (λ l. Run ++ l) (drop-drop n at cs))

    -- a run is taken out
    pub out : ent 𝓤 (sem 𝓛 (row b o cs)) (sep 𝓤 (sem 𝓛 (row b (o + at) Run)) (sep 𝓤 (sem 𝓛 (row b o (take at cs))) (sem 𝓛 (row b ((o + at) + n) (drop (at + n) cs)))))
    out = qed 𝓛 (‵ (row b o cs) ∷ []) ∵ rewrite ! 0 (λ (l : Bytes). ‵ (row b o l)) parts refl $
        use1 𝓛 (‵ (row b o (take at cs)) ⊛ ‵ (row b (o + at) (Run ++ drop (at + n) cs))) (split_row (take at cs) (Run ++ drop (at + n) cs) o (o + at) long_front) $ split ! $ move ! (1 ∷ []) $
        use1 𝓛 (‵ (row b (o + at) Run) ⊛ ‵ (row b ((o + at) + n) (drop (at + n) cs))) (split_row Run (drop (at + n) cs) (o + at) ((o + at) + n) long_run) $ split ! $ move ! (0 ∷ 2 ∷ 1 ∷ []) $ done !

    -- another one comes back
    pub back : (ws : Bytes) → length ws ≡ n → ent 𝓤 (sep 𝓤 (sem 𝓛 (row b (o + at) ws)) (sep 𝓤 (sem 𝓛 (row b o (take at cs))) (sem 𝓛 (row b ((o + at) + n) (drop (at + n) cs))))) (sem 𝓛 (row b o (take at cs ++ (ws ++ drop (at + n) cs))))
    back ws long = let end : (o + at) + n ≡ (o + at) + length ws = omega arith in
        qed 𝓛 (‵ (row b (o + at) ws) ∷ ‵ (row b o (take at cs)) ∷ ‵ (row b ((o + at) + n) (drop (at + n) cs)) ∷ []) ∵ move ! (0 ∷ 2 ∷ []) $
        use2 𝓛 (‵ (row b (o + at) (ws ++ drop (at + n) cs))) (join_rows ws (drop (at + n) cs) (o + at) ((o + at) + n) end) $ move ! (1 ∷ 0 ∷ []) $
        by ! (join_rows (take at cs) (ws ++ drop (at + n) cs) o (o + at) long_front)

    -- a run is taken out, and the same one comes back
    aside : ent 𝓤 (sem 𝓛 (row b o cs)) (sep 𝓤 (sem 𝓛 (row b (o + at) Run)) (wand 𝓤 (sem 𝓛 (row b (o + at) Run)) (sem 𝓛 (row b o cs))))
    aside = let long : length Run ≡ n = omega (arith, length-take n (drop at cs), length-drop at cs) in
        qed 𝓛 (‵ (row b o cs) ∷ []) ∵ use1 𝓛 (‵ (row b (o + at) Run) ⊛ (‵ (row b o (take at cs)) ⊛ ‵ (row b ((o + at) + n) (drop (at + n) cs)))) out $ split ! $
        frame ! $ assume ! (‵ (row b (o + at) Run)) $ move ! (1 ∷ []) $ split ! $ move ! (2 ∷ 0 ∷ 1 ∷ []) $
        use3 𝓛 (‵ (row b o (take at cs ++ (Run ++ drop (at + n) cs)))) (back Run long) $ rewrite ! 0 (λ (l : Bytes). ‵ (row b o l)) (sym parts) refl $ done !

  moved : (o o' : ℕ) (xs ys : Bytes) → o ≡ o' → xs ≡ ys → ent 𝓤 (sem 𝓛 (row b o xs)) (sem 𝓛 (row b o' ys))
  moved o o' xs ys e e' = qed 𝓛 (‵ (row b o xs) ∷ []) ∵ rewrite ! 0 (λ (k : ℕ). ‵ (row b k xs)) e refl $ rewrite ! 0 (λ (l : Bytes). ‵ (row b o' l)) e' refl $ done !

  module _ (cs : Bytes) (o i j n : ℕ) where
    -- with the two runs there, and n values in place of the second, the row is whole again
    abbrev pub Whole : List ℕ → SProp 𝓤
    Whole ws = wand 𝓤 (sep 𝓤 (sem 𝓛 (row b (o + i) (take n (drop i cs)))) (sem 𝓛 (row b (o + j) (map Some ws)))) (sem 𝓛 (row b o (written cs j n ws)))

    abbrev pub Keeps : SProp 𝓤
    Keeps = all 𝓤 (λ (z : (ws : List ℕ) × (length ws ≡ n)). Whole z.0)

    abbrev First : Bytes
    First = take n (drop i cs)

    abbrev Second : Bytes
    Second = take n (drop j cs)

    -- two runs that have no byte in common are taken out
    pub both_out : IsApart i j n → i + n ≤ length cs → j + n ≤ length cs → ent 𝓤 (sem 𝓛 (row b o cs)) (sep 𝓤 (sem 𝓛 (row b (o + i) First)) (sep 𝓤 (sem 𝓛 (row b (o + j) Second)) Keeps))
    both_out (inl le) fits_i fits_j =
        let L = take j cs in let R = drop (j + n) cs in let A = take n (drop i L) in let end = (o + j) + n in
        let inside : i + n ≤ length L = omega (arith, length-take j cs) in
        let same : A ≡ First = run_before cs i j n le in
        qed 𝓛 (‵ (row b o cs) ∷ []) ∵ use1 𝓛 (‵ (row b (o + j) Second) ⊛ (‵ (row b o L) ⊛ ‵ (row b end R))) (out cs o j n fits_j) $ split ! $ move ! (1 ∷ []) $ split ! $
        use1 𝓛 (‵ (row b (o + i) A) ⊛ raw (wand 𝓤 (sem 𝓛 (row b (o + i) A)) (sem 𝓛 (row b o L)))) (aside L o i n inside) $ split ! $
        use1 𝓛 (‵ (row b (o + i) First)) (moved (o + i) (o + i) A First refl same) $ frame ! $ move ! (2 ∷ []) $ frame ! $
        each ! (λ (z : (ws : List ℕ) × (length ws ≡ n)). Whole z.0) (λ z. assume ! (‵ (row b (o + i) First) ⊛ ‵ (row b (o + j) (map Some z.0))) $ split ! $
        let long : length (map Some z.0) ≡ n = length-map z.0 Some ∙ z.1 in
        use1 𝓛 (‵ (row b (o + i) A)) (moved (o + i) (o + i) First A refl (sym same)) $ move ! (0 ∷ 2 ∷ []) $
        use2 𝓛 (‵ (row b o L)) (apply∗ 𝓤 (sem 𝓛 (row b (o + i) A)) (sem 𝓛 (row b o L))) $ move ! (1 ∷ 0 ∷ 2 ∷ []) $ by ! (back cs o j n fits_j (map Some z.0) long))
    both_out (inr le) fits_i fits_j =
        let L = take j cs in let R = drop (j + n) cs in let end = (o + j) + n in let k = i - (j + n) in let A = take n (drop k R) in
        let inside : k + n ≤ length R = omega (arith, length-drop (j + n) cs) in
        let same : A ≡ First = run_after cs i (j + n) n le in let there : end + k ≡ o + i = omega arith in
        qed 𝓛 (‵ (row b o cs) ∷ []) ∵ use1 𝓛 (‵ (row b (o + j) Second) ⊛ (‵ (row b o L) ⊛ ‵ (row b end R))) (out cs o j n fits_j) $ split ! $ move ! (1 ∷ []) $ split ! $ move ! (1 ∷ []) $
        use1 𝓛 (‵ (row b (end + k) A) ⊛ raw (wand 𝓤 (sem 𝓛 (row b (end + k) A)) (sem 𝓛 (row b end R)))) (aside R end k n inside) $ split ! $
        use1 𝓛 (‵ (row b (o + i) First)) (moved (end + k) (o + i) A First there same) $ frame ! $ move ! (2 ∷ []) $ frame ! $
        each ! (λ (z : (ws : List ℕ) × (length ws ≡ n)). Whole z.0) (λ z. assume ! (‵ (row b (o + i) First) ⊛ ‵ (row b (o + j) (map Some z.0))) $ split ! $
        let long : length (map Some z.0) ≡ n = length-map z.0 Some ∙ z.1 in
        use1 𝓛 (‵ (row b (end + k) A)) (moved (o + i) (end + k) First A (sym there) (sym same)) $ move ! (0 ∷ 2 ∷ []) $
        use2 𝓛 (‵ (row b end R)) (apply∗ 𝓤 (sem 𝓛 (row b (end + k) A)) (sem 𝓛 (row b end R))) $ move ! (1 ∷ 2 ∷ 0 ∷ []) $ by ! (back cs o j n fits_j (map Some z.0) long))

  -- the same, as a formula of which shares are made
  pub to_parts : (xs : List ℕ) (o : ℕ) → ent 𝓤 (sem 𝓛 (row b o (map Some xs))) (sem 𝓛 (parts_of (mem u8) (shares u8) full_share xs b o))
  to_parts [] o = id⊢ 𝓤 (emp 𝓤)
  to_parts (x ∷ xs) o = mono_r 𝓤 (sem 𝓛 (part_at u8 full_share x b o)) (to_parts xs (o + 1))

  pub of_parts : (xs : List ℕ) (o : ℕ) → ent 𝓤 (sem 𝓛 (parts_of (mem u8) (shares u8) full_share xs b o)) (sem 𝓛 (row b o (map Some xs)))
  of_parts [] o = id⊢ 𝓤 (emp 𝓤)
  of_parts (x ∷ xs) o = mono_r 𝓤 (sem 𝓛 (part_at u8 full_share x b o)) (of_parts xs (o + 1))

  -- a row of which nothing is kept is blank
  pub forgotten : (cs : Bytes) (o : ℕ) → ent 𝓤 (sem 𝓛 (row b o cs)) (sem 𝓛 (row b o (replicate (length cs) None)))
  forgotten [] o = id⊢ 𝓤 (emp 𝓤)
  forgotten (None ∷ cs) o = mono_r 𝓤 (sem 𝓛 (byte_at b o None)) (forgotten cs (o + 1))
  forgotten (Some x ∷ cs) o = qed 𝓛 (‵ (row b o (Some x ∷ cs)) ∷ []) ∵ fsplit ! $ use1 𝓛 (‵ (fat full_share (ty_int w8) b o (vint w8 x))) (uint_out 𝓛 full_share w8 x b o) $ forget ! 0 refl $
      move ! (1 ∷ []) $ use1 𝓛 (‵ (row b (o + 1) (replicate (length cs) None))) (forgotten cs (o + 1)) $ move ! (1 ∷ 0 ∷ []) $ fjoin ! $ done !
