-- A row with values in place of some of its bytes.
use Rattle.std.proofs.Common.{◌≡◌, ◌∙◌, ℕ, zero, suc, ◌+◌, ◌<◌, ◌≤◌, List, [], ◌∷◌, ◌++◌, map, length, take, drop, get_or, Option, Some, None, is_some, true, refl, sym, ap, arith, length-take, length-drop}
use Rattle.std.proofs.lemmas.List.{length-map}
use Rattle.region_raw.specs.Rows.{overlaid, written}
use Rattle.region_raw.proofs.Runs.{row_is}

overlaid_nothing : (cs : List (Option ℕ)) → overlaid cs 0 [] ≡ cs
overlaid_nothing [] = refl
overlaid_nothing (c ∷ cs) = refl

overlaid_values : (xs ws : List ℕ) (rest : List (Option ℕ)) → length xs ≡ length ws → overlaid (map Some xs ++ rest) 0 ws ≡ map Some ws ++ rest
overlaid_values [] [] rest e = overlaid_nothing rest
overlaid_values [] (w ∷ ws) rest e = absurd (omega (arith, e))
overlaid_values (x ∷ xs) [] rest e = absurd (omega (arith, e))
overlaid_values (x ∷ xs) (w ∷ ws) rest e = ap (λ l. Some w ∷ l) (overlaid_values xs ws rest (omega (arith, e)))

overlaid_after : (front rest : List (Option ℕ)) (at : ℕ) (ws : List ℕ) → at ≡ length front → overlaid (front ++ rest) at ws ≡ front ++ overlaid rest 0 ws
overlaid_after [] rest zero ws e = refl
overlaid_after [] rest (suc at) ws e = absurd (omega (arith, e))
overlaid_after (c ∷ front) rest zero ws e = absurd (omega (arith, e))
overlaid_after (c ∷ front) rest (suc at) ws e = ap (λ l. c ∷ l) (overlaid_after front rest at ws (omega (arith, e)))

-- values in place of just as many values
pub overlaid_is : (cs : List (Option ℕ)) (at n : ℕ) (xs ws : List ℕ) → at + n ≤ length cs → take n (drop at cs) ≡ map Some xs → length ws ≡ n → overlaid cs at ws ≡ written cs at n ws
overlaid_is cs at n xs ws fits is e =
    let rest = drop (at + n) cs in
    let front : at ≡ length (take at cs) = omega (arith, fits, length-take at cs) in
    let long : length xs ≡ length ws = omega (arith, fits, e, ap length is, length-map xs Some, length-take n (drop at cs), length-drop at cs) in
    ap (λ l. overlaid l at ws) (sym (row_is cs at n xs is)) ∙ overlaid_after (take at cs) (map Some xs ++ rest) at ws front
    ∙ ap (λ l. take at cs ++ l) (overlaid_values xs ws rest long)

-- what is blank stays blank, and what has a value has one
pub marks_overlaid : (cs : List (Option ℕ)) (at : ℕ) (ws : List ℕ) → map is_some (overlaid cs at ws) ≡ map is_some cs
marks_overlaid [] at ws = refl
marks_overlaid (c ∷ cs) (suc at) ws = ap (λ l. is_some c ∷ l) (marks_overlaid cs at ws)
marks_overlaid (c ∷ cs) zero [] = refl
marks_overlaid (None ∷ cs) zero (w ∷ ws) = ap (λ l. is_some {T = ℕ} None ∷ l) (marks_overlaid cs 0 ws)
marks_overlaid (Some x ∷ cs) zero (w ∷ ws) = ap (λ l. is_some (Some x) ∷ l) (marks_overlaid cs 0 ws)

pub length-overlaid : (cs : List (Option ℕ)) (at : ℕ) (ws : List ℕ) → length (overlaid cs at ws) ≡ length cs
length-overlaid cs at ws = sym (length-map (overlaid cs at ws) is_some) ∙ ap length (marks_overlaid cs at ws) ∙ length-map cs is_some

-- the byte at an index is the value that was put there
pub overlaid_in : (cs : List (Option ℕ)) (at : ℕ) (ws : List ℕ) (k i : ℕ) → k ≡ at + i → i < length ws → is_some (get_or cs k None) ≡ true → get_or (overlaid cs at ws) k None ≡ Some (get_or ws i 0)
overlaid_in [] at ws k i e low has = absurd cc
overlaid_in (c ∷ cs) (suc at) ws zero i e low has = absurd (omega (arith, e))
overlaid_in (c ∷ cs) (suc at) ws (suc k) i e low has = overlaid_in cs at ws k i (omega (arith, e)) low has
overlaid_in (c ∷ cs) zero [] k i e low has = absurd (omega (arith, low))
overlaid_in (None ∷ cs) zero (w ∷ ws) zero i e low has = absurd cc
overlaid_in (Some x ∷ cs) zero (w ∷ ws) zero zero e low has = refl
overlaid_in (Some x ∷ cs) zero (w ∷ ws) zero (suc i) e low has = absurd (omega (arith, e))
overlaid_in (c ∷ cs) zero (w ∷ ws) (suc k) zero e low has = absurd (omega (arith, e))
overlaid_in (None ∷ cs) zero (w ∷ ws) (suc k) (suc i) e low has = overlaid_in cs 0 ws k i (omega (arith, e)) (omega (arith, low)) has
overlaid_in (Some x ∷ cs) zero (w ∷ ws) (suc k) (suc i) e low has = overlaid_in cs 0 ws k i (omega (arith, e)) (omega (arith, low)) has

-- and the others are as before
pub overlaid_out : (cs : List (Option ℕ)) (at : ℕ) (ws : List ℕ) (k : ℕ) → (at ≤ k → at + length ws ≤ k) → get_or (overlaid cs at ws) k None ≡ get_or cs k None
overlaid_out [] at ws k out = refl
overlaid_out (c ∷ cs) (suc at) ws zero out = refl
overlaid_out (c ∷ cs) (suc at) ws (suc k) out = overlaid_out cs at ws k (λ le. let past : suc at + length ws ≤ suc k = out (omega (arith, le)) in omega (arith, past))
overlaid_out (c ∷ cs) zero [] k out = refl
overlaid_out (c ∷ cs) zero (w ∷ ws) zero out = absurd (let past : 0 + length (w ∷ ws) ≤ 0 = out (omega arith) in omega (arith, past))
overlaid_out (None ∷ cs) zero (w ∷ ws) (suc k) out = overlaid_out cs 0 ws k (λ le. let past : 0 + length (w ∷ ws) ≤ suc k = out (omega arith) in omega (arith, past))
overlaid_out (Some x ∷ cs) zero (w ∷ ws) (suc k) out = overlaid_out cs 0 ws k (λ le. let past : 0 + length (w ∷ ws) ≤ suc k = out (omega arith) in omega (arith, past))
