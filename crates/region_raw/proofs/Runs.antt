-- Rows of places, and runs in them.
use Rattle.std.proofs.Common.{◌≡◌, ℕ, zero, suc, ◌+◌, ◌<◌, ◌≤◌, List, [], ◌∷◌, ◌++◌, map, length, take, drop, set, get_or, replicate, Option, Some, None, refl, sym, ap, ◌∙◌, arith, length-append, length-take, length-drop, take-append-drop, append_assoc, get_or-take, get_or-drop, drop-cons, drop-drop}
use Rattle.std.proofs.lemmas.List.{length-map, length-replicate, get_or-replicate}
use Rattle.std.proofs.lemmas.Grind.{common_steps}
use Rattle.region_raw.specs.Rows.{IsRun, run, written}

set-end : {Y : Type 0} (us : List Y) (c x : Y) (vs : List Y) (i : ℕ) → i ≡ length us → set (us ++ c ∷ vs) i x ≡ us ++ x ∷ vs
set-end [] c x vs zero e = refl
set-end [] c x vs (suc i) e = absurd (omega arith)
set-end (u ∷ us) c x vs zero e = absurd (omega arith)
set-end (u ∷ us) c x vs (suc i) e = ap (λ l. u ∷ l) (set-end us c x vs i (omega arith))

get-end : {Y : Type 0} (us : List Y) (d : Y) (vs : List Y) (i : ℕ) → i ≡ length us → get_or (us ++ vs) i d ≡ get_or vs 0 d
get-end [] d vs zero e = refl
get-end [] d vs (suc i) e = absurd (omega arith)
get-end (u ∷ us) d vs zero e = absurd (omega arith)
get-end (u ∷ us) d vs (suc i) e = get-end us d vs i (omega arith)

-- a row is what stands before a run, the run, and what stands after it
pub row_is : (cs : List (Option ℕ)) (at n : ℕ) (xs : List ℕ) → take n (drop at cs) ≡ map Some xs → take at cs ++ (map Some xs ++ drop (at + n) cs) ≡ cs
row_is cs at n xs is =
    ap (λ l. take at cs ++ (l ++ drop (at + n) cs)) (sym is)
    ∙ ap (λ l. take at cs ++ (take n (drop at cs) ++ l)) (sym (drop-drop n at cs))
    ∙ ap (λ l. take at cs ++ l) (take-append-drop n (drop at cs))
    ∙ take-append-drop at cs

-- a run of n values has n values
pub length-run : (cs : List (Option ℕ)) (at n : ℕ) → IsRun cs at n → length (run cs at n) ≡ n
length-run cs at n is = omega (arith, is.0, ap length is.1, length-map (run cs at n) Some, length-take n (drop at cs), length-drop at cs)

pub length-written : (cs : List (Option ℕ)) (at n : ℕ) (ws : List ℕ) → at + n ≤ length cs → length ws ≡ n → length (written cs at n ws) ≡ length cs
length-written cs at n ws le e =
    omega (arith, length-append (take at cs) (map Some ws ++ drop (at + n) cs), length-append (map Some ws) (drop (at + n) cs), length-map ws Some, length-take at cs, length-drop (at + n) cs)

more : (i : ℕ) (x : ℕ) (vs : List (Option ℕ)) → map Some (replicate i x) ++ Some x ∷ vs ≡ map Some (replicate (suc i) x) ++ vs
more i x vs = grind (arith, common_steps)

module _ (cs : List (Option ℕ)) (at i : ℕ) (x : ℕ) (lt : at + i < length cs) where
  front : List (Option ℕ)
  front = take at cs ++ map Some (replicate i x)

  length-front : at + i ≡ length front
  unfolding front
  length-front = omega (arith, length-append (take at cs) (map Some (replicate i x)), length-map (replicate i x) Some, length-replicate i x, length-take at cs)

  split-front : written cs at i (replicate i x) ≡ front ++ get_or cs (at + i) None ∷ drop (suc (at + i)) cs
  unfolding front
  split-front = sym (append_assoc (take at cs) (map Some (replicate i x)) (drop (at + i) cs)) ∙ ap (λ l. (take at cs ++ map Some (replicate i x)) ++ l) (drop-cons cs (at + i) None lt)

  -- one more of the values in a row
  pub set-next : set (written cs at i (replicate i x)) (at + i) (Some x) ≡ written cs at (i + 1) (replicate (i + 1) x)
  unfolding front
  set-next =
      let next : i + 1 ≡ suc i = omega arith in let past : suc (at + i) ≡ at + suc i = omega arith in
      ap (λ l. set l (at + i) (Some x)) split-front
      ∙ set-end front (get_or cs (at + i) None) (Some x) (drop (suc (at + i)) cs) (at + i) length-front
      ∙ append_assoc (take at cs) (map Some (replicate i x)) (Some x ∷ drop (suc (at + i)) cs)
      ∙ ap (λ l. take at cs ++ l) (more i x (drop (suc (at + i)) cs))
      ∙ ap (λ k. take at cs ++ (map Some (replicate (suc i) x) ++ drop k cs)) past
      ∙ ap (λ k. written cs at k (replicate k x)) (sym next)

  pub get-next : get_or (written cs at i (replicate i x)) (at + i) None ≡ get_or cs (at + i) None
  get-next = ap (λ l. get_or l (at + i) None) split-front ∙ get-end front None (get_or cs (at + i) None ∷ drop (suc (at + i)) cs) (at + i) length-front

pub get-blank : (cs : List (Option ℕ)) (at n i : ℕ) → take n (drop at cs) ≡ replicate n None → i < n → get_or cs (at + i) None ≡ None
get-blank cs at n i blank lt =
    sym (get_or-take n (drop at cs) i None lt ∙ get_or-drop at cs i None) ∙ ap (λ l. get_or l i None) blank ∙ get_or-replicate n i None None lt
