-- Two masked texts, read byte by byte.
use Rattle.std.proofs.Common.{◌≡◌, ℕ, suc, ◌+◌, ◌<◌, ◌≤◌, List, [], ◌∷◌, ◌++◌, length, drop, get_or, arith, sym, ap, ◌∙◌}
use Rattle.std.proofs.lemmas.List.{drop_all}
use Rattle.std.proofs.Math.Seq.{drop-cons}
use Rattle.mvs_model.proofs.OneSteps.{head_of, tail_of}
use Rattle.judge.specs.Shapes.{masked, masked_byte}

drop_next : (xs : List ℕ) (n : ℕ) → n < length xs → drop n xs ≡ get_or xs n 0 ∷ drop (n + 1) xs
drop_next xs n inside = drop-cons xs n 0 inside ∙ (let e : suc n ≡ n + 1 = omega arith in ap (λ k. get_or xs n 0 ∷ drop k xs) e)

module _ (text front rest : List ℕ) (at : ℕ) (here : at < length front) (same : masked (drop at text) ≡ masked (drop at front) ++ rest) where
  both : at < length text → masked_byte (get_or text at 0) ∷ masked (drop (at + 1) text) ≡ masked_byte (get_or front at 0) ∷ (masked (drop (at + 1) front) ++ rest)
  both inside = sym (ap masked (drop_next text at inside)) ∙ same ∙ ap (λ x. masked x ++ rest) (drop_next front at here)

  pub next_same : at < length text → masked (drop (at + 1) text) ≡ masked (drop (at + 1) front) ++ rest
  next_same inside = ap tail_of (both inside)

  pub byte_same : at < length text → masked_byte (get_or text at 0) ≡ masked_byte (get_or front at 0)
  byte_same inside = ap head_of (both inside)

  pub not_shorter : length text ≤ at → ⊥
  not_shorter all = let e : [] ≡ masked_byte (get_or front at 0) ∷ (masked (drop (at + 1) front) ++ rest) = sym (ap masked (drop_all at text all)) ∙ same ∙ ap (λ x. masked x ++ rest) (drop_next front at here) in absurd cc
