-- Where operands stand.
use Rattle.std.proofs.Common.{◌≡◌, ℕ, ◌+◌, ◌≤◌, ◌<◌, List, [], ◌∷◌, ◌++◌, length, arith, refl, sym, ap, subst, ◌∙◌, map, length-take, Option, Some, None}
use Rattle.std.specs.Prelude.{Bool, true, false, ◌||◌, position}
use Rattle.std.specs.List.{list_any, before_first, position_or_len}
use Rattle.job_script.specs.declared.given.GivenOperands.{GivenOperands}
use Rattle.job_script.proofs.Cut.{no_cut, cut_at}
use Rattle.job_script.proofs.Taking.{TakesOn}
use Rattle.diagnosis.specs.Blame.{before}

-- what stands before one operand more
pub before_more : (os : List (List ℕ)) (o : List ℕ) → before (os ++ o ∷ []) ≡ before os + (length o + 1)
before_more [] o = omega arith
before_more (x ∷ xs) o = let more = before_more xs o in omega (arith, more)

-- what is known when the operands on the left of a text were taken, and how far that is
pub record ContinuesRun (old now : GivenOperands) (field rest : List ℕ) (at : ℕ) : Type 0 where
  pub on : TakesOn old now field rest
  pub place : at ≡ before on.left
  pub within : at + length rest ≡ length field

-- a test of what a list is mapped to
pub any_map : {X Y : Type 0} (f : X → Y) (p : Y → Bool) (xs : List X) → list_any (λ x. p (f x)) xs ≡ list_any p (map f xs)
any_map f p [] = refl
any_map f p (x ∷ xs) = ap (λ b. p (f x) || b) (any_map f p xs)

-- what stands before a byte that passes is shorter than the text
pub before_short : (p : ℕ → Bool) (xs : List ℕ) → list_any p xs ≡ true → length (before_first p xs) + 1 ≤ length xs
before_short p xs some = at (position p xs) refl where
  at : (o : Option ℕ) → position p xs ≡ o → length (before_first p xs) + 1 ≤ length xs
  at None e = absurd (let f : true ≡ false = sym some ∙ (no_cut p xs e).none in cc)
  at (Some i) e = let c = cut_at p xs i e in let h : position_or_len p xs < length xs = subst (λ n. n < length xs) c.place c.within in let l = length-take (position_or_len p xs) xs in omega (arith, h, l)
