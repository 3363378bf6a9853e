-- What is read of a reader, up to a number of bytes.
use Rattle.std.proofs.Common.{◌≡◌, ℕ, zero, suc, ◌<◌, List, [], ◌∷◌, ◌++◌, length, take, Option, Some, None, IfSome, refl, sym, ap, ◌∙◌, arith, subst}
use Rattle.std.specs.Option.{option_map}
use Rattle.mvs_job.specs.Exchanging.{IsRest}

-- fewer than were taken at most are all
take_short : (n : ℕ) (xs : List ℕ) → length (take n xs) < n → take n xs ≡ xs
take_short zero xs short = absurd (omega (arith, short))
take_short (suc n) [] short = refl
take_short (suc n) (x ∷ xs) short = ap (λ ys. x ∷ ys) (take_short n xs (omega (arith, short)))

-- what was read of a limited reader
pub read_of : (remaining : Option (List ℕ)) (n : ℕ) (bytes : List ℕ) → IfSome (option_map (take n) remaining) (λ xs. bytes ≡ xs) → IfSome remaining (λ xs. bytes ≡ take n xs)
read_of None n bytes is = tt
read_of (Some xs) n bytes is = is

-- if that is less than the limit, it is all
pub all_of : (remaining : Option (List ℕ)) (n : ℕ) (bytes : List ℕ) → IfSome remaining (λ xs. bytes ≡ take n xs) → length bytes < n → IsRest remaining bytes
all_of None n bytes is short = tt
all_of (Some xs) n bytes is short = sym (is ∙ take_short n xs (subst (λ ys. length ys < n) is short))
