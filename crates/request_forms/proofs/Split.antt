-- The first member of a list, and the others.
use Rattle.std.proofs.Common.{◌≡◌, ◌-◌, ◌≤◌, List, [], ◌∷◌, length, get_or, take, drop, sym, ap, ◌∙◌, arith}
use Rattle.std.proofs.Math.Seq.{take-length}

abbrev pub others : {X : Type 0} → List X → List X
others xs = take (length xs - 1) (drop 1 xs)

pub first_and_others : {X : Type 0} (xs : List X) (x : X) → 1 ≤ length xs → x ≡ get_or xs 0 x → xs ≡ x ∷ others xs
first_and_others [] x l e = absurd (omega arith)
first_and_others (y ∷ ys) x l e =
    let n : length (y ∷ ys) - 1 ≡ length ys = omega arith in
    sym (ap (λ z. z ∷ others (y ∷ ys)) e ∙ ap (λ k. y ∷ take k ys) n ∙ ap (λ zs. y ∷ zs) (take-length ys))
