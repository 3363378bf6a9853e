-- What is appended to a text piece by piece.
use Rattle.std.proofs.Common.{◌≡◌, ◌∙◌, ℕ, List, ◌++◌, ap, append_assoc}

-- one more piece
pub trailing : (old s t x y : List ℕ) → s ≡ old ++ x → t ≡ s ++ y → t ≡ old ++ (x ++ y)
trailing old s t x y p q = q ∙ ap (λ u. u ++ y) p ∙ append_assoc old x y

-- a key and a number
pub after_two : (old s t x y z : List ℕ) → s ≡ old ++ x → t ≡ s ++ y ++ z → t ≡ old ++ (x ++ y ++ z)
after_two old s t x y z p q = q ∙ ap (λ u. u ++ y ++ z) p ∙ ap (λ u. u ++ z) (append_assoc old x y) ∙ append_assoc old (x ++ y) z
