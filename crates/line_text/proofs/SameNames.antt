-- Two names are equal just if all their bytes are.
use Rattle.std.proofs.Common.{◌≡◌, ℕ, Bool, true, false, List, refl, sym, ap, ◌∙◌, nat_eq}
use Rattle.std.specs.Cmp.Lexicographic.{pointwise}
use Rattle.std.proofs.lemmas.Bool.Decides.{Decides-eqb}
use Rattle.std.proofs.lemmas.Slice.Eq.{slice_eq-Decides}
use Rattle.mvs_model.proofs.Orders.{same_name_self, names_differ}
use Rattle.mvs_model.specs.Name.{same_name}

-- the code compares names byte by byte
pub same_is : (a b : List ℕ) → pointwise nat_eq a b ≡ same_name a b
same_is a b = at (pointwise nat_eq a b) refl where
  at : (v : Bool) → pointwise nat_eq a b ≡ v → v ≡ same_name a b
  at true e = let s : a ≡ b = (slice_eq-Decides Decides-eqb a b _ refl).0 e in sym (ap (same_name a) (sym s) ∙ same_name_self a)
  at false e = sym (names_differ a b (λ same. let f : false ≡ true = sym e ∙ (slice_eq-Decides Decides-eqb a b _ refl).1 same in cc))
