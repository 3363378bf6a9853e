-- Names of two lists.
use Rattle.std.proofs.Common.{◌≡◌, ◌⊎◌, inl, inr, ℕ, List, ◌++◌, Contains, MatchOption, Option, Some, None}
use Rattle.std.specs.Option.{option_or}
use Rattle.std.proofs.lemmas.List.Elements.{Contains-append_left, Contains-append_right, Contains-append_cases}

-- what is found of a name in one list or else in another, is found in both together
pub joined : {X Y : Type 0} (xs ys : List X) (x : X) (P : Y → Type 0) (r s : Option Y) → MatchOption r (Contains xs x → ⊥) (λ t. Contains xs x × P t) → MatchOption s (Contains ys x → ⊥) (λ t. Contains ys x × P t)
    → MatchOption (option_or r s) (Contains (xs ++ ys) x → ⊥) (λ t. Contains (xs ++ ys) x × P t)
joined xs ys x P (Some t) s one other = (Contains-append_left xs ys x one.0, one.1)
joined xs ys x P None (Some t) one other = (Contains-append_right xs ys x other.0, other.1)
joined xs ys x P None None one other = λ has. elim (Contains-append_cases xs ys x has) [ inl first ↦ one first | inr second ↦ other second ]
