-- The names of a table, one by one in byte order.
use Rattle.std.specs.Prelude.{◌≡◌, Bool, true, false, Option, Some, None, IsSome, IfSome}
use Rattle.std.specs.Ordering.{is_lt}
use Rattle.mvs_model.specs.declared.name.Name.{Name}
use Rattle.mvs_model.specs.Name.{name_cmp}

-- whether one name is before another in byte order
abbrev pub is_before : Name → Name → Bool
is_before a b = is_lt (name_cmp a b)

-- The name is after the given one; where none is given each name is.
abbrev pub IsAfter : Name → Option Name → Type 0
IsAfter name given = IfSome given (λ g. is_before g name ≡ true)

-- The first name after the given one for which the table has something; there is none where it has nothing after that.
abbrev pub IsNextName : {X : Type 0} → (Name → Option X) → Option Name → Option Name → Type 0
IsNextName at given None = (n : Name) → IsAfter n given → at n ≡ None
IsNextName at given (Some next) = IsSome (at next) × IsAfter next given × ((n : Name) → IsAfter n given → is_before n next ≡ true → at n ≡ None)

-- The one of two that comes first after the given one: the name, if it is after that and before the one that was found.
pub record IsFirstOf (found : Option Name) (name : Name) (given : Option Name) (first : Option Name) : Type 0 where
  pub passed : (IsAfter name given → ⊥) → first ≡ found
  pub only : IsAfter name given → found ≡ None → first ≡ Some name
  pub sooner : (f : Name) → IsAfter name given → found ≡ Some f → is_before name f ≡ true → first ≡ Some name
  pub later : (f : Name) → IsAfter name given → found ≡ Some f → is_before name f ≡ false → first ≡ found
