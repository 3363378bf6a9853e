-- The places that names are set to.
use Rattle.std.specs.Prelude.{◌≡◌, ◌+◌, ◌≤◌, List, [], ◌∷◌, Some, All}
use Rattle.std.specs.FinMap.{FinMap, get}
use Rattle.mvs_model.specs.declared.name.Name.{Name}
use Rattle.mvs_model.specs.Name.{name_cmp}
use Rattle.mvs_model.specs.Place.{PlaceValue}

-- The place ends where the greatest region above ends, or before: so an address with an offset from its name has 31 bits.
-- (the limits of the regions are this project's choice)
abbrev pub IsArea : PlaceValue → Type 0
IsArea p = p.addr + p.len ≤ 0x3000000

-- Each name is set to such a place.
abbrev pub AreAreas : FinMap name_cmp PlaceValue → Type 0
AreAreas names = (name : Name) (p : PlaceValue) → get names name ≡ Some p → IsArea p

-- Where there are names, the places are such places.
abbrev pub Fit : List Name → List PlaceValue → Type 0
Fit [] places = Unit {0}
Fit (name ∷ names) places = All IsArea places
