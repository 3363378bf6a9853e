-- What a line asks for once its names are looked up, and the names that it sets.
use Rattle.std.specs.Prelude.{ℕ, ◌+◌, not, is_some, List, [], ◌∷◌, find, Option, Some}
use Rattle.std.specs.List.{flat_map}
use Rattle.std.specs.Option.{option_map, option_and_then}
use Rattle.std.specs.FinMap.{FinMap, get, insert}
use Rattle.mvs_model.specs.declared.name.Name.{Name}
use Rattle.mvs_model.specs.declared.line.Location.{Location}
use Rattle.mvs_model.specs.declared.line.Location.TheVariants.{Absolute, Named}
use Rattle.mvs_model.specs.declared.line.SourceRequest.{SourceRequest}
use Rattle.mvs_model.specs.declared.line.SourceRequest.TheVariants as written
use Rattle.mvs_model.specs.declared.request.Request.{Request}
use Rattle.mvs_model.specs.declared.request.Request.TheVariants as request
use Rattle.mvs_model.specs.declared.request.Reply.{Reply}
use Rattle.mvs_model.specs.declared.request.Reply.TheVariants.{Obtained, Listed, Cell}
use Rattle.mvs_model.specs.Place.{PlaceValue, place_at}
use Rattle.mvs_model.specs.Name.{name_cmp}

-- the address that is written, where its name is set
abbrev pub address_of : FinMap name_cmp PlaceValue → Location → Option ℕ
address_of names (Absolute a) = Some a
address_of names (Named name n) = option_map (λ p. p.addr + n) (get names name)

-- the places with these addresses and lengths, where the names are set
abbrev pub places_of : FinMap name_cmp PlaceValue → List Location → List ℕ → Option (List PlaceValue)
places_of names [] lengths = Some []
places_of names (location ∷ locations) [] = Some []
places_of names (location ∷ locations) (n ∷ lengths) =
    option_and_then (λ a. option_map (λ ps. place_at a n ∷ ps) (places_of names locations lengths)) (address_of names location)

-- the request that is asked for, where each name that it looks up is set
abbrev pub resolved : FinMap name_cmp PlaceValue → SourceRequest → Option Request
resolved names (written.Obtain form number ask variable area) = Some (request.Obtain form number ask)
resolved names (written.ObtainList form number lengths start areas) = Some (request.ObtainList form number lengths start)
resolved names (written.Release form number location n) = option_map (λ a. request.Release form number (place_at a n)) (address_of names location)
resolved names (written.ReleaseArea form number area) = option_map (λ p. request.Release form number p) (get names area)
resolved names (written.ReleaseList form number locations lengths) = option_map (λ ps. request.ReleaseList form number ps) (places_of names locations lengths)
resolved names (written.ReleaseWhole form number) = Some (request.ReleaseWhole form number)
resolved names (written.Build pool number size primary secondary loc) = Some (request.Build pool number size primary secondary loc)
resolved names (written.Get pool conditional cell) = Some (request.Get pool conditional)
resolved names (written.Free pool cell) = option_map (λ a. request.Free pool a) (address_of names cell)
resolved names (written.Delete pool) = Some (request.Delete pool)
resolved names (written.Attach name gifts residence) = Some (request.Attach name gifts residence)
resolved names written.Return = Some request.Return
resolved names (written.Abend n) = Some (request.Abend n)
resolved names (written.Show location n) = option_map (λ a. request.Show a n) (address_of names location)
resolved names (written.Put location bytes) = option_map (λ a. request.Put a bytes) (address_of names location)
resolved names (written.Move to from n) = option_and_then (λ a. option_map (λ b. request.Move a b n) (address_of names from)) (address_of names to)

-- the name that an address is written by, if it is
abbrev pub name_in : Location → List Name
name_in (Absolute a) = []
name_in (Named name n) = name ∷ []

-- the names that a request looks up, from the left
abbrev pub looked_up : SourceRequest → List Name
looked_up (written.Release form number location n) = name_in location
looked_up (written.ReleaseArea form number area) = area ∷ []
looked_up (written.ReleaseList form number locations lengths) = flat_map name_in locations
looked_up (written.Free pool cell) = name_in cell
looked_up (written.Show location n) = name_in location
looked_up (written.Put location bytes) = name_in location
looked_up (written.Move to from n) = flat_map name_in (to ∷ from ∷ [])
looked_up (written.Obtain form number ask variable area) = []
looked_up (written.ObtainList form number lengths start areas) = []
looked_up (written.ReleaseWhole form number) = []
looked_up (written.Build pool number size primary secondary loc) = []
looked_up (written.Get pool conditional cell) = []
looked_up (written.Delete pool) = []
looked_up (written.Attach name gifts residence) = []
looked_up written.Return = []
looked_up (written.Abend code) = []

-- the first of some names that is not set
abbrev pub first_unset : FinMap name_cmp PlaceValue → List Name → Option Name
first_unset names looked = find (λ name. not (is_some (get names name))) looked

-- the names that a request sets
abbrev pub names_set : SourceRequest → List Name
names_set (written.Obtain form number ask variable area) = area ∷ []
names_set (written.ObtainList form number lengths start areas) = areas
names_set (written.Get pool conditional cell) = cell ∷ []
names_set (written.Release form number location len) = []
names_set (written.ReleaseArea form number area) = []
names_set (written.ReleaseList form number locations lengths) = []
names_set (written.ReleaseWhole form number) = []
names_set (written.Build pool number size primary secondary loc) = []
names_set (written.Free pool cell) = []
names_set (written.Delete pool) = []
names_set (written.Attach name gifts residence) = []
names_set written.Return = []
names_set (written.Abend code) = []
names_set (written.Show location len) = []
names_set (written.Put location bytes) = []
names_set (written.Move to from len) = []

-- the places that a reply gives to the names
abbrev pub places_in : Reply → List PlaceValue
places_in (Obtained p) = p ∷ []
places_in (Listed ps) = ps
places_in (Cell p) = p ∷ []
places_in _ = []

-- the names with the places that they are given, from the left
abbrev pub all_set : FinMap name_cmp PlaceValue → List Name → List PlaceValue → FinMap name_cmp PlaceValue
all_set names [] ps = names
all_set names (name ∷ more) [] = names
all_set names (name ∷ more) (p ∷ ps) = all_set (insert names name p) more ps
