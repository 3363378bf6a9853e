-- A list request that C gives by a struct and its areas. The numbers are this project's choice.
use Rattle.std.specs.Prelude.{◌≡◌, ℕ, ◌^◌, ◌<◌, ◌≤◌, ◌⊎◌, Bool, true, false, List, [], ◌∷◌, length, map, Result, Err}
use Rattle.std.specs.List.{AllByRecursion}
use Rattle.mvs_model.specs.declared.code.Form.{Form}
use Rattle.mvs_model.specs.declared.code.Form.TheVariants.{R, Rc, Ru, Vrc, Vru, Ec, Eu, Vc, Vu, Lc, Lu, Storage, StorageConditional}
use Rattle.mvs_model.specs.declared.request.Request.{Request}
use Rattle.mvs_model.specs.declared.request.Request.TheVariants.{ObtainList, ReleaseList}
use Rattle.mvs_model.specs.declared.request.Reply.{Reply}
use Rattle.mvs_model.specs.declared.request.Reply.TheVariants.{NotRun, Rc0, Rc4, Obtained, Listed, Cell, NoCell, Attached, Ended, Done, Abended}
use Rattle.mvs_model.specs.Numbers.{most_items}
use Rattle.mvs_model.specs.Place.{PlaceValue, place_at}
use Rattle.mvs_c.specs.declared.ask.RawRequest.{RawRequest}
use Rattle.mvs_c.specs.declared.ask.RequestKind.{RequestKind}
use Rattle.mvs_c.specs.declared.ask.RequestKind.TheVariants.{Obtain, Release, ReleaseWhole, Build, Get, Free, Delete, Attach, Return, Abend, Show, Move, SystemAbend}
use Rattle.mvs_c.specs.declared.field.RequestField.{RequestField}
use Rattle.mvs_c.specs.declared.field.RequestField.TheVariants as field
use Rattle.mvs_c.specs.declared.list.ListArea.{ListArea}
use Rattle.mvs_c.specs.Asks.{AsksFor, FitsOr, IsLength, TakesForm, form_value, kind_numbered, or_else}

-- whether a form is that of a list
abbrev pub is_list_form : Form → Bool
is_list_form Lc = true
is_list_form Lu = true
is_list_form R = false
is_list_form Rc = false
is_list_form Ru = false
is_list_form Vrc = false
is_list_form Vru = false
is_list_form Ec = false
is_list_form Eu = false
is_list_form Vc = false
is_list_form Vu = false
is_list_form Storage = false
is_list_form StorageConditional = false

-- The lengths, and the places, are in their ranges, and there are 1 to 16 of them.
abbrev pub AreLengths : List ListArea → Type 0
AreLengths areas = AllByRecursion (λ a. IsLength a.length) areas

abbrev pub ArePlaces : List ListArea → Type 0
ArePlaces areas = AllByRecursion (λ a. (a.address < 2 ^ 31) × IsLength a.length) areas

abbrev pub IsListLength : ℕ → Type 0
IsListLength n = (1 ≤ n) × (n ≤ most_items)

-- The boundary that each area begins on: a doubleword or a page.
abbrev pub IsListStart : ℕ → Type 0
IsListStart n = (or_else n 3 ≡ 3) ⊎ (n ≡ 12)

-- The field of a list request that obtains, or releases, is in its range.
abbrev pub FitsObtain : RawRequest → List ListArea → RequestField → Type 0
FitsObtain a areas field.Form = TakesForm is_list_form a.form
FitsObtain a areas field.Subpool = a.subpool < 256
FitsObtain a areas field.Boundary = IsListStart a.boundary
FitsObtain a areas field.Areas = IsListLength (length areas) × AreLengths areas
FitsObtain a areas f = Unit {0}

abbrev pub FitsRelease : RawRequest → List ListArea → RequestField → Type 0
FitsRelease a areas field.Form = TakesForm is_list_form a.form
FitsRelease a areas field.Subpool = a.subpool < 256
FitsRelease a areas field.Areas = IsListLength (length areas) × ArePlaces areas
FitsRelease a areas f = Unit {0}

-- The list request that obtains, or releases, these areas, or the first field that does not fit.
pub record ObtainsList (a : RawRequest) (areas : List ListArea) (r : Result Request RequestField) : Type 0 where
  pub first : FitsOr (FitsObtain a areas) (field.Form ∷ field.Subpool ∷ field.Boundary ∷ field.Areas ∷ [])
      (ObtainList (form_value a.form) a.subpool (map (λ x. x.length) areas) (or_else a.boundary 3)) r

pub record ReleasesList (a : RawRequest) (areas : List ListArea) (r : Result Request RequestField) : Type 0 where
  pub first : FitsOr (FitsRelease a areas) (field.Form ∷ field.Subpool ∷ field.Areas ∷ [])
      (ReleaseList (form_value a.form) a.subpool (map (λ x. place_at x.address x.length) areas)) r

-- What a struct of any kind asks with a list of areas; kinds that have no lists are refused.
abbrev pub AsksOfList : RawRequest → List ListArea → RequestKind → Result Request RequestField → Type 0
AsksOfList a areas Obtain r = ObtainsList a areas r
AsksOfList a areas Release r = ReleasesList a areas r
AsksOfList a areas ReleaseWhole r = r ≡ Err field.Kind
AsksOfList a areas Build r = r ≡ Err field.Kind
AsksOfList a areas Get r = r ≡ Err field.Kind
AsksOfList a areas Free r = r ≡ Err field.Kind
AsksOfList a areas Delete r = r ≡ Err field.Kind
AsksOfList a areas Attach r = r ≡ Err field.Kind
AsksOfList a areas Return r = r ≡ Err field.Kind
AsksOfList a areas Abend r = r ≡ Err field.Kind
AsksOfList a areas Show r = r ≡ Err field.Kind
AsksOfList a areas Move r = r ≡ Err field.Kind
AsksOfList a areas SystemAbend r = r ≡ Err field.Kind

abbrev pub AsksList : RawRequest → List ListArea → Result Request RequestField → Type 0
AsksList a areas r = AsksFor (λ k r. AsksOfList a areas k r) (kind_numbered a.kind) r

-- the places that a reply grants to a list
abbrev pub listed : Reply → List PlaceValue
listed (Listed ps) = ps
listed NotRun = []
listed Rc0 = []
listed Rc4 = []
listed (Obtained p) = []
listed (Cell p) = []
listed NoCell = []
listed Attached = []
listed Ended = []
listed Done = []
listed (Abended code fallen) = []

-- the areas of a list, with these places in place of the first ones
abbrev pub area_values : List PlaceValue → List ListArea → List ListArea
area_values [] areas = areas
area_values (p ∷ ps) [] = []
area_values (p ∷ ps) (a ∷ areas) = record { address = p.addr; length = p.len } ∷ area_values ps areas
