-- The statement that makes the request of a struct of C.
use Rattle.std.specs.Prelude.{◌≡◌, ◌≢◌, ℕ, zero, suc, ◌-◌, ◌^◌, ◌<◌, ◌≤◌, ◌==◌, Bool, true, false, Result, MatchResult, List, [], ◌∷◌, ◌++◌, length, Option, Some, None, codes, decimal, if◌then◌else◌}
use Rattle.std.specs.FinMap.{FinMap}
use Rattle.mvs_model.specs.declared.code.Form.{Form}
use Rattle.mvs_model.specs.declared.code.Form.TheVariants.{R, Rc, Ru, Vrc, Vru, Ec, Eu, Vc, Vu, Lc, Lu, Storage, StorageConditional}
use Rattle.mvs_model.specs.declared.line.Line.TheVariants as line
use Rattle.mvs_model.specs.declared.line.SourceRequest.{SourceRequest}
use Rattle.mvs_model.specs.declared.line.Statement.TheVariants as says
use Rattle.mvs_model.specs.declared.request.Request.{Request}
use Rattle.mvs_model.specs.declared.request.Request.TheVariants as request
use Rattle.mvs_model.specs.declared.want.Loc.{Loc}
use Rattle.mvs_model.specs.declared.want.Loc.TheVariants as loc
use Rattle.mvs_model.specs.Gifts.{has_bit}
use Rattle.mvs_model.specs.Name.{name_cmp}
use Rattle.mvs_model.specs.Place.{PlaceValue, place_at}
use Rattle.mvs_model.specs.Reading.{LineOf, is_name}
use Rattle.mvs_model.specs.Resolving.{resolved}
use Rattle.mvs_model.specs.Spelling.{absolute_text, list_text}
use Rattle.mvs_c.specs.declared.ask.RawRequest.{RawRequest}
use Rattle.mvs_c.specs.declared.ask.RequestKind.{RequestKind}
use Rattle.mvs_c.specs.declared.ask.RequestKind.TheVariants.{Obtain, Release, ReleaseWhole, Build, Get, Free, Delete, Attach, Return, Abend, Show, Move, SystemAbend}
use Rattle.mvs_c.specs.declared.field.RequestField.{RequestField}
use Rattle.mvs_model.specs.declared.name.Name.{Name}
use Rattle.mvs_c.specs.Exports.{HandsOver}
use Rattle.mvs_c.specs.Asks.{Asks, Fits, IsNamed, TaskAsks, kind_numbered, form_value, is_located, location_value, gifts_value, name_text, name_value, or_else, request_value, within_value}

-- ---- operands

abbrev pub loc_word : Loc → List ℕ
loc_word loc.Res = codes "RES"
loc_word loc.Below = codes "BELOW"
loc_word loc.Any = codes "ANY"

abbrev pub within_text : Option ℕ → List ℕ
within_text None = []
within_text (Some k) = codes ",CONTBDY=" ++ decimal k

-- a doubleword or a page
abbrev pub boundary_word : ℕ → List ℕ
boundary_word n = if n == 12 then codes "PAGE" else codes "DBLWD"

-- one length, or the largest and the smallest one
abbrev pub lengths_text : ℕ → ℕ → List ℕ
lengths_text most least = if least == 0 then decimal most else list_text (decimal most ∷ decimal least ∷ [])

-- what is written before the length of an obtain and of a release, and before an area. An area is released by VC and VU as by EC and EU,
-- since a statement of these names it.
abbrev pub obtain_text : Form → List ℕ
obtain_text R = codes "GETMAIN R,LV="
obtain_text Rc = codes "GETMAIN RC,LV="
obtain_text Ru = codes "GETMAIN RU,LV="
obtain_text Vrc = codes "GETMAIN VRC,LV="
obtain_text Vru = codes "GETMAIN VRU,LV="
obtain_text Ec = codes "GETMAIN EC,LV="
obtain_text Eu = codes "GETMAIN EU,LV="
obtain_text Vc = codes "GETMAIN VC,LV="
obtain_text Vu = codes "GETMAIN VU,LV="
obtain_text Lc = codes "GETMAIN LC,LV="
obtain_text Lu = codes "GETMAIN LU,LV="
obtain_text Storage = codes "STORAGE OBTAIN,LENGTH="
obtain_text StorageConditional = codes "STORAGE OBTAIN,LENGTH="

abbrev pub released_form : Form → Form
released_form Vc = Ec
released_form Vu = Eu
released_form R = R
released_form Rc = Rc
released_form Ru = Ru
released_form Vrc = Vrc
released_form Vru = Vru
released_form Ec = Ec
released_form Eu = Eu
released_form Lc = Lc
released_form Lu = Lu
released_form Storage = Storage
released_form StorageConditional = StorageConditional

abbrev pub free_text : Form → List ℕ
free_text R = codes "FREEMAIN R,"
free_text Rc = codes "FREEMAIN RC,"
free_text Ru = codes "FREEMAIN RU,"
free_text Vrc = codes "FREEMAIN VRC,"
free_text Vru = codes "FREEMAIN VRU,"
free_text Ec = codes "FREEMAIN EC,"
free_text Eu = codes "FREEMAIN EU,"
free_text Vc = codes "FREEMAIN EC,"
free_text Vu = codes "FREEMAIN EU,"
free_text Lc = codes "FREEMAIN LC,"
free_text Lu = codes "FREEMAIN LU,"
free_text Storage = codes "STORAGE RELEASE,"
free_text StorageConditional = codes "STORAGE RELEASE,"

-- the keys of a length and of an area
abbrev pub length_key : Form → List ℕ
length_key Storage = codes "LENGTH="
length_key StorageConditional = codes "LENGTH="
length_key form = codes "LV="

abbrev pub area_key : Form → List ℕ
area_key Storage = codes ",ADDR="
area_key StorageConditional = codes ",ADDR="
area_key form = codes ",A="

-- COND of STORAGE
abbrev pub cond_text : Form → List ℕ
cond_text Storage = codes ",COND=NO"
cond_text StorageConditional = codes ",COND=YES"
cond_text form = []

-- where an area of a form is that has a location, and of one that has none
abbrev pub placed_text : Form → Loc → ℕ → Option ℕ → List ℕ
placed_text form l start within = codes ",LOC=" ++ loc_word l ++ codes ",STARTBDY=" ++ decimal start ++ within_text within ++ cond_text form

abbrev pub where_text : Form → Bool → Loc → ℕ → Option ℕ → List ℕ
where_text form true l start within = placed_text form l start within
where_text form false l start within = codes ",BNDRY=" ++ boundary_word start

-- The numbers of a set from 128 - count to 127, each after a comma, the first one after another byte.
unfoldable pub numbers_text : ℕ → ℕ → ℕ → List ℕ
numbers_text set before zero = []
numbers_text set before (suc count) = if has_bit set (127 - count) then before ∷ decimal (127 - count) ++ numbers_text set 44 count else numbers_text set before count

-- a list of numbers
abbrev pub set_text : List ℕ → ℕ → List ℕ
set_text key set = if set == 0 then [] else key ++ numbers_text set 40 127 ++ codes ")"

-- ---- statements

-- the operation and the operands; an area or a cell that is granted gets this name
abbrev pub operation_text : RequestKind → RawRequest → List ℕ → List ℕ
operation_text Obtain a area =
    obtain_text (form_value a.form) ++ lengths_text a.length a.least ++ area_key (form_value a.form) ++ area ++ codes ",SP=" ++ decimal a.subpool
    ++ where_text (form_value a.form) (is_located (form_value a.form)) (location_value a.location) (or_else a.boundary 3) (within_value a.within)
operation_text Release a area =
    free_text (form_value a.form) ++ length_key (form_value a.form) ++ decimal a.length ++ area_key (form_value a.form) ++ absolute_text a.address ++ codes ",SP=" ++ decimal a.subpool ++ cond_text (form_value a.form)
operation_text ReleaseWhole a area = free_text (form_value a.form) ++ codes "SP=" ++ decimal a.subpool ++ cond_text (form_value a.form)
operation_text Build a area =
    codes "CPOOL BUILD,CPID=" ++ name_text a.name ++ codes ",CSIZE=" ++ decimal a.length ++ codes ",PCELLCT=" ++ decimal a.primary ++ codes ",SCELLCT=" ++ decimal (or_else a.secondary a.primary)
    ++ codes ",SP=" ++ decimal a.subpool ++ codes ",LOC=" ++ loc_word (location_value a.location)
operation_text Get a area = codes "CPOOL GET," ++ (if a.conditional then codes "COND" else codes "UNCOND") ++ codes ",CPID=" ++ name_text a.name ++ codes ",CELL=" ++ area
operation_text Free a area = codes "CPOOL FREE,CPID=" ++ name_text a.name ++ codes ",CELL=" ++ absolute_text a.address
operation_text Delete a area = codes "CPOOL DELETE,CPID=" ++ name_text a.name
operation_text Attach a area = codes "ATTACH TASK=" ++ name_text a.name ++ set_text (codes ",GSPL=") (gifts_value a).given ++ set_text (codes ",SHSPL=") (gifts_value a).shared ++ (if a.keeps_zero then codes ",SZERO=NO" else codes ",SZERO=YES") ++ (if a.above then codes ",RES=ABOVE" else codes ",RES=BELOW")
operation_text Return a area = codes "RETURN "
operation_text Abend a area = codes "ABEND " ++ decimal a.code
operation_text SystemAbend a area = codes "ABEND " ++ decimal a.code
operation_text Show a area = codes "SHOW " ++ absolute_text a.address ++ codes "," ++ decimal a.length
operation_text Move a area = codes "MOVE " ++ absolute_text a.address ++ codes "," ++ absolute_text a.source ++ codes "," ++ decimal a.length

abbrev pub statement_text : RequestKind → RawRequest → List ℕ → List ℕ
statement_text k a area = name_text a.task ++ codes " " ++ operation_text k a area

-- ---- what a statement is read as

-- the request that a statement makes: that of the struct, or a release by EC or EU in place of VC or VU
abbrev pub stated_value : RequestKind → RawRequest → Request
stated_value Release a = request.Release (released_form (form_value a.form)) a.subpool (place_at a.address a.length)
stated_value k a = request_value k a

-- The line is read as a statement of the task, which makes the request whatever names are set.
pub record IsReadAs (task : List ℕ) (r : Request) (text : List ℕ) : Type 0 where
  pub written : SourceRequest
  pub read : LineOf false text (line.Statement task (says.Request written))
  pub request : (names : FinMap name_cmp PlaceValue) → resolved names written ≡ Some r

-- The words that have the subpools of a subtask have 64 bits, as in C.
abbrev pub HasWords : RequestKind → RawRequest → Type 0
HasWords Attach a = (a.given_low < 2 ^ 64) × (a.given_high < 2 ^ 64) × (a.shared_low < 2 ^ 64) × (a.shared_high < 2 ^ 64)
HasWords k a = Unit {0}

-- The statement of each struct whose fields fit is read so, if it has at most 240 bytes.
abbrev pub StatementsAreRead : Type 0
StatementsAreRead = (k : RequestKind) (a : RawRequest) (area : List ℕ) → IsNamed a.task → is_name area ≡ true → ((f : RequestField) → Fits k a f) → HasWords k a
    → length (statement_text k a area) ≤ 240 → IsReadAs (name_value a.task) (stated_value k a) (statement_text k a area)

-- What is returned of the statement of a struct: its text; or nothing, since it is too long, or a field of the struct or the name of an
-- area does not fit.
abbrev pub StatesAs : Option RequestKind → RawRequest → List ℕ → List ℕ → List ℕ → ℕ → ℕ → ℕ → Type 0
StatesAs None a area before after wanted_before wanted status = (after ≡ before) × (wanted ≡ wanted_before) × (status ≡ 52)
StatesAs (Some k) a area before after wanted_before wanted status =
    (status ≢ 44 → HandsOver (statement_text k a area) before after wanted 0 status)
    × (status ≡ 44 → (180 < length (statement_text k a area)) × (after ≡ before) × (wanted ≡ wanted_before))

abbrev pub States : RawRequest → List ℕ → List ℕ → List ℕ → ℕ → ℕ → ℕ → Type 0
States a area before after wanted_before wanted status = (asked : Result (Name × Request) RequestField) × TaskAsks a (Asks a) asked
    × MatchResult asked
    (λ _. (IsNamed area → StatesAs (kind_numbered a.kind) a (name_text area) before after wanted_before wanted status)
    × ((IsNamed area → ⊥) → (after ≡ before) × (wanted ≡ wanted_before) × (status ≡ 52)))
    (λ _. (after ≡ before) × (wanted ≡ wanted_before) × (status ≡ 52))
