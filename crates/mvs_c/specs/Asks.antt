-- The requests that a struct of C asks for. Its numbers are this project's choice; its ranges are those of the operands of a statement.
use Rattle.std.specs.Prelude.{◌≡◌, ℕ, ◌+◌, ◌*◌, ◌^◌, ◌<◌, ◌≤◌, ◌==◌, ◌||◌, ◌⊎◌, Bool, true, false, not, List, [], ◌∷◌, take, Option, Some, None, Result, Ok, Err, IfSome, MatchOption, MatchResult, slice_get, if◌then◌else◌}
use Rattle.std.specs.List.{position_or_len}
use Rattle.std.specs.Option.{unwrap_or}
use Rattle.mvs_model.specs.declared.code.Form.{Form}
use Rattle.mvs_model.specs.declared.code.Form.TheVariants.{R, Rc, Ru, Vrc, Vru, Ec, Eu, Vc, Vu, Lc, Lu, Storage, StorageConditional}
use Rattle.mvs_model.specs.declared.name.Name.{Name}
use Rattle.mvs_model.specs.declared.request.Request.{Request}
use Rattle.mvs_model.specs.declared.request.Request.TheVariants as request
use Rattle.mvs_model.specs.declared.want.Loc.{Loc}
use Rattle.mvs_model.specs.declared.want.Loc.TheVariants as loc
use Rattle.mvs_model.specs.declared.want.Residence.{Residence}
use Rattle.mvs_model.specs.declared.want.Residence.TheVariants as residence
use Rattle.mvs_model.specs.Gifts.{GiftsValue, IsGifts}
use Rattle.mvs_model.specs.Name.{padded}
use Rattle.mvs_model.specs.Numbers.{least_cell_bytes, most_cell_bytes, most_cells, most_shown, most_moved}
use Rattle.mvs_model.specs.Place.{place_at}
use Rattle.mvs_model.specs.Reading.{is_name}
use Rattle.mvs_model.specs.Want.{AskValue, IsExponent}
use Rattle.mvs_c.specs.declared.ask.RawRequest.{RawRequest}
use Rattle.mvs_c.specs.declared.field.RequestField.{RequestField}
use Rattle.mvs_c.specs.declared.field.RequestField.TheVariants as field
use Rattle.mvs_c.specs.declared.ask.RequestKind.{RequestKind}
use Rattle.mvs_c.specs.declared.ask.RequestKind.TheVariants.{Obtain, Release, ReleaseWhole, Build, Get, Free, Delete, Attach, Return, Abend, Show, Move, SystemAbend}

-- the kinds of requests and the forms, by their numbers from 1 on; 0 is none
abbrev pub kinds : List (Option RequestKind)
kinds = None ∷ Some Obtain ∷ Some Release ∷ Some ReleaseWhole ∷ Some Build ∷ Some Get ∷ Some Free ∷ Some Delete ∷ Some Attach ∷ Some Return ∷ Some Abend ∷ Some Show ∷ Some Move ∷ Some SystemAbend ∷ []

abbrev pub forms : List (Option Form)
forms = None ∷ Some R ∷ Some Rc ∷ Some Ru ∷ Some Vrc ∷ Some Vru ∷ Some Ec ∷ Some Eu ∷ Some Vc ∷ Some Vu ∷ Some Storage ∷ Some StorageConditional ∷ Some Lc ∷ Some Lu ∷ []

abbrev pub kind_numbered : ℕ → Option RequestKind
kind_numbered n = unwrap_or (slice_get kinds n) None

abbrev pub form_numbered : ℕ → Option Form
form_numbered n = unwrap_or (slice_get forms n) None

-- the locations; 0 is as in a statement without LOC
abbrev pub locations : List Loc
locations = loc.Res ∷ loc.Below ∷ loc.Any ∷ []

abbrev pub location_value : ℕ → Loc
location_value n = unwrap_or (slice_get locations n) loc.Res

-- how many lengths a form takes: one; the greatest and the least; or either
abbrev pub takes_least : Form → Bool
takes_least Vrc = true
takes_least Vru = true
takes_least Vc = true
takes_least Vu = true
takes_least Storage = true
takes_least StorageConditional = true
takes_least R = false
takes_least Rc = false
takes_least Ru = false
takes_least Ec = false
takes_least Eu = false
takes_least Lc = false
takes_least Lu = false

abbrev pub needs_least : Form → Bool
needs_least Vrc = true
needs_least Vru = true
needs_least Vc = true
needs_least Vu = true
needs_least Storage = false
needs_least StorageConditional = false
needs_least R = false
needs_least Rc = false
needs_least Ru = false
needs_least Ec = false
needs_least Eu = false
needs_least Lc = false
needs_least Lu = false

-- whether a form takes LOC, STARTBDY and CONTBDY
abbrev pub is_located : Form → Bool
is_located Rc = true
is_located Ru = true
is_located Vrc = true
is_located Vru = true
is_located Storage = true
is_located StorageConditional = true
is_located R = false
is_located Ec = false
is_located Eu = false
is_located Vc = false
is_located Vu = false
is_located Lc = false
is_located Lu = false

-- what a form takes: an obtain of one area; a release of one area; a release of a whole subpool
abbrev pub obtains_one : Form → Bool
obtains_one Lc = false
obtains_one Lu = false
obtains_one R = true
obtains_one Rc = true
obtains_one Ru = true
obtains_one Vrc = true
obtains_one Vru = true
obtains_one Ec = true
obtains_one Eu = true
obtains_one Vc = true
obtains_one Vu = true
obtains_one Storage = true
obtains_one StorageConditional = true

abbrev pub releases_one : Form → Bool
releases_one R = true
releases_one Rc = true
releases_one Ru = true
releases_one Ec = true
releases_one Eu = true
releases_one Vc = true
releases_one Vu = true
releases_one Storage = true
releases_one StorageConditional = true
releases_one Vrc = false
releases_one Vru = false
releases_one Lc = false
releases_one Lu = false

abbrev pub releases_whole : Form → Bool
releases_whole R = true
releases_whole Rc = true
releases_whole Ru = true
releases_whole Storage = true
releases_whole StorageConditional = true
releases_whole Vrc = false
releases_whole Vru = false
releases_whole Ec = false
releases_whole Eu = false
releases_whole Vc = false
releases_whole Vu = false
releases_whole Lc = false
releases_whole Lu = false

-- a number, or another one in the place of 0
abbrev pub or_else : ℕ → ℕ → ℕ
or_else n other = if n == 0 then other else n

-- the exponent of the boundary not to cross; 0 is none
abbrev pub within_value : ℕ → Option ℕ
within_value n = if n == 0 then None else Some n

-- what is asked for by an obtain: with no least length the greatest one is the least, and with no boundary it is a doubleword
abbrev pub ask_value : RawRequest → AskValue
ask_value a = record { least = or_else a.least a.length; most = a.length; start = or_else a.boundary 3; within = within_value a.within; loc = location_value a.location }

-- a name of eight bytes ends before the first blank or zero byte
abbrev pub ends_name : ℕ → Bool
ends_name b = (b == 0) || (b == 32)

abbrev pub name_text : List ℕ → List ℕ
name_text bytes = take (position_or_len ends_name bytes) bytes

abbrev pub name_value : List ℕ → Name
name_value bytes = padded (name_text bytes)

-- what an attaching task gives and shares
abbrev pub gifts_value : RawRequest → GiftsValue
gifts_value a = record { given = a.given_low + 2 ^ 64 * a.given_high; shared = a.shared_low + 2 ^ 64 * a.shared_high; zero = not a.keeps_zero }

-- where a program resides
abbrev pub residence_value : Bool → Residence
residence_value false = residence.Below
residence_value true = residence.Above

-- The text is a name as a script has them.
abbrev pub IsNamed : List ℕ → Type 0
IsNamed bytes = is_name (name_text bytes) ≡ true

-- A length of an area; how many cells a part of a pool has.
abbrev pub IsLength : ℕ → Type 0
IsLength n = (1 ≤ n) × (n < 2 ^ 31)

abbrev pub IsCount : ℕ → Type 0
IsCount n = (1 ≤ n) × (n ≤ most_cells)

-- The form is one that a kind of request takes.
abbrev pub TakesForm : (Form → Bool) → ℕ → Type 0
TakesForm takes n = MatchOption (form_numbered n) ⊥ (λ form. takes form ≡ true)

-- The least length of an obtain of this form.
abbrev pub IsLeast : Form → ℕ → ℕ → Type 0
IsLeast form most n = (or_else n most ≤ most) × (needs_least form ≡ true → 1 ≤ n) × (takes_least form ≡ false → n ≡ 0)

-- The boundary to begin on, the boundary not to cross, and the location of an obtain of this form. A form that is not located takes
-- a doubleword or a page.
abbrev pub IsStart : Form → ℕ → Type 0
IsStart form n = IsExponent (or_else n 3) × (is_located form ≡ false → (or_else n 3 ≡ 3) ⊎ (n ≡ 12))

abbrev pub IsWithin : Form → ℕ → Type 0
IsWithin form n = IfSome (within_value n) IsExponent × (is_located form ≡ false → n ≡ 0)

abbrev pub IsLocation : Form → ℕ → Type 0
IsLocation form n = (n < 3) × (is_located form ≡ false → n ≡ 0)

-- the form of a number; of a number that is none the first one
abbrev pub form_value : ℕ → Form
form_value n = unwrap_or (form_numbered n) R

-- The field of a request of this kind is in its range. A field that the kind does not read is not looked at.
abbrev pub Fits : RequestKind → RawRequest → RequestField → Type 0
Fits Obtain a field.Form = TakesForm obtains_one a.form
Fits Obtain a field.Subpool = a.subpool < 256
Fits Obtain a field.Length = IsLength a.length
Fits Obtain a field.Least = IsLeast (form_value a.form) a.length a.least
Fits Obtain a field.Boundary = IsStart (form_value a.form) a.boundary
Fits Obtain a field.Within = IsWithin (form_value a.form) a.within
Fits Obtain a field.Location = IsLocation (form_value a.form) a.location
Fits Release a field.Form = TakesForm releases_one a.form
Fits Release a field.Subpool = a.subpool < 256
Fits Release a field.Length = IsLength a.length
Fits Release a field.Address = a.address < 2 ^ 31
Fits ReleaseWhole a field.Form = TakesForm releases_whole a.form
Fits ReleaseWhole a field.Subpool = a.subpool < 256
Fits Build a field.Name = IsNamed a.name
Fits Build a field.Subpool = a.subpool < 256
Fits Build a field.Length = (least_cell_bytes ≤ a.length) × (a.length ≤ most_cell_bytes)
Fits Build a field.Primary = IsCount a.primary
Fits Build a field.Secondary = IsCount (or_else a.secondary a.primary)
Fits Build a field.Location = a.location < 3
Fits Get a field.Name = IsNamed a.name
Fits Free a field.Name = IsNamed a.name
Fits Free a field.Address = a.address < 2 ^ 31
Fits Delete a field.Name = IsNamed a.name
Fits Attach a field.Name = IsNamed a.name
Fits Attach a field.Subpools = IsGifts (gifts_value a)
Fits Abend a field.Code = a.code < 4096
Fits SystemAbend a field.Code = a.code < 4096
Fits Show a field.Address = a.address < 2 ^ 31
Fits Show a field.Length = (1 ≤ a.length) × (a.length ≤ most_shown)
Fits Move a field.Address = a.address < 2 ^ 31
Fits Move a field.Source = a.source < 2 ^ 31
Fits Move a field.Length = (1 ≤ a.length) × (a.length ≤ most_moved)
Fits k a f = Unit {0}

-- the fields that a kind reads, in the order in which they are checked
abbrev pub reads : RequestKind → List RequestField
reads Obtain = field.Form ∷ field.Subpool ∷ field.Length ∷ field.Least ∷ field.Boundary ∷ field.Within ∷ field.Location ∷ []
reads Release = field.Form ∷ field.Subpool ∷ field.Length ∷ field.Address ∷ []
reads ReleaseWhole = field.Form ∷ field.Subpool ∷ []
reads Build = field.Subpool ∷ field.Length ∷ field.Location ∷ field.Primary ∷ field.Secondary ∷ field.Name ∷ []
reads Get = field.Name ∷ []
reads Free = field.Address ∷ field.Name ∷ []
reads Delete = field.Name ∷ []
reads Attach = field.Subpools ∷ field.Name ∷ []
reads Return = []
reads Abend = field.Code ∷ []
reads SystemAbend = field.Code ∷ []
reads Show = field.Length ∷ field.Address ∷ []
reads Move = field.Length ∷ field.Address ∷ field.Source ∷ []

-- The result is what is wanted if all these fields fit, and else the first that does not.
abbrev pub FitsOr : {X : Type 0} → (RequestField → Type 0) → List RequestField → X → Result X RequestField → Type 0
FitsOr fits [] wanted r = r ≡ Ok wanted
FitsOr fits (f ∷ fs) wanted r = (fits f → FitsOr fits fs wanted r) × ((fits f → ⊥) → r ≡ Err f)

-- the request that a struct of a kind asks for, if its fields fit; an abend with a system code is one with the user code of the same
-- number, since the state after an abend does not depend on its code
abbrev pub request_value : RequestKind → RawRequest → Request
request_value Obtain a = request.Obtain (form_value a.form) a.subpool (ask_value a)
request_value Release a = request.Release (form_value a.form) a.subpool (place_at a.address a.length)
request_value ReleaseWhole a = request.ReleaseWhole (form_value a.form) a.subpool
request_value Build a = request.Build (name_value a.name) a.subpool a.length a.primary (or_else a.secondary a.primary) (location_value a.location)
request_value Get a = request.Get (name_value a.name) a.conditional
request_value Free a = request.Free (name_value a.name) a.address
request_value Delete a = request.Delete (name_value a.name)
request_value Attach a = request.Attach (name_value a.name) (gifts_value a) (residence_value a.above)
request_value Return a = request.Return
request_value Abend a = request.Abend a.code
request_value SystemAbend a = request.Abend a.code
request_value Show a = request.Show a.address a.length
request_value Move a = request.Move a.address a.source a.length

-- The request of a struct of this kind, or the first field that does not fit.
pub record AsksOf (k : RequestKind) (a : RawRequest) (r : Result Request RequestField) : Type 0 where
  pub first : FitsOr (Fits k a) (reads k) (request_value k a) r

-- a request that is written over another, or the field that does not fit
abbrev pub answer_of : Option RequestField → Request → Result Request RequestField
answer_of None r = Ok r
answer_of (Some f) r = Err f

-- The number of bytes of a struct, which it has to have in its own field.
abbrev pub ask_bytes : ℕ
ask_bytes = 112

-- The request of a struct of any kind that is one of these.
abbrev pub AsksFor : (RequestKind → Result Request RequestField → Type 0) → Option RequestKind → Result Request RequestField → Type 0
AsksFor asks None r = r ≡ Err field.Kind
AsksFor asks (Some k) r = asks k r

abbrev pub Asks : RawRequest → Result Request RequestField → Type 0
Asks a r = AsksFor (λ k r. AsksOf k a r) (kind_numbered a.kind) r

-- The size, and the name of the task.
abbrev pub FitsTask : RawRequest → RequestField → Type 0
FitsTask a field.Size = a.size ≡ ask_bytes
FitsTask a field.Task = IsNamed a.task
FitsTask a f = Unit {0}

-- the task that is named, if the size and its name fit
abbrev pub NamesTask : RawRequest → Result Name RequestField → Type 0
NamesTask a r = FitsOr (FitsTask a) (field.Size ∷ field.Task ∷ []) (name_value a.task) r

-- a request with its task
abbrev pub with_task : Name → Result Request RequestField → Result (Name × Request) RequestField
with_task t (Ok request) = Ok (t, request)
with_task t (Err f) = Err f

-- The task that is named with the request that a struct may ask for, or the first field that does not fit.
abbrev pub TaskAsks : RawRequest → (Result Request RequestField → Type 0) → Result (Name × Request) RequestField → Type 0
TaskAsks a asks r = (task : Result Name RequestField) × NamesTask a task
    × MatchResult task (λ t. (request : Result Request RequestField) × asks request × (r ≡ with_task t request)) (λ f. r ≡ Err f)

-- a request that is written over another, with the task that makes it
abbrev pub named_answer : Result Name RequestField → Request → Result (Name × Request) RequestField
named_answer (Ok t) r = Ok (t, r)
named_answer (Err f) r = Err f
