-- How each statement is written: its operation, its form and its operands, in literals, as docs/SCRIPT.md has them. Each operand is a
-- text that fits its kind (Spelling says which texts the values have), or is left out where it may be, and the line is read as the
-- statement.
use Rattle.std.specs.Prelude.{◌≡◌, ◌==◌, ◌&&◌, ◌||◌, not, ℕ, Bool, false, true, List, [], ◌∷◌, ◌++◌, map, length, Option, None, Some, IfSome, is_some, option_map, unwrap_or, nat_lt, codes, if◌then◌else◌}
use Rattle.std.specs.List.{list_any, AllByRecursion}
use Rattle.mvs_model.specs.declared.code.Form.{Form}
use Rattle.mvs_model.specs.declared.code.Form.TheVariants as form
use Rattle.mvs_model.specs.declared.line.Line.TheVariants as line
use Rattle.mvs_model.specs.declared.line.Statement.{Statement}
use Rattle.mvs_model.specs.declared.line.Statement.TheVariants as says
use Rattle.mvs_model.specs.declared.line.SourceRequest.TheVariants as written
use Rattle.mvs_model.specs.declared.want.Loc.{Loc}
use Rattle.mvs_model.specs.declared.want.Loc.TheVariants as loc
use Rattle.mvs_model.specs.declared.want.Residence.{Residence}
use Rattle.mvs_model.specs.declared.want.Residence.TheVariants as residence
use Rattle.mvs_model.specs.Name.{padded}
use Rattle.mvs_model.specs.Want.{AskValue}
use Rattle.mvs_model.specs.Grammar.{Kind, Number, HexByte, Word, Name, Address, Bytes, Pair, NumberOrPair, Numbers, DistinctNumbers, DistinctNames, Addresses}
use Rattle.mvs_model.specs.Reading.{LineOf, hex_bytes, hex_number, is_list, is_name, is_text, items, largest, location, number, quoted, set_of, smallest}
use Rattle.mvs_model.specs.Spelling.{Fits, FitsAlone, keyword_text, line_text}

-- The line that a task makes of an operation and operands is read as the statement, where it has at most 255 bytes. `first` says whether
-- no statement came before.
abbrev pub SpellsAs : Bool → List ℕ → List (List ℕ) → Statement → Type 0
SpellsAs first operation operands statement =
    (task : List ℕ) → is_name task ≡ true → nat_lt 255 (length (line_text task operation operands)) ≡ false
    → LineOf first (line_text task operation operands) (line.Statement (padded task) statement)

abbrev pub SpellsStatement : List ℕ → List (List ℕ) → Statement → Type 0
SpellsStatement operation operands statement = SpellsAs false operation operands statement

-- ---- keyword operands

-- a keyword operand: its key, what it may be, and its text, where it is written
pub record Operand : Type 0 where
  pub key : List ℕ
  pub kind : Kind
  pub text : Option (List ℕ)

-- one that must be written, and one that may be left out
abbrev pub must : List ℕ → Kind → List ℕ → Operand
must key kind text = record { key = key; kind = kind; text = Some text }

abbrev pub may : List ℕ → Kind → Option (List ℕ) → Operand
may key kind text = record { key = key; kind = kind; text = text }

-- Of some operands each text that is written fits its kind.
pub record AllFit (operands : List Operand) : Type 0 where
  pub each : AllByRecursion (λ o. IfSome o.text (Fits o.kind)) operands

-- the keyword and the text of a given operand, before others
abbrev pub in_front : List ℕ → Option (List ℕ) → List (List ℕ × List ℕ) → List (List ℕ × List ℕ)
in_front key None pairs = pairs
in_front key (Some text) pairs = (key, text) ∷ pairs

-- those that are written
abbrev pub filled : List Operand → List (List ℕ × List ℕ)
filled [] = []
filled (o ∷ os) = in_front o.key o.text (filled os)

-- Positional operands, and the given keywords after them, are the statement if they fit their kinds.
abbrev pub SpellsFilled : Bool → List ℕ → List (List ℕ) → List Operand → Statement → Type 0
SpellsFilled first operation places operands statement = AllFit operands → SpellsAs first operation (places ++ map keyword_text (filled operands)) statement

-- at most one of two is written
abbrev pub NotBoth : Option (List ℕ) → Option (List ℕ) → Type 0
NotBoth one other = (is_some one && is_some other) ≡ false

-- ---- the meaning of operands, with the values of omitted ones

-- the number that is written, or another
abbrev pub number_spelling : ℕ → Option (List ℕ) → ℕ
number_spelling other text = unwrap_or (option_map number text) other

-- the boundary that an area begins on: that of STARTBDY, or a page or a doubleword as BNDRY says, or a doubleword
abbrev pub start_spelling : Option (List ℕ) → Option (List ℕ) → ℕ
start_spelling bndry start = number_spelling (if is_text (codes "PAGE") bndry then 12 else 3) start

-- BELOW or 24, ANY or 31, or the residence of the task
abbrev pub loc_spelling : Option (List ℕ) → Loc
loc_spelling place =
    if is_text (codes "BELOW") place || is_text (codes "24") place then loc.Below
    else (if is_text (codes "ANY") place || is_text (codes "31") place then loc.Any else loc.Res)

-- below, where it does not say above
abbrev pub residence_spelling : Option (List ℕ) → Residence
residence_spelling home = if is_text (codes "ABOVE") home then residence.Above else residence.Below

-- the byte 00, where none is written
abbrev pub fill_spelling : Option (List ℕ) → ℕ
fill_spelling fill = unwrap_or (option_map hex_number fill) 0

-- STORAGE with COND=YES, or without
abbrev pub storage_spelling : Option (List ℕ) → Form
storage_spelling cond = if is_text (codes "YES") cond then form.StorageConditional else form.Storage

-- the number under one key, the numbers of the list under another, or none
abbrev pub numbers_spelling : Option (List ℕ) → Option (List ℕ) → List ℕ
numbers_spelling (Some text) list = number text ∷ []
numbers_spelling None (Some text) = map number (items text)
numbers_spelling None None = []

-- what is asked for: the least and the greatest length, BNDRY, LOC, STARTBDY and CONTBDY
abbrev pub spelled_ask : ℕ → ℕ → Option (List ℕ) → Option (List ℕ) → Option (List ℕ) → Option (List ℕ) → AskValue
spelled_ask least most bndry place start within = record { least = least; most = most; start = start_spelling bndry start; within = option_map number within; loc = loc_spelling place }

-- ---- operands of several statements

abbrev pub length_kind : Kind
length_kind = Number 1 2147483647

abbrev pub lengths_kind : Kind
lengths_kind = Pair 1 2147483647

abbrev pub length_list_kind : Kind
length_list_kind = Numbers 16 1 2147483647

abbrev pub sp : Option (List ℕ) → Operand
sp text = may (codes "SP") (Number 0 255) text

abbrev pub bndry : Option (List ℕ) → Operand
bndry text = may (codes "BNDRY") (Word (codes "DBLWD" ∷ codes "PAGE" ∷ [])) text

abbrev pub loc_word : Option (List ℕ) → Operand
loc_word text = may (codes "LOC") (Word (codes "BELOW" ∷ codes "24" ∷ codes "ANY" ∷ codes "31" ∷ codes "RES" ∷ [])) text

abbrev pub startbdy : Option (List ℕ) → Operand
startbdy text = may (codes "STARTBDY") (Number 3 31) text

abbrev pub contbdy : Option (List ℕ) → Operand
contbdy text = may (codes "CONTBDY") (Number 3 31) text

abbrev pub cond_word : Option (List ℕ) → Operand
cond_word text = may (codes "COND") (Word (codes "YES" ∷ codes "NO" ∷ [])) text

abbrev pub res : Option (List ℕ) → Operand
res text = may (codes "RES") (Word (codes "BELOW" ∷ codes "ABOVE" ∷ [])) text

abbrev pub cpid : List ℕ → Operand
cpid text = must (codes "CPID") Name text

-- ---- GETMAIN and STORAGE OBTAIN

-- lengths, an area's name, a subpool, a boundary
abbrev pub sized_operands : Kind → List ℕ → List ℕ → Option (List ℕ) → Option (List ℕ) → List Operand
sized_operands lengths n area sub boundary = must (codes "LV") lengths n ∷ must (codes "A") Name area ∷ sp sub ∷ bndry boundary ∷ []

-- the same, a location, and a boundary by its word or by powers of two
abbrev pub placed_operands : Kind → List ℕ → List ℕ → Option (List ℕ) → Option (List ℕ) → Option (List ℕ) → Option (List ℕ) → Option (List ℕ) → List Operand
placed_operands lengths n area sub boundary place start within =
    must (codes "LV") lengths n ∷ must (codes "A") Name area ∷ sp sub ∷ bndry boundary ∷ loc_word place ∷ startbdy start ∷ contbdy within ∷ []

-- one length, a boundary
abbrev pub SpellsFixed : List ℕ → Form → Type 0
SpellsFixed word f =
    (n area : List ℕ) (sub boundary : Option (List ℕ))
    → SpellsFilled false (codes "GETMAIN") (word ∷ []) (sized_operands length_kind n area sub boundary)
    (says.Request (written.Obtain f (number_spelling 0 sub) (spelled_ask (number n) (number n) boundary None None None) false (padded area)))

-- a largest and a smallest length, a boundary
abbrev pub SpellsVariable : List ℕ → Form → Type 0
SpellsVariable word f =
    (n area : List ℕ) (sub boundary : Option (List ℕ))
    → SpellsFilled false (codes "GETMAIN") (word ∷ []) (sized_operands lengths_kind n area sub boundary)
    (says.Request (written.Obtain f (number_spelling 0 sub) (spelled_ask (smallest n) (largest n) boundary None None None) true (padded area)))

-- one length, a location, and a boundary by its word or by powers of two
abbrev pub SpellsPlaced : List ℕ → Form → Type 0
SpellsPlaced word f =
    (n area : List ℕ) (sub boundary place start within : Option (List ℕ)) → NotBoth boundary start → NotBoth boundary within
    → SpellsFilled false (codes "GETMAIN") (word ∷ []) (placed_operands length_kind n area sub boundary place start within)
    (says.Request (written.Obtain f (number_spelling 0 sub) (spelled_ask (number n) (number n) boundary place start within) false (padded area)))

-- the same with a largest and a smallest length
abbrev pub SpellsVariablePlaced : List ℕ → Form → Type 0
SpellsVariablePlaced word f =
    (n area : List ℕ) (sub boundary place start within : Option (List ℕ)) → NotBoth boundary start → NotBoth boundary within
    → SpellsFilled false (codes "GETMAIN") (word ∷ []) (placed_operands lengths_kind n area sub boundary place start within)
    (says.Request (written.Obtain f (number_spelling 0 sub) (spelled_ask (smallest n) (largest n) boundary place start within) true (padded area)))

-- lists of lengths and of names, as many of each
abbrev pub SpellsList : List ℕ → Form → Type 0
SpellsList word f =
    (n areas : List ℕ) (sub boundary : Option (List ℕ)) → (length (items n) == length (items areas)) ≡ true
    → SpellsFilled false (codes "GETMAIN") (word ∷ []) (must (codes "LA") length_list_kind n ∷ must (codes "A") (DistinctNames 16) areas ∷ sp sub ∷ bndry boundary ∷ [])
    (says.Request (written.ObtainList f (number_spelling 0 sub) (map number (items n)) (start_spelling boundary None) (map padded (items areas))))

-- STORAGE OBTAIN: one length, or a largest and a smallest one
abbrev pub SpellsObtain : Type 0
SpellsObtain =
    (n area : List ℕ) (sub boundary place start within cond : Option (List ℕ)) → NotBoth boundary start → NotBoth boundary within
    → SpellsFilled false (codes "STORAGE") (codes "OBTAIN" ∷ [])
    (must (codes "LENGTH") (NumberOrPair 1 2147483647) n ∷ must (codes "ADDR") Name area ∷ sp sub ∷ bndry boundary ∷ loc_word place ∷ startbdy start ∷ contbdy within ∷ cond_word cond ∷ [])
    (says.Request (written.Obtain (storage_spelling cond) (number_spelling 0 sub) (spelled_ask (smallest n) (largest n) boundary place start within) (is_list n) (padded area)))

-- ---- FREEMAIN and STORAGE RELEASE

-- a place
abbrev pub SpellsRelease : List ℕ → Form → Type 0
SpellsRelease word f =
    (n address : List ℕ) (sub : Option (List ℕ))
    → SpellsFilled false (codes "FREEMAIN") (word ∷ []) (must (codes "LV") length_kind n ∷ must (codes "A") Address address ∷ sp sub ∷ [])
    (says.Request (written.Release f (number_spelling 0 sub) (location address) (number n)))

-- the whole subpool
abbrev pub SpellsWhole : List ℕ → Form → Type 0
SpellsWhole word f = (sub : Option (List ℕ)) → SpellsFilled false (codes "FREEMAIN") (word ∷ []) (sp sub ∷ []) (says.Request (written.ReleaseWhole f (number_spelling 0 sub)))

-- an area by its name
abbrev pub SpellsArea : List ℕ → Form → Type 0
SpellsArea word f =
    (area : List ℕ) (sub : Option (List ℕ))
    → SpellsFilled false (codes "FREEMAIN") (word ∷ []) (must (codes "A") Name area ∷ sp sub ∷ []) (says.Request (written.ReleaseArea f (number_spelling 0 sub) (padded area)))

-- lists of lengths and of addresses, as many of each
abbrev pub SpellsReleaseList : List ℕ → Form → Type 0
SpellsReleaseList word f =
    (n addresses : List ℕ) (sub : Option (List ℕ)) → (length (items n) == length (items addresses)) ≡ true
    → SpellsFilled false (codes "FREEMAIN") (word ∷ []) (must (codes "LA") length_list_kind n ∷ must (codes "A") (Addresses 16) addresses ∷ sp sub ∷ [])
    (says.Request (written.ReleaseList f (number_spelling 0 sub) (map location (items addresses)) (map number (items n))))

-- STORAGE RELEASE, of a place and of a whole subpool
abbrev pub SpellsStorageRelease : Type 0
SpellsStorageRelease =
    (n address : List ℕ) (sub cond : Option (List ℕ))
    → SpellsFilled false (codes "STORAGE") (codes "RELEASE" ∷ []) (must (codes "LENGTH") length_kind n ∷ must (codes "ADDR") Address address ∷ sp sub ∷ cond_word cond ∷ [])
    (says.Request (written.Release (storage_spelling cond) (number_spelling 0 sub) (location address) (number n)))

abbrev pub SpellsStorageWhole : Type 0
SpellsStorageWhole =
    (sub cond : Option (List ℕ))
    → SpellsFilled false (codes "STORAGE") (codes "RELEASE" ∷ []) (sp sub ∷ cond_word cond ∷ []) (says.Request (written.ReleaseWhole (storage_spelling cond) (number_spelling 0 sub)))

-- ---- CPOOL

abbrev pub SpellsBuild : Type 0
SpellsBuild =
    (pool size primary : List ℕ) (secondary sub place : Option (List ℕ))
    → SpellsFilled false (codes "CPOOL") (codes "BUILD" ∷ [])
    (cpid pool ∷ must (codes "CSIZE") (Number 4 65536) size ∷ must (codes "PCELLCT") (Number 1 65536) primary ∷ may (codes "SCELLCT") (Number 1 65536) secondary ∷ sp sub ∷ loc_word place ∷ [])
    (says.Request (written.Build (padded pool) (number_spelling 0 sub) (number size) (number primary) (number_spelling (number primary) secondary) (loc_spelling place)))

-- by the keyword after GET, or without one
abbrev pub SpellsGet : List (List ℕ) → Bool → Type 0
SpellsGet word conditional =
    (pool cell : List ℕ)
    → SpellsFilled false (codes "CPOOL") (codes "GET" ∷ word) (cpid pool ∷ must (codes "CELL") Name cell ∷ []) (says.Request (written.Get (padded pool) conditional (padded cell)))

abbrev pub SpellsFree : Type 0
SpellsFree =
    (pool cell : List ℕ) → SpellsFilled false (codes "CPOOL") (codes "FREE" ∷ []) (cpid pool ∷ must (codes "CELL") Address cell ∷ []) (says.Request (written.Free (padded pool) (location cell)))

abbrev pub SpellsDelete : Type 0
SpellsDelete = (pool : List ℕ) → SpellsFilled false (codes "CPOOL") (codes "DELETE" ∷ []) (cpid pool ∷ []) (says.Request (written.Delete (padded pool)))

-- ---- tasks

-- a number or a list of numbers that are given, a number or a list of those that are shared, none of them both
abbrev pub SpellsAttach : Type 0
SpellsAttach =
    (name : List ℕ) (gives gives_all shares shares_all zero home : Option (List ℕ)) → NotBoth gives gives_all → NotBoth shares shares_all
    → list_any (λ n. list_any (◌==◌ n) (numbers_spelling shares shares_all)) (numbers_spelling gives gives_all) ≡ false
    → SpellsFilled false (codes "ATTACH") []
    (must (codes "TASK") Name name ∷ may (codes "GSPV") (Number 1 127) gives ∷ may (codes "GSPL") (DistinctNumbers 1 127) gives_all ∷ may (codes "SHSPV") (Number 1 127) shares
    ∷ may (codes "SHSPL") (DistinctNumbers 1 127) shares_all ∷ may (codes "SZERO") (Word (codes "YES" ∷ codes "NO" ∷ [])) zero ∷ res home ∷ [])
    (says.Request (written.Attach (padded name)
    (record { given = set_of (numbers_spelling gives gives_all); shared = set_of (numbers_spelling shares shares_all); zero = not (is_text (codes "NO") zero) }) (residence_spelling home)))

-- ---- each statement

pub record EachIsSpelled : Type 0 where
  pub region : (first : Bool) (below : List ℕ) (above fill home : Option (List ℕ))
      → SpellsFilled first (codes "REGION") [] (must (codes "BELOW") (Number 1 2048) below ∷ may (codes "ABOVE") (Number 0 8192) above ∷ may (codes "FILL") HexByte fill ∷ res home ∷ [])
      (says.Region (number below) (number_spelling 0 above) (fill_spelling fill) (residence_spelling home))
  pub getmain_r : SpellsFixed (codes "R") form.R
  pub getmain_ec : SpellsFixed (codes "EC") form.Ec
  pub getmain_eu : SpellsFixed (codes "EU") form.Eu
  pub getmain_rc : SpellsPlaced (codes "RC") form.Rc
  pub getmain_ru : SpellsPlaced (codes "RU") form.Ru
  pub getmain_vc : SpellsVariable (codes "VC") form.Vc
  pub getmain_vu : SpellsVariable (codes "VU") form.Vu
  pub getmain_vrc : SpellsVariablePlaced (codes "VRC") form.Vrc
  pub getmain_vru : SpellsVariablePlaced (codes "VRU") form.Vru
  pub getmain_lc : SpellsList (codes "LC") form.Lc
  pub getmain_lu : SpellsList (codes "LU") form.Lu
  pub storage_obtain : SpellsObtain
  pub freemain_r : SpellsRelease (codes "R") form.R
  pub freemain_rc : SpellsRelease (codes "RC") form.Rc
  pub freemain_ru : SpellsRelease (codes "RU") form.Ru
  pub freemain_ec : SpellsRelease (codes "EC") form.Ec
  pub freemain_eu : SpellsRelease (codes "EU") form.Eu
  pub whole_r : SpellsWhole (codes "R") form.R
  pub whole_rc : SpellsWhole (codes "RC") form.Rc
  pub whole_ru : SpellsWhole (codes "RU") form.Ru
  pub freemain_vc : SpellsArea (codes "VC") form.Vc
  pub freemain_vu : SpellsArea (codes "VU") form.Vu
  pub freemain_lc : SpellsReleaseList (codes "LC") form.Lc
  pub freemain_lu : SpellsReleaseList (codes "LU") form.Lu
  pub storage_release : SpellsStorageRelease
  pub storage_whole : SpellsStorageWhole
  pub build : SpellsBuild
  pub get : SpellsGet [] false
  pub get_cond : SpellsGet (codes "COND" ∷ []) true
  pub get_c : SpellsGet (codes "C" ∷ []) true
  pub get_uncond : SpellsGet (codes "UNCOND" ∷ []) false
  pub get_u : SpellsGet (codes "U" ∷ []) false
  pub free : SpellsFree
  pub delete : SpellsDelete
  pub attach : SpellsAttach
  pub return : SpellsStatement (codes "RETURN") [] (says.Request written.Return)
  pub abend : (code : List ℕ) → FitsAlone (Number 0 4095) code → SpellsStatement (codes "ABEND") (code ∷ []) (says.Request (written.Abend (number code)))
  pub put : (to bytes : List ℕ) → FitsAlone Address to → FitsAlone (Bytes 100) bytes → SpellsStatement (codes "PUT") (to ∷ bytes ∷ []) (says.Request (written.Put (location to) (hex_bytes (quoted bytes))))
  pub show : (from n : List ℕ) → FitsAlone Address from → FitsAlone (Number 1 4096) n → SpellsStatement (codes "SHOW") (from ∷ n ∷ []) (says.Request (written.Show (location from) (number n)))
  pub move : (to from n : List ℕ) → FitsAlone Address to → FitsAlone Address from → FitsAlone (Number 1 65536) n
      → SpellsStatement (codes "MOVE") (to ∷ from ∷ n ∷ []) (says.Request (written.Move (location to) (location from) (number n)))
  pub where_is : (area : List ℕ) → FitsAlone Name area → SpellsStatement (codes "WHERE") (area ∷ []) (says.Where (padded area))
  pub report_sp : SpellsStatement (codes "REPORT") (codes "SP" ∷ []) says.ReportSubpools
  pub report_map : SpellsStatement (codes "REPORT") (codes "MAP" ∷ []) says.ReportMap
