-- The statement that makes the list request of a struct of C.
use Rattle.std.specs.Prelude.{◌≡◌, ◌≢◌, ℕ, ◌+◌, ◌<◌, ◌≤◌, Bool, true, false, List, [], ◌∷◌, ◌++◌, length, map, Option, Some, None, Result, MatchResult, codes, decimal}
use Rattle.mvs_model.specs.declared.code.Form.{Form}
use Rattle.mvs_model.specs.declared.code.Form.TheVariants.{Lu}
use Rattle.mvs_model.specs.declared.name.Name.{Name}
use Rattle.mvs_model.specs.declared.request.Request.{Request}
use Rattle.mvs_model.specs.declared.request.Request.TheVariants.{ObtainList, ReleaseList}
use Rattle.mvs_model.specs.Place.{place_at}
use Rattle.mvs_model.specs.Spelling.{absolute_text}
use Rattle.mvs_c.specs.declared.ask.RawRequest.{RawRequest}
use Rattle.mvs_c.specs.declared.ask.RequestKind.{RequestKind}
use Rattle.mvs_c.specs.declared.ask.RequestKind.TheVariants.{Obtain, Release}
use Rattle.mvs_c.specs.declared.field.RequestField.{RequestField}
use Rattle.mvs_c.specs.declared.list.ListArea.{ListArea}
use Rattle.mvs_c.specs.Asks.{IsNamed, TaskAsks, form_value, kind_numbered, name_text, name_value, or_else}
use Rattle.mvs_c.specs.Exports.{HandsOver}
use Rattle.mvs_c.specs.Lists.{AsksList, FitsObtain, FitsRelease}
use Rattle.mvs_c.specs.Statements.{IsReadAs, boundary_word}

-- Some texts, each after a comma, the first one after another byte.
abbrev pub each_text : ℕ → List (List ℕ) → List ℕ
each_text before [] = []
each_text before (text ∷ texts) = before ∷ (text ++ each_text 44 texts)

-- the names that areas get: one name with a letter appended
abbrev pub area_names : {X : Type 0} → List ℕ → ℕ → List X → List (List ℕ)
area_names base letter [] = []
area_names base letter (a ∷ areas) = (base ++ letter ∷ []) ∷ area_names base (letter + 1) areas

-- what an obtain and a release of a list begin with
abbrev pub obtain_word : Form → List ℕ
obtain_word Lu = codes "GETMAIN LU,LA="
obtain_word form = codes "GETMAIN LC,LA="

abbrev pub release_word : Form → List ℕ
release_word Lu = codes "FREEMAIN LU,LA="
release_word form = codes "FREEMAIN LC,LA="

-- the two kinds of requests that have lists
abbrev pub list_kind : Bool → RequestKind
list_kind true = Obtain
list_kind false = Release

-- the operation and the operands
abbrev pub list_text_of : RequestKind → RawRequest → List ListArea → List ℕ → List ℕ
list_text_of Obtain a areas base =
    obtain_word (form_value a.form) ++ each_text 40 (map decimal (map (λ x. x.length) areas)) ++ codes "),A=" ++ each_text 40 (area_names base 65 areas) ++ codes "),SP=" ++ decimal a.subpool
    ++ codes ",BNDRY=" ++ boundary_word (or_else a.boundary 3)
list_text_of Release a areas base =
    release_word (form_value a.form) ++ each_text 40 (map decimal (map (λ x. x.length) areas)) ++ codes "),A=" ++ each_text 40 (map absolute_text (map (λ x. x.address) areas)) ++ codes "),SP=" ++ decimal a.subpool
list_text_of _ a areas base = []

abbrev pub list_statement_text : RequestKind → RawRequest → List ListArea → List ℕ → List ℕ
list_statement_text k a areas base = name_text a.task ++ codes " " ++ list_text_of k a areas base

-- A letter can be appended to the name.
abbrev pub IsBase : List ℕ → Type 0
IsBase bytes = IsNamed bytes × (length (name_text bytes) ≤ 7)

-- the list request that a struct of a kind asks for, if its fields fit
abbrev pub list_request_value : RequestKind → RawRequest → List ListArea → Request
list_request_value Obtain a areas = ObtainList (form_value a.form) a.subpool (map (λ x. x.length) areas) (or_else a.boundary 3)
list_request_value _ a areas = ReleaseList (form_value a.form) a.subpool (map (λ x. place_at x.address x.length) areas)

-- The fields of a list request of a kind fit.
abbrev pub FitList : RequestKind → RawRequest → List ListArea → RequestField → Type 0
FitList Obtain a areas f = FitsObtain a areas f
FitList _ a areas f = FitsRelease a areas f

-- The statement of each list request whose fields fit is read as that request, if it has at most 240 bytes.
abbrev pub ListStatementsAreRead : Type 0
ListStatementsAreRead = (obtains : Bool) (a : RawRequest) (areas : List ListArea) (base : List ℕ) → IsNamed a.task → IsBase base → ((f : RequestField) → FitList (list_kind obtains) a areas f)
    → length (list_statement_text (list_kind obtains) a areas (name_text base)) ≤ 240
    → IsReadAs (name_value a.task) (list_request_value (list_kind obtains) a areas) (list_statement_text (list_kind obtains) a areas (name_text base))

-- What is returned of the statement of a list request: its text; or nothing, since it is too long, or a field does not fit.
abbrev pub StatesListAs : Option RequestKind → RawRequest → List ListArea → List ℕ → List ℕ → List ℕ → ℕ → ℕ → ℕ → Type 0
StatesListAs None a areas base before after wanted_before wanted status = (after ≡ before) × (wanted ≡ wanted_before) × (status ≡ 52)
StatesListAs (Some k) a areas base before after wanted_before wanted status =
    (status ≢ 44 → HandsOver (list_statement_text k a areas base) before after wanted 0 status)
    × (status ≡ 44 → (199 < length (list_statement_text k a areas base)) × (after ≡ before) × (wanted ≡ wanted_before))

abbrev pub StatesList : RawRequest → List ListArea → List ℕ → List ℕ → List ℕ → ℕ → ℕ → ℕ → Type 0
StatesList a areas base before after wanted_before wanted status = (asked : Result (Name × Request) RequestField) × TaskAsks a (AsksList a areas) asked
    × MatchResult asked
    (λ _. (IsBase base → StatesListAs (kind_numbered a.kind) a areas (name_text base) before after wanted_before wanted status)
    × ((IsBase base → ⊥) → (after ≡ before) × (wanted ≡ wanted_before) × (status ≡ 52)))
    (λ _. (after ≡ before) × (wanted ≡ wanted_before) × (status ≡ 52))
