-- What a text starts with, and the operands of the statements that are read plainly.
use Rattle.std.specs.Prelude.{◌≡◌, ◌≤◌, ℕ, nat_le, nat_lt, ◌==◌, ◌&&◌, Bool, true, false, List, [], ◌∷◌, ◌++◌, length, Option, Some, None, codes, if◌then◌else◌}
use Rattle.std.specs.List.{list_all}
use Rattle.mvs_model.specs.declared.code.Form.{Form}
use Rattle.mvs_model.specs.declared.code.Form.TheVariants as form
use Rattle.mvs_model.specs.declared.line.Line.{Line}
use Rattle.mvs_model.specs.declared.line.Location.TheVariants.{Named}
use Rattle.mvs_model.specs.declared.name.Name.{Name}
use Rattle.mvs_model.specs.declared.want.Loc.{Loc}
use Rattle.mvs_model.specs.declared.want.Loc.TheVariants as loc
use Rattle.mvs_model.specs.Name.{padded}
use Rattle.mvs_model.specs.Grammar as grammar
use Rattle.mvs_model.specs.Reading.{LineOf, is_name, location, number}
use Rattle.mvs_model.specs.Spelling.{Fits, FitsAlone}

-- A text that fits a kind comes first, and the rest after it.
pub record IsFront (kind : grammar.Kind) (text value rest : List ℕ) : Type 0 where
  pub whole : text ≡ value ++ rest
  pub alone : FitsAlone kind value

-- The text starts with a number from a least to a greatest one.
pub record IsNumberFront (least most : ℕ) (text : List ℕ) (n : ℕ) (digits rest : List ℕ) : Type 0 where
  pub front : IsFront (grammar.Number least most) text digits rest
  pub value : n ≡ number digits
  pub low : least ≤ n
  pub high : n ≤ most

-- The text starts with an address by a name, with an offset or without one.
pub record IsAddressFront (text name : List ℕ) (offset : ℕ) (address rest : List ℕ) : Type 0 where
  pub front : IsFront grammar.Address text address rest
  pub named : is_name name ≡ true
  pub location_is : Named (padded name) offset ≡ location address
  pub near : offset ≤ 33554431

-- what can follow operands: nothing, or a remark after a blank
abbrev pub is_remark : List ℕ → Bool
is_remark [] = true
is_remark (b ∷ bs) = (b == 32) && list_all (λ b. nat_le 32 b && nat_le b 126) bs

-- the text starts with the number of a subpool, or has none there, which means 0
abbrev pub IsSubpoolFront : List ℕ → ℕ → Option (List ℕ) → List ℕ → Type 0
IsSubpoolFront text n None rest = (text ≡ rest) × (n ≡ 0)
IsSubpoolFront text n (Some sp) rest = (text ≡ codes ",SP=" ++ (sp ++ rest)) × Fits (grammar.Number 0 255) sp × (n ≡ number sp)

-- the operand that asks for a place in storage, and whether a form takes it; without one it is that of the task
abbrev pub loc_text : Loc → List ℕ
loc_text loc.Any = codes ",LOC=ANY"
loc_text loc.Below = codes ",LOC=BELOW"
loc_text loc.Res = []

abbrev pub may_place : Form → Loc → Bool
may_place f loc.Res = true
may_place form.R l = false
may_place f l = true

-- the forms that both GETMAIN and FREEMAIN have for one area, and their words
abbrev pub is_single : Form → Bool
is_single form.R = true
is_single form.Rc = true
is_single form.Ru = true
is_single form.Vrc = false
is_single form.Vru = false
is_single form.Ec = false
is_single form.Eu = false
is_single form.Vc = false
is_single form.Vu = false
is_single form.Lc = false
is_single form.Lu = false
is_single form.Storage = false
is_single form.StorageConditional = false

abbrev pub form_word : Form → List ℕ
form_word form.R = codes "R"
form_word form.Rc = codes "RC"
form_word form.Ru = codes "RU"
form_word form.Vrc = []
form_word form.Vru = []
form_word form.Ec = []
form_word form.Eu = []
form_word form.Vc = []
form_word form.Vu = []
form_word form.Lc = []
form_word form.Lu = []
form_word form.Storage = []
form_word form.StorageConditional = []

-- Operands begin with such a form and a length, and with a keyword that this text follows.
pub record IsSized (field : List ℕ) (f : Form) (n : ℕ) (digits rest : List ℕ) : Type 0 where
  pub form_is : is_single f ≡ true
  pub fits : Fits (grammar.Number 1 2147483647) digits
  pub length_is : n ≡ number digits
  pub low : 1 ≤ n
  pub high : n ≤ 2147483647
  pub whole : field ≡ form_word f ++ (codes ",LV=" ++ (digits ++ (codes ",A=" ++ rest)))

-- Operands begin with the name of a cell pool, and with a keyword that this text follows.
pub record IsPooled (field name rest : List ℕ) : Type 0 where
  pub fits : Fits grammar.Name name
  pub whole : field ≡ codes "CPID=" ++ (name ++ (codes ",CELL=" ++ rest))

-- The line of a task that continues with a text has this meaning, if it has at most 255 bytes.
abbrev pub SpellsAfter : List ℕ → Name → Line → Type 0
SpellsAfter rest task l =
    (text : List ℕ) → is_name text ≡ true → task ≡ padded text → nat_lt 255 (length (text ++ rest)) ≡ false → LineOf false (text ++ rest) l

-- CPOOL GET up to its operands, conditional or not
abbrev pub get_text : Bool → List ℕ
get_text conditional = if conditional then codes " CPOOL GET,C," else codes " CPOOL GET,"
