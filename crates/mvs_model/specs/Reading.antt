-- How a line of a script is parsed: the texts of items, the operands of a statement, the faults, and the meaning. Grammar has the
-- table. (all of this is this project's own notation)
use Rattle.std.specs.Prelude.{◌≡◌, ℕ, ◌+◌, ◌-◌, ◌*◌, ◌%◌, ◌^◌, nat_lt, nat_le, ◌==◌, ◌&&◌, ◌||◌, not, Bool, true, false, if◌then◌else◌, List, [], ◌∷◌, ◌++◌, map, length, take, drop, filter, find, flat_map, Option, Some, None, is_some, unwrap_or, option_map, slice_get, slice_index, codes, bytes_eq, bit_or, Result, Ok, Err}
use Rattle.std.specs.List.{list_any, list_all, before_first, after_first, slice_split, onto_first}
use Rattle.mvs_model.specs.declared.code.Form.{Form}
use Rattle.mvs_model.specs.declared.code.Form.TheVariants as form
use Rattle.mvs_model.specs.declared.want.Loc.{Loc}
use Rattle.mvs_model.specs.declared.want.Loc.TheVariants as loc
use Rattle.mvs_model.specs.declared.want.Residence.{Residence}
use Rattle.mvs_model.specs.declared.want.Residence.TheVariants as residence
use Rattle.mvs_model.specs.declared.line.Fault.{Fault}
use Rattle.mvs_model.specs.declared.line.Fault.TheVariants.{TooLong, InvalidByte, UnknownOperation, InvalidOperand, MissingOperand, OutOfRange, Repeated, Conflicting, OutOfPlace}
use Rattle.mvs_model.specs.declared.line.Line.{Line}
use Rattle.mvs_model.specs.declared.line.Line.TheVariants as line
use Rattle.mvs_model.specs.declared.line.Location.{Location}
use Rattle.mvs_model.specs.declared.line.Location.TheVariants.{Absolute, Named}
use Rattle.mvs_model.specs.declared.line.Statement.{Statement}
use Rattle.mvs_model.specs.declared.line.Statement.TheVariants as says
use Rattle.mvs_model.specs.declared.line.SourceRequest.TheVariants as written
use Rattle.mvs_model.specs.Name.{padded}
use Rattle.mvs_model.specs.Want.{AskValue}
use Rattle.mvs_model.specs.Gifts.{GiftsValue}
use Rattle.mvs_model.specs.Grammar.{Kind, Number, HexByte, Word, Name, Address, Bytes, Pair, NumberOrPair, Numbers, DistinctNumbers, DistinctNames, Addresses, Rule, Together, Excludes, SameLength, Apart, Meaning, IsRegion, Obtains, ObtainsList, Releases, ReleasesArea, ReleasesList, BuildsPool, GetsCell, FreesCell, DeletesPool, Attaches, Returns, Abends, Puts, Shows, Moves, AsksWhere, Reports, Row, table}

-- ---- items: the texts that they are, and what they say

abbrev pub is_empty : {X : Type 0} → List X → Bool
is_empty [] = true
is_empty (x ∷ xs) = false

-- one of these words
abbrev pub is_one_of : List (List ℕ) → List ℕ → Bool
is_one_of words text = list_any (bytes_eq text) words

-- 0 to 9
abbrev pub is_digit : ℕ → Bool
is_digit b = nat_le 48 b && nat_le b 57

-- A number: one or more digits.
abbrev pub is_number : List ℕ → Bool
is_number text = not (is_empty text) && list_all is_digit text

abbrev pub number : List ℕ → ℕ
number [] = 0
number (b ∷ bs) = (b - 48) * 10 ^ length bs + number bs

-- it has at most ten digits and is in this range
abbrev pub is_in_range : ℕ → ℕ → List ℕ → Bool
is_in_range least most text = nat_le (length text) 10 && nat_le least (number text) && nat_le (number text) most

-- 0 to 9 or A to F
abbrev pub is_hex_digit : ℕ → Bool
is_hex_digit b = is_digit b || (nat_le 65 b && nat_le b 70)

abbrev pub hex_digit : ℕ → ℕ
hex_digit b = if is_digit b then b - 48 else b - 65 + 10

abbrev pub hex_number : List ℕ → ℕ
hex_number [] = 0
hex_number (b ∷ bs) = hex_digit b * 16 ^ length bs + hex_number bs

abbrev pub hex_bytes : List ℕ → List ℕ
hex_bytes (high ∷ low ∷ digits) = hex_number (high ∷ low ∷ []) ∷ hex_bytes digits
hex_bytes _ = []

-- A name: one to eight of A to Z, 0 to 9, @, # and $, the first not a digit. It is kept with blanks up to eight bytes.
abbrev pub is_name_byte : ℕ → Bool
is_name_byte b = (nat_le 65 b && nat_le b 90) || is_digit b || (b == 64) || (b == 35) || (b == 36)

abbrev pub is_name : List ℕ → Bool
is_name text = not (is_empty text) && nat_le (length text) 8 && list_all is_name_byte text && not (is_digit (slice_index text 0))

-- X'..', and the text between the quotes
abbrev pub is_quoted : List ℕ → Bool
is_quoted text = nat_le 3 (length text) && bytes_eq (take 2 text) (codes "X'") && bytes_eq (drop (length text - 1) text) (codes "'")

abbrev pub quoted : List ℕ → List ℕ
quoted text = take (length text - 3) (drop 2 text)

-- (..), and the items between the parentheses, with commas between
abbrev pub is_list : List ℕ → Bool
is_list text = nat_le 2 (length text) && bytes_eq (take 1 text) (codes "(") && bytes_eq (drop (length text - 1) text) (codes ")")

abbrev pub items : List ℕ → List (List ℕ)
items text = slice_split (λ b. b == 44) (take (length text - 2) (drop 1 text))

-- An address: X'..' with one to eight digits, or a name, or a name, a plus sign and a number.
abbrev pub is_plus : ℕ → Bool
is_plus b = b == 43

abbrev pub is_absolute : List ℕ → Bool
is_absolute digits = nat_le 1 (length digits) && nat_le (length digits) 8 && list_all is_hex_digit digits

abbrev pub is_named : List ℕ → Bool
is_named text = is_name (before_first is_plus text) && (not (list_any is_plus text) || is_number (after_first is_plus text))

abbrev pub is_address : List ℕ → Bool
is_address text = if is_quoted text then is_absolute (quoted text) else is_named text

abbrev pub is_address_in_range : List ℕ → Bool
is_address_in_range text =
    if is_quoted text then nat_le (hex_number (quoted text)) 0x7FFFFFFF
    else not (list_any is_plus text) || is_in_range 0 33554431 (after_first is_plus text)

abbrev pub location : List ℕ → Location
location text = if is_quoted text then Absolute (hex_number (quoted text)) else Named (padded (before_first is_plus text)) (number (after_first is_plus text))

-- Bytes: X'..' with an even number of digits, but not none.
abbrev pub is_bytes : List ℕ → Bool
is_bytes text = is_quoted text && not (is_empty (quoted text)) && (length (quoted text) % 2 == 0) && list_all is_hex_digit (quoted text)

-- (l,s): two numbers, the largest and the smallest
abbrev pub is_pair : List ℕ → Bool
is_pair text = is_list text && (length (items text) == 2) && list_all is_number (items text)

abbrev pub largest : List ℕ → ℕ
largest text = if is_list text then number (unwrap_or (slice_get (items text) 0) []) else number text

abbrev pub smallest : List ℕ → ℕ
smallest text = if is_list text then number (unwrap_or (slice_get (items text) 1) []) else number text

-- whether there is a duplicate
abbrev pub is_twice : {X : Type 0} → (X → X → Bool) → List X → Bool
is_twice same [] = false
is_twice same (x ∷ xs) = list_any (same x) xs || is_twice same xs

-- ---- the kinds of operands: what is malformed (JS04), has something twice (JS07), is out of its range (JS06)

-- whether the text is of the kind
abbrev pub is_of : Kind → List ℕ → Bool
is_of (Number least most) text = is_number text
is_of HexByte text = (length text == 2) && list_all is_hex_digit text
is_of (Word words) text = is_one_of words text
is_of Name text = is_name text
is_of Address text = is_address text
is_of (Bytes most) text = is_bytes text
is_of (Pair least most) text = is_pair text
is_of (NumberOrPair least most) text = is_number text || is_pair text
is_of (Numbers count least most) text = is_list text && list_all is_number (items text)
is_of (DistinctNumbers least most) text = is_list text && list_all is_number (items text)
is_of (DistinctNames count) text = is_list text && list_all is_name (items text)
is_of (Addresses count) text = is_list text && list_all is_address (items text)

-- whether there is a duplicate in it: numbers are compared by value
abbrev pub repeats : Kind → List ℕ → Bool
repeats (DistinctNumbers least most) text = is_twice ◌==◌ (map number (items text))
repeats (DistinctNames count) text = is_twice bytes_eq (items text)
repeats _ text = false

-- whether each number of a pair is in range, and the smallest is not above the largest
abbrev pub is_pair_in_range : ℕ → ℕ → List ℕ → Bool
is_pair_in_range least most text = list_all (is_in_range least most) (items text) && nat_le (smallest text) (largest text)

-- whether the value is in range
abbrev pub is_within : Kind → List ℕ → Bool
is_within (Number least most) text = is_in_range least most text
is_within HexByte text = true
is_within (Word words) text = true
is_within Name text = true
is_within Address text = is_address_in_range text
is_within (Bytes most) text = nat_le (length (quoted text)) (2 * most)
is_within (Pair least most) text = is_pair_in_range least most text
is_within (NumberOrPair least most) text = if is_list text then is_pair_in_range least most text else is_in_range least most text
is_within (Numbers count least most) text = nat_le (length (items text)) count && list_all (is_in_range least most) (items text)
is_within (DistinctNumbers least most) text = list_all (is_in_range least most) (items text)
is_within (DistinctNames count) text = nat_le (length (items text)) count
is_within (Addresses count) text = nat_le (length (items text)) count && list_all is_address_in_range (items text)

-- ---- the words of a line, and the operands of its third word

-- what is between blanks
abbrev pub words : List ℕ → List (List ℕ)
words bytes = filter (λ word. not (is_empty word)) (slice_split (λ b. b == 32) bytes)

-- a text with this number of open parentheses, split at the commas outside parentheses; an unmatched one is ignored
abbrev pub parts_within : ℕ → List ℕ → List (List ℕ)
parts_within opened [] = [] ∷ []
parts_within opened (b ∷ bs) =
    if (b == 44) && (opened == 0) then [] ∷ parts_within 0 bs
    else onto_first b (parts_within (if b == 40 then opened + 1 else (if b == 41 then opened - 1 else opened)) bs)

-- the operands of a field, which a line may lack
abbrev pub operands_in : Option (List ℕ) → List (List ℕ)
operands_in None = []
operands_in (Some field) = parts_within 0 field

-- An operand with an equals sign has a keyword before it and a text after it. One without is positional.
abbrev pub is_equals : ℕ → Bool
is_equals b = b == 61

abbrev pub has_key : List ℕ → Bool
has_key operand = list_any is_equals operand

abbrev pub key_of : List ℕ → List ℕ
key_of operand = before_first is_equals operand

abbrev pub text_of : List ℕ → List ℕ
text_of operand = if has_key operand then after_first is_equals operand else operand

-- whether it has this key
abbrev pub is_for : List ℕ → List ℕ → Bool
is_for key operand = has_key operand && bytes_eq (key_of operand) key

-- the text under a key, whether there is one, and the positional operands
abbrev pub value_of : List ℕ → List (List ℕ) → Option (List ℕ)
value_of key operands = option_map text_of (find (is_for key) operands)

abbrev pub has : List ℕ → List (List ℕ) → Bool
has key operands = is_some (value_of key operands)

abbrev pub positionals : List (List ℕ) → List (List ℕ)
positionals operands = filter (λ operand. not (has_key operand)) operands

-- The operands of a statement by keyword and position: the text of each keyword, the positional operand at each position, and the
-- number of these. The meaning of a statement depends only on these, so the order of keywords does not matter.
pub record ByKey : Type 0 where
  pub under : List ℕ → Option (List ℕ)
  pub at : ℕ → Option (List ℕ)
  pub count : ℕ

abbrev pub by_key : List (List ℕ) → ByKey
by_key operands = record { under = λ key. value_of key operands; at = λ k. slice_get (positionals operands) k; count = length (positionals operands) }

-- ---- the row of a statement

-- the rows of an operation
abbrev pub rows_of : List ℕ → List Row
rows_of operation = filter (λ row. bytes_eq row.operation operation) table

-- whether the operation takes a form
abbrev pub takes_form : List ℕ → Bool
takes_form operation = list_any (λ row. not (is_empty row.forms)) (rows_of operation)

-- the form, which is the first operand of an operation that has forms, and the operands after it
abbrev pub form_in : List ℕ → List (List ℕ) → List ℕ
form_in operation operands = unwrap_or (slice_get operands 0) []

abbrev pub operands_after_form : Row → List (List ℕ) → List (List ℕ)
operands_after_form row operands = if is_empty row.forms then operands else drop 1 operands

-- the row of an operation, and of its form where it takes one
abbrev pub row_of : List ℕ → List (List ℕ) → Option Row
row_of operation operands = find (λ row. is_empty row.forms || is_one_of row.forms (form_in operation operands)) (rows_of operation)

-- ---- what is wrong with a line

infix 90 ◌when◌
-- a fault and the condition on which it applies
abbrev pub ◌when◌ : Fault → Bool → Fault × Bool
fault when holds = (fault, holds)

-- the first of some faults that applies
abbrev pub first_of : List (Fault × Bool) → Option Fault
first_of [] = None
first_of (check ∷ checks) = if check.1 then Some check.0 else first_of checks

-- each item with those on its left
abbrev pub with_left : {X : Type 0} → List X → List (List X × X)
with_left [] = []
with_left (x ∷ xs) = ([], x) ∷ map (λ p. (x ∷ p.0, p.1)) (with_left xs)

-- what an operand can be: with a keyword as the row has it, without one by its position, and nothing after a keyword
abbrev pub kind_of : Row → List (List ℕ) → List ℕ → Option Kind
kind_of row left operand =
    if has_key operand then option_map (λ k. k.kind) (find (λ k. bytes_eq k.key (key_of operand)) row.keywords)
    else (if list_any has_key left then None else option_map (λ p. p.kind) (slice_get row.positional (length left)))

-- whether a kind that is there passes
abbrev pub if_kind : (Kind → Bool) → Option Kind → Bool
if_kind test None = false
if_kind test (Some kind) = test kind

-- an operand that is not allowed or malformed; a duplicate of a keyword or in a list; a value out of range
abbrev pub operand_checks : Row → List (List ℕ) × List ℕ → List (Fault × Bool)
operand_checks row (left, operand) =
    InvalidOperand when not (if_kind (λ kind. is_of kind (text_of operand)) (kind_of row left operand))
    ∷ Repeated when ((has_key operand && has (key_of operand) left) || if_kind (λ kind. repeats kind (text_of operand)) (kind_of row left operand))
    ∷ OutOfRange when not (if_kind (λ kind. is_within kind (text_of operand)) (kind_of row left operand))
    ∷ []

-- whether a required operand is not there
abbrev pub lacks_positional : Row → ByKey → Bool
lacks_positional row os = list_any (λ p. p.required) (drop os.count row.positional)

abbrev pub lacks_keyword : Row → ByKey → Bool
lacks_keyword row os = list_any (λ k. k.required && not (is_some (os.under k.key))) row.keywords

-- the numbers under a key: those of a list, or one
abbrev pub numbers_in : Option (List ℕ) → List ℕ
numbers_in None = []
numbers_in (Some text) = if is_list text then map number (items text) else number text ∷ []

-- the numbers under one of two keys
abbrev pub numbers_under : List ℕ → List ℕ → ByKey → List ℕ
numbers_under one other os = numbers_in (os.under one) ++ numbers_in (os.under other)

-- the number of items of a keyword
abbrev pub count_under : List ℕ → ByKey → ℕ
count_under key os = length (items (unwrap_or (os.under key) []))

-- whether one of two keywords that go together is missing
abbrev pub is_half : ByKey → Rule → Bool
is_half os (Together one other) = (is_some (os.under one) && not (is_some (os.under other))) || (is_some (os.under other) && not (is_some (os.under one)))
is_half os _ = false

-- whether two operands exclude each other
abbrev pub is_conflict : ByKey → Rule → Bool
is_conflict os (Together one other) = false
is_conflict os (Excludes one other) = is_some (os.under one) && is_some (os.under other)
is_conflict os (SameLength one other) = not (count_under one os == count_under other os)
is_conflict os (Apart a b c d) = list_any (λ n. list_any (◌==◌ n) (numbers_under c d os)) (numbers_under a b os)

-- the operands from left to right, then what is missing, then what excludes each other
abbrev pub row_checks : List (List ℕ) → Option Row → List (Fault × Bool)
row_checks operands None = []
row_checks operands (Some row) =
    flat_map (operand_checks row) (with_left (operands_after_form row operands))
    ++ MissingOperand when (lacks_positional row (by_key (operands_after_form row operands)) || lacks_keyword row (by_key (operands_after_form row operands)) || list_any (is_half (by_key (operands_after_form row operands))) row.rules)
    ∷ Conflicting when list_any (is_conflict (by_key (operands_after_form row operands))) row.rules
    ∷ []

-- a statement by its task, its operation and its operands, each empty where it is not there
abbrev pub statement_checks : Bool → List ℕ → List ℕ → List (List ℕ) → List (Fault × Bool)
statement_checks first task operation operands =
    UnknownOperation when not (is_name task)
    ∷ UnknownOperation when is_empty (rows_of operation)
    ∷ OutOfPlace when (first && not (bytes_eq operation (codes "REGION")))
    ∷ MissingOperand when (takes_form operation && (is_empty operands || has_key (form_in operation operands)))
    ∷ UnknownOperation when not (is_some (row_of operation operands))
    ∷ row_checks operands (row_of operation operands)

-- a line that is blank or a comment says nothing
abbrev pub is_blank_or_comment : List ℕ → Bool
is_blank_or_comment bytes = list_all (λ b. b == 32) bytes || (slice_index bytes 0 == 42)

-- the task: the first word, where the line does not begin with a blank
abbrev pub task_in : List ℕ → List ℕ
task_in bytes = before_first (λ b. b == 32) bytes

abbrev pub operation_in : List ℕ → List ℕ
operation_in bytes = unwrap_or (slice_get (words bytes) 1) []

-- the operands: the third word, of an operation that has an operand field
abbrev pub operands_of : List ℕ → List (List ℕ)
operands_of bytes = if list_any (λ row. row.has_field) (rows_of (operation_in bytes)) then operands_in (slice_get (words bytes) 2) else []

-- all that may be wrong with a line, in the order in which it is looked for
abbrev pub checks : Bool → List ℕ → List (Fault × Bool)
checks first bytes =
    TooLong when nat_lt 255 (length bytes)
    ∷ InvalidByte when not (list_all (λ b. nat_le 32 b && nat_le b 126) bytes)
    ∷ (if is_blank_or_comment bytes then [] else statement_checks first (task_in bytes) (operation_in bytes) (operands_of bytes))

-- The line has this fault: it is the first that applies. `first` says whether no statement came before.
abbrev pub FaultOf : Bool → List ℕ → Fault → Type 0
FaultOf first bytes fault = first_of (checks first bytes) ≡ Some fault

-- ---- what a statement says

infixl 10 ◌>>=◌
-- the meaning of a text, if there is one
abbrev pub ◌>>=◌ : {A B : Type 0} → Option A → (A → Option B) → Option B
None >>= f = None
(Some x) >>= f = f x

-- the number under a key, or another
abbrev pub number_or : ℕ → List ℕ → ByKey → ℕ
number_or other key os = unwrap_or (option_map number (os.under key)) other

-- whether a text is there and is this word, and whether a key has it
abbrev pub is_text : List ℕ → Option (List ℕ) → Bool
is_text word None = false
is_text word (Some text) = bytes_eq text word

abbrev pub is_word : List ℕ → List ℕ → ByKey → Bool
is_word key word os = is_text word (os.under key)

-- SP, or 0
abbrev pub subpool : ByKey → ℕ
subpool os = number_or 0 (codes "SP") os

-- the power of two of the boundary that an area begins on: STARTBDY, or 12 for BNDRY=PAGE, or 3
abbrev pub start_of : ByKey → ℕ
start_of os = number_or (if is_word (codes "BNDRY") (codes "PAGE") os then 12 else 3) (codes "STARTBDY") os

abbrev pub loc_of : ByKey → Loc
loc_of os =
    if is_word (codes "LOC") (codes "BELOW") os || is_word (codes "LOC") (codes "24") os then loc.Below
    else (if is_word (codes "LOC") (codes "ANY") os || is_word (codes "LOC") (codes "31") os then loc.Any else loc.Res)

abbrev pub residence_of : ByKey → Residence
residence_of os = if is_word (codes "RES") (codes "ABOVE") os then residence.Above else residence.Below

-- what is asked for with these lengths
abbrev pub ask_for : List ℕ → ByKey → AskValue
ask_for lengths os = record {
  least = smallest lengths;
  most = largest lengths;
  start = start_of os;
  within = option_map number (os.under (codes "CONTBDY"));
  loc = loc_of os;
}

-- the form of GETMAIN or FREEMAIN; STORAGE has one with COND=YES and one without
abbrev pub form_of : List ℕ → ByKey → Form
form_of word os =
    if bytes_eq word (codes "R") then form.R
    else (if bytes_eq word (codes "RC") then form.Rc
    else (if bytes_eq word (codes "RU") then form.Ru
    else (if bytes_eq word (codes "VRC") then form.Vrc
    else (if bytes_eq word (codes "VRU") then form.Vru
    else (if bytes_eq word (codes "EC") then form.Ec
    else (if bytes_eq word (codes "EU") then form.Eu
    else (if bytes_eq word (codes "VC") then form.Vc
    else (if bytes_eq word (codes "VU") then form.Vu
    else (if bytes_eq word (codes "LC") then form.Lc
    else (if bytes_eq word (codes "LU") then form.Lu
    else (if is_word (codes "COND") (codes "YES") os then form.StorageConditional else form.Storage)))))))))))

-- the set of some numbers, a bit for each
abbrev pub set_of : List ℕ → ℕ
set_of [] = 0
set_of (n ∷ ns) = bit_or (2 ^ n) (set_of ns)

-- what is given and shared; 0 is shared unless SZERO=NO
abbrev pub presents : ByKey → GiftsValue
presents os = record {
  given = set_of (numbers_under (codes "GSPV") (codes "GSPL") os);
  shared = set_of (numbers_under (codes "SHSPV") (codes "SHSPL") os);
  zero = not (is_word (codes "SZERO") (codes "NO") os);
}

-- a release of the place under two keys, or of the whole subpool where they are not there
abbrev pub release_of : Form → ByKey → Option (List ℕ) → Option (List ℕ) → Option Statement
release_of form os (Some len) (Some address) = Some (says.Request (written.Release form (subpool os) (location address) (number len)))
release_of form os None None = Some (says.Request (written.ReleaseWhole form (subpool os)))
release_of form os _ _ = None

-- whether the keyword after CPOOL GET makes it conditional
abbrev pub is_conditional : Option (List ℕ) → Bool
is_conditional None = false
is_conditional (Some word) = is_one_of (codes "COND" ∷ codes "C" ∷ []) word

-- the meaning of a statement with this form and these operands, if all that it needs is given
abbrev pub statement_of : Meaning → List ℕ → ByKey → Option Statement
statement_of IsRegion form os =
    os.under (codes "BELOW") >>= λ below.
    Some (says.Region (number below) (number_or 0 (codes "ABOVE") os) (hex_number (unwrap_or (os.under (codes "FILL")) [])) (residence_of os))
statement_of (Obtains lengths name) form os =
    os.under lengths >>= λ n. os.under name >>= λ area.
    Some (says.Request (written.Obtain (form_of form os) (subpool os) (ask_for n os) (is_list n) (padded area)))
statement_of ObtainsList form os =
    os.under (codes "LA") >>= λ lengths. os.under (codes "A") >>= λ areas.
    Some (says.Request (written.ObtainList (form_of form os) (subpool os) (map number (items lengths)) (start_of os) (map padded (items areas))))
statement_of (Releases len address) form os = release_of (form_of form os) os (os.under len) (os.under address)
statement_of ReleasesArea form os = os.under (codes "A") >>= λ area. Some (says.Request (written.ReleaseArea (form_of form os) (subpool os) (padded area)))
statement_of ReleasesList form os =
    os.under (codes "LA") >>= λ lengths. os.under (codes "A") >>= λ addresses.
    Some (says.Request (written.ReleaseList (form_of form os) (subpool os) (map location (items addresses)) (map number (items lengths))))
statement_of BuildsPool form os =
    os.under (codes "CPID") >>= λ pool. os.under (codes "CSIZE") >>= λ size. os.under (codes "PCELLCT") >>= λ count.
    Some (says.Request (written.Build (padded pool) (subpool os) (number size) (number count) (number_or (number count) (codes "SCELLCT") os) (loc_of os)))
statement_of GetsCell form os =
    os.under (codes "CPID") >>= λ pool. os.under (codes "CELL") >>= λ cell.
    Some (says.Request (written.Get (padded pool) (is_conditional (os.at 0)) (padded cell)))
statement_of FreesCell form os =
    os.under (codes "CPID") >>= λ pool. os.under (codes "CELL") >>= λ cell. Some (says.Request (written.Free (padded pool) (location cell)))
statement_of DeletesPool form os = os.under (codes "CPID") >>= λ pool. Some (says.Request (written.Delete (padded pool)))
statement_of Attaches form os = os.under (codes "TASK") >>= λ task. Some (says.Request (written.Attach (padded task) (presents os) (residence_of os)))
statement_of Returns form os = Some (says.Request written.Return)
statement_of Abends form os = os.at 0 >>= λ code. Some (says.Request (written.Abend (number code)))
statement_of Puts form os =
    os.at 0 >>= λ to. os.at 1 >>= λ bytes. Some (says.Request (written.Put (location to) (hex_bytes (quoted bytes))))
statement_of Shows form os = os.at 0 >>= λ from. os.at 1 >>= λ n. Some (says.Request (written.Show (location from) (number n)))
statement_of Moves form os =
    os.at 0 >>= λ to. os.at 1 >>= λ from. os.at 2 >>= λ n.
    Some (says.Request (written.Move (location to) (location from) (number n)))
statement_of AsksWhere form os = os.at 0 >>= λ area. Some (says.Where (padded area))
statement_of Reports form os = Some (if bytes_eq form (codes "MAP") then says.ReportMap else says.ReportSubpools)

-- what a line says, where all that it needs is there
abbrev pub line_meaning : List ℕ → Option Line
line_meaning bytes =
    if is_blank_or_comment bytes then Some line.Nothing
    else (row_of (operation_in bytes) (operands_of bytes) >>= λ row.
    statement_of row.meaning (form_in (operation_in bytes) (operands_of bytes)) (by_key (operands_after_form row (operands_of bytes))) >>= λ statement.
    Some (line.Statement (padded (task_in bytes)) statement))

-- The line has no fault and says this. `first` says whether no statement came before.
pub record LineOf (first : Bool) (bytes : List ℕ) (l : Line) : Type 0 where
  pub no_fault : first_of (checks first bytes) ≡ None
  pub says : line_meaning bytes ≡ Some l

-- What a reader answers is what the line says, or its fault.
abbrev pub IsReading : Bool → List ℕ → Result Line Fault → Type 0
IsReading first bytes (Ok l) = LineOf first bytes l
IsReading first bytes (Err fault) = FaultOf first bytes fault
