-- How a line is composed: a task, an operation and its operands, and the texts of operands.
use Rattle.std.specs.Prelude.{◌≡◌, ℕ, ◌+◌, ◌-◌, ◌^◌, ◌<◌, ◌≤◌, nat_le, nat_lt, ◌==◌, ◌&&◌, ◌||◌, not, Bool, true, false, if◌then◌else◌, List, [], ◌∷◌, ◌++◌, map, length, find, flat_map, Some, option_map, slice_get, bytes_eq, codes, decimal}
use Rattle.std.specs.List.{list_all, list_any, AllByRecursion}
use Rattle.mvs_model.specs.declared.line.Line.{Line}
use Rattle.mvs_model.specs.declared.line.Line.TheVariants as line
use Rattle.mvs_model.specs.declared.line.Statement.{Statement}
use Rattle.mvs_model.specs.declared.line.Location.TheVariants.{Absolute, Named}
use Rattle.mvs_model.specs.Name.{padded}
use Rattle.mvs_model.specs.Texts.{hex}
use Rattle.mvs_model.specs.Grammar.{Kind, Number, HexByte, Name, Address, Bytes, Pair, NumberOrPair, Numbers, DistinctNumbers, DistinctNames, Addresses, Positional, Row, table}
use Rattle.mvs_model.specs.Reading.{ByKey, LineOf, has_key, hex_bytes, hex_number, is_conflict, is_empty, is_half, is_name, is_of, is_one_of, is_twice, is_within, items, lacks_keyword, lacks_positional, largest, location, number, operands_in, quoted, repeats, is_blank_or_comment, smallest, statement_of, task_in, words}
use Rattle.mvs_model.specs.ReadingLaws.{keyed}

-- texts with commas between
abbrev pub joined : List (List ℕ) → List ℕ
joined [] = []
joined (text ∷ []) = text
joined (text ∷ next ∷ texts) = text ++ 44 ∷ joined (next ∷ texts)

-- a line: its task, its operation and its operands
abbrev pub line_text : List ℕ → List ℕ → List (List ℕ) → List ℕ
line_text task operation operands = task ++ (32 ∷ (operation ++ (32 ∷ joined operands)))

-- whether a text closes its parentheses and the open ones before it, and has commas only in parentheses
abbrev pub closes : ℕ → List ℕ → Bool
closes opened [] = opened == 0
closes opened (b ∷ bs) = not ((b == 44) && (opened == 0)) && closes (if b == 40 then opened + 1 else (if b == 41 then opened - 1 else opened)) bs

-- A text that can be a word: one or more bytes from X'21' to X'7E'.
pub record IsWord (text : List ℕ) : Type 0 where
  pub some : is_empty text ≡ false
  pub printed : list_all (λ b. nat_le 33 b && nat_le b 126) text ≡ true

-- A text that can be an operand: a word that closes its parentheses.
pub record IsOperand (text : List ℕ) : Type 0 where
  pub word : IsWord text
  pub closed : closes 0 text ≡ true

-- The line is cut into the words and the operands that it was put together from.
pub record IsCut (task operation : List ℕ) (operands : List (List ℕ)) (line : List ℕ) : Type 0 where
  pub plain : list_all (λ b. nat_le 32 b && nat_le b 126) line ≡ true
  pub says : is_blank_or_comment line ≡ false
  pub task_is : task_in line ≡ task
  pub operation_is : slice_get (words line) 1 ≡ Some operation
  pub operands_are : operands_in (slice_get (words line) 2) ≡ operands

-- Each line that is put together from words is cut into them again.
abbrev pub CutApart : Type 0
CutApart =
    (task operation : List ℕ) (operands : List (List ℕ)) → is_name task ≡ true → IsWord operation → AllByRecursion IsOperand operands
    → IsCut task operation operands (line_text task operation operands)

-- ---- the operands of a row

-- KEY=text
abbrev pub keyword_text : List ℕ × List ℕ → List ℕ
keyword_text pair = pair.0 ++ (61 ∷ pair.1)

-- the operands of a statement: its form, where the row has forms, its positional operands, and its keywords in any order
abbrev pub all_operands : Row → List ℕ → List (List ℕ) → List (List ℕ × List ℕ) → List (List ℕ)
all_operands row form places pairs = if is_empty row.forms then places ++ map keyword_text pairs else form ∷ (places ++ map keyword_text pairs)

-- what they say: the text under each key, and the one at each place
abbrev pub by_spelling : List (List ℕ) → List (List ℕ × List ℕ) → ByKey
by_spelling places pairs = record { under = λ key. option_map (λ p. p.1) (find (λ p. bytes_eq p.0 key) pairs); at = λ k. slice_get places k; count = length places }

-- A text that fits a kind: well formed, in its range, with nothing twice in it.
pub record Fits (kind : Kind) (text : List ℕ) : Type 0 where
  pub of_kind : is_of kind text ≡ true
  pub within : is_within kind text ≡ true
  pub once : repeats kind text ≡ false
  pub operand : IsOperand text

-- the positional operands fit the row's, from the first one on, and have no keys
abbrev pub FitPlaces : List Positional → List (List ℕ) → Type 0
FitPlaces ps [] = Unit {0}
FitPlaces [] (text ∷ texts) = ⊥
FitPlaces (p ∷ ps) (text ∷ texts) = Fits p.kind text × (has_key text ≡ false) × FitPlaces ps texts

-- The row has the key, and the text fits its kind.
abbrev pub FitsKey : Row → List ℕ × List ℕ → Type 0
FitsKey row pair = (kind : Kind) × (keyed row pair.0 ≡ Some kind) × Fits kind pair.1

-- What a row of the table allows: a form that it has, operands that fit, no key twice, none that is required left out, none that
-- excludes another.
pub record IsAllowed (row : Row) (form : List ℕ) (places : List (List ℕ)) (pairs : List (List ℕ × List ℕ)) : Type 0 where
  pub in_table : (k : ℕ) × (slice_get table k ≡ Some row)
  pub field : row.has_field ≡ true
  pub form_is : (is_empty row.forms || is_one_of row.forms form) ≡ true
  pub places_fit : FitPlaces row.positional places
  pub pairs_fit : AllByRecursion (FitsKey row) pairs
  pub keys_once : is_twice bytes_eq (map (λ p. p.0) pairs) ≡ false
  pub places_enough : lacks_positional row (by_spelling places pairs) ≡ false
  pub keys_enough : lacks_keyword row (by_spelling places pairs) ≡ false
  pub none_half : list_any (is_half (by_spelling places pairs)) row.rules ≡ false
  pub no_conflict : list_any (is_conflict (by_spelling places pairs)) row.rules ≡ false

-- What a row allows can be written, its keywords in any order: a line of at most 255 bytes that is put together from it is read, and
-- says what the row means. The first statement of a script is REGION.
abbrev pub AllowedIsRead : Type 0
AllowedIsRead =
    (first : Bool) (task : List ℕ) (row : Row) (form : List ℕ) (places : List (List ℕ)) (pairs : List (List ℕ × List ℕ)) (statement : Statement)
    → is_name task ≡ true → IsAllowed row form places pairs
    → (first && not (bytes_eq row.operation (codes "REGION"))) ≡ false
    → nat_lt 255 (length (line_text task row.operation (all_operands row form places pairs))) ≡ false
    → statement_of row.meaning form (by_spelling places pairs) ≡ Some statement
    → LineOf first (line_text task row.operation (all_operands row form places pairs)) (line.Statement (padded task) statement)

-- ---- the texts of values

-- (a,b,..)
abbrev pub list_text : List (List ℕ) → List ℕ
list_text texts = 40 ∷ (joined texts ++ (41 ∷ []))

-- X'..'
abbrev pub quoted_text : List ℕ → List ℕ
quoted_text digits = 88 ∷ 39 ∷ (digits ++ (39 ∷ []))

-- an address in eight digits, and one by a name and a distance
abbrev pub absolute_text : ℕ → List ℕ
absolute_text a = quoted_text (hex 8 a)

abbrev pub named_text : List ℕ → ℕ → List ℕ
named_text name distance = name ++ (43 ∷ decimal distance)

-- some bytes
abbrev pub bytes_text : List ℕ → List ℕ
bytes_text bytes = quoted_text (flat_map (hex 2) bytes)

-- A text fits a kind, and can be given without a keyword.
pub record FitsAlone (kind : Kind) (text : List ℕ) : Type 0 where
  pub fits : Fits kind text
  pub no_key : has_key text ≡ false

-- the numbers that a list may have, each from a least to a greatest one
abbrev pub AreBetween : ℕ → ℕ → List ℕ → Type 0
AreBetween least most numbers = AllByRecursion (λ n. (least ≤ n) × (n ≤ most)) numbers

-- The text is one of an address: eight digits, a name, or a name and a distance.
pub data IsAddressText (text : List ℕ) : Type 0 where
  absolute : (a : ℕ) → a < 2 ^ 31 → text ≡ absolute_text a → IsAddressText text
  area : is_name text ≡ true → IsAddressText text
  within : (name : List ℕ) (n : ℕ) → is_name name ≡ true → n < 2 ^ 25 → text ≡ named_text name n → IsAddressText text

-- Each value in range has a text that fits its kind and says the value. (ten digits are enough for each number of the table)
pub record EachIsWritten : Type 0 where
  pub number_is : (least most n : ℕ) → least ≤ n → n ≤ most → most < 10 ^ 10 → FitsAlone (Number least most) (decimal n) × (number (decimal n) ≡ n)
  pub byte_is : (b : ℕ) → b < 256 → FitsAlone HexByte (hex 2 b) × (hex_number (hex 2 b) ≡ b)
  pub name_is : (text : List ℕ) → is_name text ≡ true → FitsAlone Name text
  pub absolute_is : (a : ℕ) → a < 2 ^ 31 → FitsAlone Address (absolute_text a) × (location (absolute_text a) ≡ Absolute a)
  pub named_is : (name : List ℕ) (n : ℕ) → is_name name ≡ true → n < 2 ^ 25 → FitsAlone Address (named_text name n) × (location (named_text name n) ≡ Named (padded name) n)
  pub area_is : (name : List ℕ) → is_name name ≡ true → FitsAlone Address name × (location name ≡ Named (padded name) 0)
  pub bytes_are : (most : ℕ) (bytes : List ℕ) → is_empty bytes ≡ false → length bytes ≤ most → AllByRecursion (λ b. b < 256) bytes
      → FitsAlone (Bytes most) (bytes_text bytes) × (hex_bytes (quoted (bytes_text bytes)) ≡ bytes)
  pub pair_is : (least most large small : ℕ) → least ≤ small → small ≤ large → large ≤ most → most < 10 ^ 10
      → Fits (Pair least most) (list_text (decimal large ∷ decimal small ∷ [])) × Fits (NumberOrPair least most) (list_text (decimal large ∷ decimal small ∷ []))
      × (largest (list_text (decimal large ∷ decimal small ∷ [])) ≡ large) × (smallest (list_text (decimal large ∷ decimal small ∷ [])) ≡ small)
  pub one_length : (least most n : ℕ) → least ≤ n → n ≤ most → most < 10 ^ 10 → Fits (NumberOrPair least most) (decimal n) × (largest (decimal n) ≡ n) × (smallest (decimal n) ≡ n)
  pub numbers_are : (count least most : ℕ) (numbers : List ℕ) → is_empty numbers ≡ false → length numbers ≤ count → AreBetween least most numbers → most < 10 ^ 10
      → Fits (Numbers count least most) (list_text (map decimal numbers)) × (map number (items (list_text (map decimal numbers))) ≡ numbers)
  pub distinct_are : (least most : ℕ) (numbers : List ℕ) → is_empty numbers ≡ false → AreBetween least most numbers → most < 10 ^ 10 → is_twice ◌==◌ numbers ≡ false
      → Fits (DistinctNumbers least most) (list_text (map decimal numbers)) × (map number (items (list_text (map decimal numbers))) ≡ numbers)
  pub names_are : (count : ℕ) (texts : List (List ℕ)) → is_empty texts ≡ false → length texts ≤ count → AllByRecursion (λ text. is_name text ≡ true) texts → is_twice bytes_eq texts ≡ false
      → Fits (DistinctNames count) (list_text texts) × (items (list_text texts) ≡ texts)
  pub addresses_are : (count : ℕ) (texts : List (List ℕ)) → is_empty texts ≡ false → length texts ≤ count → AllByRecursion IsAddressText texts
      → Fits (Addresses count) (list_text texts) × (items (list_text texts) ≡ texts)

-- Two adjacent keywords can be exchanged: the meaning is the same. (so every order has the same meaning)
abbrev pub InAnyOrder : Type 0
InAnyOrder =
    (first : Bool) (task : List ℕ) (row : Row) (form : List ℕ) (places : List (List ℕ)) (front : List (List ℕ × List ℕ)) (one other : List ℕ × List ℕ) (rest : List (List ℕ × List ℕ)) (l : Line)
    → is_name task ≡ true → IsAllowed row form places (front ++ (one ∷ other ∷ rest))
    → (first && not (bytes_eq row.operation (codes "REGION"))) ≡ false
    → nat_lt 255 (length (line_text task row.operation (all_operands row form places (front ++ (other ∷ one ∷ rest))))) ≡ false
    → LineOf first (line_text task row.operation (all_operands row form places (front ++ (one ∷ other ∷ rest)))) l
    → LineOf first (line_text task row.operation (all_operands row form places (front ++ (other ∷ one ∷ rest)))) l
