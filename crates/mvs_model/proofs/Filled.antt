-- Keyword operands of which some are left out: what a row of the table allows of them is read.
use Rattle.std.proofs.Common.{◌≡◌, refl, ◌||◌, ◌&&◌, not, true, false, Bool, ℕ, List, [], ◌∷◌, map, length, sym, ap, ◌∙◌, Option, None, Some, IfSome, bytes_eq, codes, find, option_map, slice_get, nat_lt, if◌then◌else◌}
use Rattle.std.specs.List.{list_any, AllByRecursion}
use Rattle.std.proofs.lemmas.Bool.{and_parts, not-true, or_parts}
use Rattle.mvs_model.proofs.Types.{Form, Statement}
use Rattle.mvs_model.specs.declared.line.Line.TheVariants as line
use Rattle.mvs_model.specs.Name.{padded}
use Rattle.mvs_model.specs.Grammar.{Row, table}
use Rattle.mvs_model.specs.Reading.{LineOf, ByKey, form_of, is_conflict, is_empty, is_half, is_name, is_one_of, is_twice, lacks_keyword, lacks_positional, statement_of}
use Rattle.mvs_model.specs.ReadingLaws.{keyed}
use Rattle.mvs_model.specs.Spelling.{all_operands, line_text, Fits, FitPlaces, FitsKey, by_spelling}
use Rattle.mvs_model.specs.Spellings.{Operand, AllFit, in_front, filled}
use Rattle.mvs_model.proofs.Allowed.{allowed_is_read}
use Rattle.mvs_model.proofs.ReadingTaken.{bytes_same}

abbrev keys_of : List Operand → List (List ℕ)
keys_of os = map (λ o. o.key) os

-- the text under a key, where it is written
abbrev pub under_key : List ℕ → List Operand → Option (List ℕ)
under_key key [] = None
under_key key (o ∷ os) = if bytes_eq o.key key then o.text else under_key key os

-- what such operands say
abbrev pub said : List (List ℕ) → List Operand → ByKey
said places os = record { under = λ key. under_key key os; at = λ k. slice_get places k; count = length places }

-- nothing stands under a key that no operand has
none_under : (key k : List ℕ) (os : List Operand) → bytes_eq k key ≡ true → list_any (bytes_eq k) (keys_of os) ≡ false → under_key key os ≡ None
none_under key k [] same none = refl
none_under key k (o ∷ os) same none = let b = or_parts (bytes_eq k o.key) (list_any (bytes_eq k) (keys_of os)) none in at (bytes_eq o.key key) refl b.0 (none_under key k os same b.1) where
  at : (t : Bool) → bytes_eq o.key key ≡ t → bytes_eq k o.key ≡ false → under_key key os ≡ None → (if t then o.text else under_key key os) ≡ None
  at true e other later = absurd (let f : true ≡ false = sym same ∙ ap (bytes_eq k) (sym (bytes_same o.key key e)) ∙ other in cc)
  at false e other later = later

abbrev found : List ℕ → List (List ℕ × List ℕ) → Option (List ℕ)
found key pairs = option_map (λ p. p.1) (find (λ p. bytes_eq p.0 key) pairs)

-- what is found under a key among those that are written
found_is : (key : List ℕ) (os : List Operand) → is_twice bytes_eq (keys_of os) ≡ false → found key (filled os) ≡ under_key key os
found_is key [] once = refl
found_is key (o ∷ os) once =
    let b = or_parts (list_any (bytes_eq o.key) (keys_of os)) (is_twice bytes_eq (keys_of os)) once in
    at o.text (bytes_eq o.key key) refl (λ e. none_under key o.key os e b.0) (found_is key os b.1)
  where
    at : (text : Option (List ℕ)) (t : Bool) → bytes_eq o.key key ≡ t → (bytes_eq o.key key ≡ true → under_key key os ≡ None) → found key (filled os) ≡ under_key key os
        → found key (in_front o.key text (filled os)) ≡ (if t then text else under_key key os)
    at None true e none later = later ∙ none e
    at None false e none later = later
    at (Some text) true e none later = ap (λ t. option_map (λ p. p.1) (if t then Some (o.key, text) else find (λ p. bytes_eq p.0 key) (filled os))) e
    at (Some text) false e none later = ap (λ t. option_map (λ p. p.1) (if t then Some (o.key, text) else find (λ p. bytes_eq p.0 key) (filled os))) e ∙ later

said_is : (places : List (List ℕ)) (os : List Operand) → is_twice bytes_eq (keys_of os) ≡ false → by_spelling places (filled os) ≡ said places os
said_is places os once = λ i. record { under = λ key. found_is key os once i; at = λ k. slice_get places k; count = length places }

-- a key that no operand has, none that is written has
abbrev has_pair : List ℕ → List (List ℕ × List ℕ) → Bool
has_pair k pairs = list_any (bytes_eq k) (map (λ p. p.0) pairs)

none_filled : (k : List ℕ) (os : List Operand) → list_any (bytes_eq k) (keys_of os) ≡ false → has_pair k (filled os) ≡ false
none_filled k [] none = refl
none_filled k (o ∷ os) none = let b = or_parts (bytes_eq k o.key) (list_any (bytes_eq k) (keys_of os)) none in at o.text b.0 (none_filled k os b.1) where
  at : (text : Option (List ℕ)) → bytes_eq k o.key ≡ false → has_pair k (filled os) ≡ false → has_pair k (in_front o.key text (filled os)) ≡ false
  at None other later = later
  at (Some text) other later = λ i. other i || later i

-- and none stands twice
abbrev is_pair_twice : List (List ℕ × List ℕ) → Bool
is_pair_twice pairs = is_twice bytes_eq (map (λ p. p.0) pairs)

once_filled : (os : List Operand) → is_twice bytes_eq (keys_of os) ≡ false → is_pair_twice (filled os) ≡ false
once_filled [] once = refl
once_filled (o ∷ os) once =
    let b = or_parts (list_any (bytes_eq o.key) (keys_of os)) (is_twice bytes_eq (keys_of os)) once in
    at o.text (none_filled o.key os b.0) (once_filled os b.1)
  where
    at : (text : Option (List ℕ)) → has_pair o.key (filled os) ≡ false → is_pair_twice (filled os) ≡ false → is_pair_twice (in_front o.key text (filled os)) ≡ false
    at None none later = later
    at (Some text) none later = λ i. none i || later i

-- each of them is of the kind that the row says
each_fits : (row : Row) (os : List Operand) → map (λ o. keyed row o.key) os ≡ map (λ o. Some o.kind) os → AllByRecursion (λ o. IfSome o.text (Fits o.kind)) os → AllByRecursion (FitsKey row) (filled os)
each_fits row [] kinds fit = tt
each_fits row (o ∷ os) kinds fit =
    let here : keyed row o.key ≡ Some o.kind = cc in
    let later : map (λ o. keyed row o.key) os ≡ map (λ o. Some o.kind) os = cc in
    at o.text here (each_fits row os later fit.1) fit.0
  where
    at : (text : Option (List ℕ)) → keyed row o.key ≡ Some o.kind → AllByRecursion (FitsKey row) (filled os) → IfSome text (Fits o.kind) → AllByRecursion (FitsKey row) (in_front o.key text (filled os))
    at None here each fits = each
    at (Some text) here each fits = ((o.kind, here, fits), each)

-- whether what a row allows can be decided without the texts: no key twice, none that is required left out, none without its other
abbrev pub suits : Row → List (List ℕ) → List Operand → Bool
suits row places os =
    row.has_field && (not (is_twice bytes_eq (keys_of os)) && (not (lacks_positional row (said places os)) && (not (lacks_keyword row (said places os)) && not (list_any (is_half (said places os)) row.rules))))

-- What a row allows is read, with operands that are left out.
pub filled_is_read : (first : Bool) (k : ℕ) (row : Row) (form : List ℕ) (places : List (List ℕ)) (os : List Operand) (statement : Statement)
    → slice_get table k ≡ Some row → (is_empty row.forms || is_one_of row.forms form) ≡ true
    → map (λ o. keyed row o.key) os ≡ map (λ o. Some o.kind) os → suits row places os ≡ true
    → FitPlaces row.positional places → list_any (is_conflict (said places os)) row.rules ≡ false
    → (first && not (bytes_eq row.operation (codes "REGION"))) ≡ false
    → statement_of row.meaning form (said places os) ≡ Some statement
    → AllFit os → (task : List ℕ) → is_name task ≡ true → nat_lt 255 (length (line_text task row.operation (all_operands row form places (filled os)))) ≡ false
    → LineOf first (line_text task row.operation (all_operands row form places (filled os))) (line.Statement (padded task) statement)
filled_is_read first k row form places os statement in_table form_is kinds suit places_fit apart placed says fit task named short =
    let field = and_parts row.has_field _ suit in
    let once = and_parts (not (is_twice bytes_eq (keys_of os))) _ field.1 in
    let some = and_parts (not (lacks_positional row (said places os))) _ once.1 in
    let keyed = and_parts (not (lacks_keyword row (said places os))) _ some.1 in
    let is = said_is places os (not-true _ once.0) in
    allowed_is_read first task row form places (filled os) statement named
    (record {
      in_table = (k, in_table);
      field = field.0;
      form_is = form_is;
      places_fit = places_fit;
      pairs_fit = each_fits row os kinds fit.each;
      keys_once = once_filled os (not-true _ once.0);
      places_enough = ap (lacks_positional row) is ∙ not-true _ some.0;
      keys_enough = ap (lacks_keyword row) is ∙ not-true _ keyed.0;
      none_half = ap (λ s. list_any (is_half s) row.rules) is ∙ not-true _ keyed.1;
      no_conflict = ap (λ s. list_any (is_conflict s) row.rules) is ∙ apart;
    }) placed short
    (ap (statement_of row.meaning form) is ∙ says)

-- the same of a statement with a form, whatever else is said
pub filled_form_is_read : (k : ℕ) (row : Row) (word : List ℕ) (os : List Operand) (f : Form) (statement : Form → Statement)
    → slice_get table k ≡ Some row → (is_empty row.forms || is_one_of row.forms word) ≡ true → ((os : ByKey) → form_of word os ≡ f)
    → map (λ o. keyed row o.key) os ≡ map (λ o. Some o.kind) os → suits row [] os ≡ true
    → list_any (is_conflict (said [] os)) row.rules ≡ false
    → statement_of row.meaning word (said [] os) ≡ Some (statement (form_of word (said [] os)))
    → AllFit os → (task : List ℕ) → is_name task ≡ true → nat_lt 255 (length (line_text task row.operation (all_operands row word [] (filled os)))) ≡ false
    → LineOf false (line_text task row.operation (all_operands row word [] (filled os))) (line.Statement (padded task) (statement f))
filled_form_is_read k row word os f statement in_table form_is is kinds suit apart says =
    filled_is_read false k row word [] os (statement f) in_table form_is kinds suit tt apart refl (says ∙ (λ i. Some (statement (is (said [] os) i))))
