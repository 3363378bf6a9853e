-- What a row of the table allows is read.
use Rattle.std.proofs.Common.{◌≡◌, refl, ◌||◌, ◌&&◌, not, true, false, Bool, ℕ, zero, suc, ◌+◌, ◌-◌, ◌==◌, List, [], ◌∷◌, ◌++◌, map, length, take, drop, sym, ap, subst, ◌∙◌, arith, append_assoc, length-append, Some, None, nat_le, nat_lt, is_some, bytes_eq, codes, find, flat_map, option_map, slice_get, unwrap_or, if◌then◌else◌, append-nil}
use Rattle.std.specs.List.{list_all, list_any, after_first, position_or_len, AllByRecursion}
use Rattle.std.proofs.lemmas.Bool.{and_from, and_parts, or_right, not-true, or_parts}
use Rattle.std.proofs.lemmas.Bool.Decides.{nat_tests}
use Rattle.std.proofs.lemmas.Grind.{common_steps}
use Rattle.mvs_model.proofs.Types.{Fault, TooLong, InvalidByte, UnknownOperation, MissingOperand, Conflicting, OutOfPlace}
use Rattle.mvs_model.specs.declared.line.Line.TheVariants as line
use Rattle.mvs_model.specs.Name.{padded}
use Rattle.mvs_model.specs.Grammar.{Kind, Keyword, Positional, Row, table, getmain_fixed, getmain_fixed_placed, getmain_variable, getmain_variable_placed, getmain_list, storage_obtain, freemain_or_whole, freemain_place, freemain_area, freemain_list, storage_release, cpool_build, cpool_get, cpool_free, cpool_delete, report}
use Rattle.mvs_model.specs.Reading.{◌when◌, ◌>>=◌, ByKey, by_key, operands_after_form, checks, first_of, form_in, has, has_key, if_kind, is_conflict, is_empty, is_equals, is_for, is_half, is_name, is_of, is_one_of, is_twice, is_within, key_of, kind_of, lacks_keyword, lacks_positional, line_meaning, operand_checks, operands_in, positionals, repeats, row_checks, row_of, rows_of, statement_checks, statement_of, takes_form, text_of, value_of, with_left, words}
use Rattle.mvs_model.specs.ReadingLaws.{keyed}
use Rattle.mvs_model.specs.Spelling.{AllowedIsRead, InAnyOrder, Fits, FitPlaces, FitsKey, IsAllowed, IsCut, IsOperand, IsWord, all_operands, closes, keyword_text, line_text, by_spelling}
use Rattle.mvs_model.proofs.Reading.{said_with}
use Rattle.mvs_model.proofs.ReadingTaken.{bytes_same, twice_under, under, under_nothing}
use Rattle.mvs_model.proofs.Spelling.{all_weaker, cut_apart, printed}
use Rattle.mvs_model.proofs.Tests.{bytes_self, false_true, none_some, true_false}

-- ---- a line by its parts

-- the checks of a line that is cut apart
line_checks : (first : Bool) (task operation : List ℕ) (operands : List (List ℕ)) (bytes : List ℕ) → IsCut task operation operands bytes → nat_lt 255 (length bytes) ≡ false
    → list_any (λ row. row.has_field) (rows_of operation) ≡ true → first_of (checks first bytes) ≡ first_of (statement_checks first task operation operands)
line_checks first task operation operands bytes is short field = λ i.
    first_of (TooLong when short i
    ∷ InvalidByte when not (is.plain i)
    ∷ (if is.says i then [] else statement_checks first (is.task_is i) (unwrap_or (is.operation_is i) []) (taken i)))
  where
    taken : (if list_any (λ row. row.has_field) (rows_of (unwrap_or (slice_get (words bytes) 1) [])) then operands_in (slice_get (words bytes) 2) else []) ≡ operands
    taken = (λ i. if list_any (λ row. row.has_field) (rows_of (unwrap_or (is.operation_is i) [])) then is.operands_are i else []) ∙ ap (λ t. if t then operands else []) field

-- what it says
line_says : (task operation : List ℕ) (operands : List (List ℕ)) (bytes : List ℕ) → IsCut task operation operands bytes → list_any (λ row. row.has_field) (rows_of operation) ≡ true
    → line_meaning bytes ≡ said_with task (form_in operation operands) operands (row_of operation operands)
line_says task operation operands bytes is field = λ i.
    if is.says i then Some line.Nothing
    else said_with (is.task_is i) (form_in (unwrap_or (is.operation_is i) []) (taken i)) (taken i) (row_of (unwrap_or (is.operation_is i) []) (taken i))
  where
    taken : (if list_any (λ row. row.has_field) (rows_of (unwrap_or (slice_get (words bytes) 1) [])) then operands_in (slice_get (words bytes) 2) else []) ≡ operands
    taken = (λ i. if list_any (λ row. row.has_field) (rows_of (unwrap_or (is.operation_is i) [])) then is.operands_are i else []) ∙ ap (λ t. if t then operands else []) field

-- ---- checks that do not apply

skip : (fault : Fault) (holds : Bool) (checks : List (Fault × Bool)) → holds ≡ false → first_of (fault when holds ∷ checks) ≡ first_of checks
skip fault holds checks e = ap (λ t. if t then Some fault else first_of checks) e

-- An operand passes after those on its left.
record Passes (row : Row) (left : List (List ℕ)) (operand : List ℕ) : Type 0 where
  of_kind : if_kind (λ kind. is_of kind (text_of operand)) (kind_of row left operand) ≡ true
  once : ((has_key operand && has (key_of operand) left) || if_kind (λ kind. repeats kind (text_of operand)) (kind_of row left operand)) ≡ false
  within : if_kind (λ kind. is_within kind (text_of operand)) (kind_of row left operand) ≡ true

abbrev EachPasses : Row → List (List ℕ) → List (List ℕ) → Type 0
EachPasses row left [] = Unit {0}
EachPasses row left (x ∷ xs) = Passes row left x × EachPasses row (left ++ (x ∷ [])) xs

passes_at : (row : Row) (left same : List (List ℕ)) (x : List ℕ) (trailing : List (Fault × Bool)) → same ≡ left → Passes row left x → first_of (operand_checks row (same, x) ++ trailing) ≡ first_of trailing
passes_at row left same x trailing h1 h2 = grind (arith, nat_tests)

none_apply : (row : Row) (left os : List (List ℕ)) (trailing : List (Fault × Bool)) → EachPasses row left os
    → first_of (flat_map (operand_checks row) (under (λ l. left ++ l) (with_left os)) ++ trailing) ≡ first_of trailing
none_apply row left [] trailing each = refl
none_apply row left (x ∷ os) trailing each =
    let later : List (List (List ℕ) × List ℕ) = under (λ l. left ++ l) (under (λ l. x ∷ l) (with_left os)) in
    let moved : later ≡ under (λ l. (left ++ (x ∷ [])) ++ l) (with_left os) = twice_under x (λ l. left ++ l) (with_left os) ∙ (λ i. under (λ l. sym (append_assoc left (x ∷ []) l) i) (with_left os)) in
    passes_at row left (left ++ []) x (flat_map (operand_checks row) later ++ trailing) (append-nil left) each.0
    ∙ ap (λ ps. first_of (flat_map (operand_checks row) ps ++ trailing)) moved
    ∙ none_apply row (left ++ (x ∷ [])) os trailing each.1

all_pass : (row : Row) (os : List (List ℕ)) (trailing : List (Fault × Bool)) → EachPasses row [] os → first_of (flat_map (operand_checks row) (with_left os) ++ trailing) ≡ first_of trailing
all_pass row os trailing each = ap (λ ps. first_of (flat_map (operand_checks row) ps ++ trailing)) (sym (under_nothing (with_left os))) ∙ none_apply row [] os trailing each

-- ---- operands with keys

-- a key of the table: capital letters
abbrev is_letter : ℕ → Bool
is_letter b = nat_le 65 b && nat_le b 90

no_equals : (b : ℕ) → is_letter b ≡ true → is_equals b ≡ false
no_equals b e = grind (arith, nat_tests)

letter_printed : (b : ℕ) → is_letter b ≡ true → printed b ≡ true
letter_printed b e = grind (arith, nat_tests)

keyed_has_key : (key text : List ℕ) → has_key (key ++ (61 ∷ text)) ≡ true
keyed_has_key key text = grind (arith, common_steps, or_right)

-- the first equals sign is the one after the key
equals_at : (key text : List ℕ) → list_all is_letter key ≡ true → position_or_len is_equals (key ++ (61 ∷ text)) ≡ length key
equals_at [] text e = refl
equals_at (b ∷ key) text e =
    let a = and_parts (is_letter b) (list_all is_letter key) e in
    ap (λ t. if not t then 1 + position_or_len is_equals (key ++ (61 ∷ text)) else 0) (no_equals b a.0) ∙ ap (λ n. 1 + n) (equals_at key text a.1) ∙ omega arith

taken_front : (key text : List ℕ) → take (length key) (key ++ text) ≡ key
taken_front key text = grind (arith, common_steps)

dropped_front : (key text : List ℕ) → drop (suc (length key)) (key ++ (61 ∷ text)) ≡ text
dropped_front [] text = refl
dropped_front (b ∷ key) text = dropped_front key text

key_is : (key text : List ℕ) → list_all is_letter key ≡ true → key_of (key ++ (61 ∷ text)) ≡ key
key_is key text e = ap (λ n. take n (key ++ (61 ∷ text))) (equals_at key text e) ∙ taken_front key (61 ∷ text)

text_is : (key text : List ℕ) → list_all is_letter key ≡ true → text_of (key ++ (61 ∷ text)) ≡ text
text_is key text h1 = grind (arith, nat_tests, keyed_has_key, equals_at, dropped_front)

-- an operand with a key
closes_after : (key text : List ℕ) → list_all is_letter key ≡ true → closes 0 (key ++ (61 ∷ text)) ≡ closes 0 text
closes_after [] text e = refl
closes_after (b ∷ key) text e =
    let a = and_parts (is_letter b) (list_all is_letter key) e in
    let comma : (b == 44) ≡ false = grind (arith, nat_tests, a.0) in
    let opens : (b == 40) ≡ false = grind (arith, nat_tests, a.0) in
    let shuts : (b == 41) ≡ false = grind (arith, nat_tests, a.0) in
    (λ i. not (comma i && (0 == 0)) && closes (if opens i then 1 else (if shuts i then 0 - 1 else 0)) (key ++ (61 ∷ text))) ∙ closes_after key text a.1

keyword_word : (key text : List ℕ) → list_all is_letter key ≡ true → IsWord text → IsWord (key ++ (61 ∷ text))
keyword_word [] text e is = record { some = refl; printed = is.printed }
keyword_word (b ∷ key) text e is =
    let a = and_parts (is_letter b) (list_all is_letter key) e in
    record { some = refl; printed = and_from (printed b) _ (letter_printed b a.0) (keyword_word key text a.1 is).printed }

keyword_operand : (key text : List ℕ) → list_all is_letter key ≡ true → IsOperand text → IsOperand (key ++ (61 ∷ text))
keyword_operand key text e is = record { word = keyword_word key text e is.word; closed = closes_after key text e ∙ is.closed }

-- a form: letters alone
letters_close : (text : List ℕ) → list_all is_letter text ≡ true → closes 0 text ≡ true
letters_close [] e = refl
letters_close (b ∷ text) e =
    let a = and_parts (is_letter b) (list_all is_letter text) e in
    let comma : (b == 44) ≡ false = grind (arith, nat_tests, a.0) in
    let opens : (b == 40) ≡ false = grind (arith, nat_tests, a.0) in
    let shuts : (b == 41) ≡ false = grind (arith, nat_tests, a.0) in
    (λ i. not (comma i && (0 == 0)) && closes (if opens i then 1 else (if shuts i then 0 - 1 else 0)) text) ∙ letters_close text a.1

letters_operand : (text : List ℕ) → is_empty text ≡ false → list_all is_letter text ≡ true → IsOperand text
letters_operand text some e = record { word = record { some = some; printed = all_weaker is_letter printed letter_printed text e }; closed = letters_close text e }

letters_no_key : (text : List ℕ) → list_all is_letter text ≡ true → has_key text ≡ false
letters_no_key [] e = refl
letters_no_key (b ∷ text) e =
    let a = and_parts (is_letter b) (list_all is_letter text) e in
    ap (λ t. t || has_key text) (no_equals b a.0) ∙ letters_no_key text a.1

-- ---- what is found among operands

found_after : (test : List ℕ → Bool) (xs ys : List (List ℕ)) → is_some (find test xs) ≡ false → find test (xs ++ ys) ≡ find test ys
found_after test [] ys e = refl
found_after test (x ∷ xs) ys e =
    (elim (test x) as (λ b. is_some (if b then Some x else find test xs) ≡ false → (if b then Some x else find test (xs ++ ys)) ≡ find test ys) [
      | true ↦ λ e. true_false e
      | false ↦ λ e. found_after test xs ys e
    ]) e

has_found : (key : List ℕ) (os : List (List ℕ)) → has key os ≡ is_some (find (is_for key) os)
has_found key os = elim (find (is_for key) os) as (λ o. is_some (option_map text_of o) ≡ is_some o) [ None ↦ refl | Some x ↦ refl ]

-- whether an operand has the key: not without an equals sign, and with one by what stands before it
not_for : (key text : List ℕ) → has_key text ≡ false → is_for key text ≡ false
not_for key text e = ap (λ t. t && bytes_eq (key_of text) key) e

is_for_pair : (key : List ℕ) (pair : List ℕ × List ℕ) → list_all is_letter pair.0 ≡ true → is_for key (keyword_text pair) ≡ bytes_eq pair.0 key
is_for_pair key pair e = (λ i. keyed_has_key pair.0 pair.1 i && bytes_eq (key_is pair.0 pair.1 e i) key)

abbrev NoKeys : List (List ℕ) → Type 0
NoKeys texts = AllByRecursion (λ text. has_key text ≡ false) texts

abbrev Lettered : List (List ℕ × List ℕ) → Type 0
Lettered pairs = AllByRecursion (λ pair. list_all is_letter pair.0 ≡ true) pairs

none_for : (key : List ℕ) (texts : List (List ℕ)) → NoKeys texts → is_some (find (is_for key) texts) ≡ false
none_for key [] keyless = refl
none_for key (text ∷ texts) keyless = ap (λ t. is_some (if t then Some text else find (is_for key) texts)) (not_for key text keyless.0) ∙ none_for key texts keyless.1

under_pairs : (key : List ℕ) (pairs : List (List ℕ × List ℕ)) → Lettered pairs → value_of key (map keyword_text pairs) ≡ option_map (λ p. p.1) (find (λ p. bytes_eq p.0 key) pairs)
under_pairs key [] are = refl
under_pairs key (pair ∷ pairs) are = grind (arith, nat_tests, text_is, is_for_pair, under_pairs key pairs are.1)

no_positionals : (pairs : List (List ℕ × List ℕ)) → positionals (map keyword_text pairs) ≡ []
no_positionals [] = refl
no_positionals (pair ∷ pairs) = ap (λ t. if not t then keyword_text pair ∷ positionals (map keyword_text pairs) else positionals (map keyword_text pairs)) (keyed_has_key pair.0 pair.1) ∙ no_positionals pairs

all_positionals : (texts : List (List ℕ)) (pairs : List (List ℕ × List ℕ)) → NoKeys texts → positionals (texts ++ map keyword_text pairs) ≡ texts
all_positionals [] pairs keyless = no_positionals pairs
all_positionals (text ∷ texts) pairs keyless = grind (arith, nat_tests, all_positionals texts pairs keyless.1)

said_is : (places : List (List ℕ)) (pairs : List (List ℕ × List ℕ)) → NoKeys places → Lettered pairs → by_key (places ++ map keyword_text pairs) ≡ by_spelling places pairs
said_is places pairs keyless are = grind (arith, nat_tests, found_after, none_for, under_pairs, all_positionals, under)

-- ---- operands that fit pass

abbrev fits_kind : Kind → List ℕ → Bool
fits_kind kind text = is_of kind text && not (repeats kind text) && is_within kind text

-- an operand of a kind passes
passes : (row : Row) (left : List (List ℕ)) (operand text : List ℕ) (kind : Kind) → text_of operand ≡ text → kind_of row left operand ≡ Some kind → Fits kind text
    → (has_key operand && has (key_of operand) left) ≡ false → Passes row left operand
passes row left operand text kind said is fits once = grind (arith, nat_tests)

-- the keys of a row are letters
key_letters : (keywords : List Keyword) (key : List ℕ) (kind : Kind) → list_all (λ k. list_all is_letter k.key) keywords ≡ true
    → option_map (λ k. k.kind) (find (λ k. bytes_eq k.key key) keywords) ≡ Some kind → list_all is_letter key ≡ true
key_letters [] key kind letters e = none_some e
key_letters (k ∷ keywords) key kind letters e =
    let a = and_parts (list_all is_letter k.key) (list_all (λ k. list_all is_letter k.key) keywords) letters in
    (elim (bytes_eq k.key key) as (λ b. bytes_eq k.key key ≡ b → option_map (λ k. k.kind) (if b then Some k else find (λ k. bytes_eq k.key key) keywords) ≡ Some kind → list_all is_letter key ≡ true) [
      | true ↦ λ same e. subst (λ key. list_all is_letter key ≡ true) (bytes_same k.key key same) a.0
      | false ↦ λ same e. key_letters keywords key kind a.1 e
    ]) refl e

lettered : (row : Row) (pairs : List (List ℕ × List ℕ)) → list_all (λ k. list_all is_letter k.key) row.keywords ≡ true → AllByRecursion (FitsKey row) pairs → Lettered pairs
lettered row [] letters fit = tt
lettered row (pair ∷ pairs) letters fit = (key_letters row.keywords pair.0 fit.0.0 letters fit.0.1, lettered row pairs letters fit.1)

-- what is not among some operands and is not the next one's key
not_added : (key : List ℕ) (left : List (List ℕ)) (pair : List ℕ × List ℕ) → list_all is_letter pair.0 ≡ true → has key left ≡ false → bytes_eq pair.0 key ≡ false → has key (left ++ (keyword_text pair ∷ [])) ≡ false
not_added key left pair h1 h2 h3 = grind (arith, nat_tests, found_after, has_found, is_for_pair)

abbrev Absent : List (List ℕ) → List (List ℕ × List ℕ) → Type 0
Absent left pairs = AllByRecursion (λ pair. has pair.0 left ≡ false) pairs

still_absent : (left : List (List ℕ)) (pair : List ℕ × List ℕ) (pairs : List (List ℕ × List ℕ)) → list_all is_letter pair.0 ≡ true → list_any (bytes_eq pair.0) (map (λ p. p.0) pairs) ≡ false
    → Absent left pairs → Absent (left ++ (keyword_text pair ∷ [])) pairs
still_absent left pair [] letters once absent = tt
still_absent left pair (next ∷ pairs) letters once absent =
    let o = or_parts (bytes_eq pair.0 next.0) (list_any (bytes_eq pair.0) (map (λ p. p.0) pairs)) once in
    (not_added next.0 left pair letters absent.0 o.0, still_absent left pair pairs letters o.1 absent.1)

keys_pass : (row : Row) (left : List (List ℕ)) (pairs : List (List ℕ × List ℕ)) → Lettered pairs → AllByRecursion (FitsKey row) pairs → is_twice bytes_eq (map (λ p. p.0) pairs) ≡ false
    → Absent left pairs → EachPasses row left (map keyword_text pairs)
keys_pass row left [] letters fit once absent = tt
keys_pass row left (pair ∷ pairs) letters fit once absent =
    let o = or_parts (list_any (bytes_eq pair.0) (map (λ p. p.0) pairs)) (is_twice bytes_eq (map (λ p. p.0) pairs)) once in
    let there = keyed_has_key pair.0 pair.1 in
    let key = key_is pair.0 pair.1 letters.0 in
    let kind : kind_of row left (keyword_text pair) ≡ keyed row pair.0 =
    ap (λ t. if t then keyed row (key_of (keyword_text pair)) else (if list_any has_key left then None else option_map (λ p. p.kind) (slice_get row.positional (length left)))) there ∙ ap (keyed row) key in
    let new : (has_key (keyword_text pair) && has (key_of (keyword_text pair)) left) ≡ false = (λ i. there i && has (key i) left) ∙ absent.0 in (
      passes row left (keyword_text pair) pair.1 fit.0.0 (text_is pair.0 pair.1 letters.0) (kind ∙ fit.0.1) fit.0.2 new,
      keys_pass row (left ++ (keyword_text pair ∷ [])) pairs letters.1 fit.1 o.1 (still_absent left pair pairs letters.0 o.0 absent.1),
    )

keyless : (ps : List Positional) (texts : List (List ℕ)) → FitPlaces ps texts → NoKeys texts
keyless ps [] fit = tt
keyless [] (text ∷ texts) fit = absurd fit
keyless (p ∷ ps) (text ∷ texts) fit = (fit.1, keyless ps texts fit.2)

-- positional operands, and then those with keys
places_pass : (row : Row) (left : List (List ℕ)) (ps : List Positional) (texts keys : List (List ℕ)) → list_any has_key left ≡ false
    → ((k : ℕ) → slice_get row.positional (length left + k) ≡ slice_get ps k) → FitPlaces ps texts → EachPasses row (left ++ texts) keys → EachPasses row left (texts ++ keys)
places_pass row left ps [] keys none at fit rest = subst (λ l. EachPasses row l keys) (append-nil left) rest
places_pass row left [] (text ∷ texts) keys none at fit rest = absurd fit
places_pass row left (p ∷ ps) (text ∷ texts) keys none at fit rest =
    let here : slice_get row.positional (length left) ≡ Some p = ap (slice_get row.positional) (let e : length left ≡ length left + 0 = omega arith in e) ∙ at 0 in
    let said : text_of text ≡ text = ap (λ t. if t then after_first is_equals text else text) fit.1 in
    let kind : kind_of row left text ≡ Some p.kind =
    (λ i. if fit.1 i then keyed row (key_of text) else (if none i then None else option_map (λ p. p.kind) (here i))) in (
      passes row left text text p.kind said kind fit.0 (ap (λ t. t && has (key_of text) left) fit.1),
      places_pass row (left ++ (text ∷ [])) ps texts keys (any_append left text none fit.1) (λ k. next k) fit.2
          (subst (λ l. EachPasses row l keys) (sym (append_assoc left (text ∷ []) texts)) rest),
    )
  where
    any_append : (xs : List (List ℕ)) (x : List ℕ) → list_any has_key xs ≡ false → has_key x ≡ false → list_any has_key (xs ++ (x ∷ [])) ≡ false
    any_append [] x e f = ap (λ t. t || false) f
    any_append (y ∷ ys) x e f = let o = or_parts (has_key y) (list_any has_key ys) e in ap (λ t. t || list_any has_key (ys ++ (x ∷ []))) o.0 ∙ any_append ys x o.1 f

    next : (k : ℕ) → slice_get row.positional (length (left ++ (text ∷ [])) + k) ≡ slice_get ps k
    next k = ap (slice_get row.positional) (let e : length (left ++ (text ∷ [])) + k ≡ length left + suc k = omega (arith, length-append left (text ∷ [])) in e) ∙ at (suc k)

absent_from : (texts : List (List ℕ)) (pairs : List (List ℕ × List ℕ)) → NoKeys texts → Absent texts pairs
absent_from texts [] none = tt
absent_from texts (pair ∷ pairs) none = (has_found pair.0 texts ∙ none_for pair.0 texts none, absent_from texts pairs none)

each_passes : (row : Row) (places : List (List ℕ)) (pairs : List (List ℕ × List ℕ)) → Lettered pairs → FitPlaces row.positional places → AllByRecursion (FitsKey row) pairs
    → is_twice bytes_eq (map (λ p. p.0) pairs) ≡ false → EachPasses row [] (places ++ map keyword_text pairs)
each_passes row places pairs letters fit keys once =
    places_pass row [] row.positional places (map keyword_text pairs) refl (λ k. ap (slice_get row.positional) (let e : 0 + k ≡ k = omega arith in e)) fit
    (keys_pass row places pairs letters keys once (absent_from places pairs (keyless row.positional places fit)))

-- ---- the table

-- what holds of each row of it: its operation is a word, it is found by it, and its forms and keys are letters
abbrev is_fit : Row → Bool
is_fit row =
    not (is_empty row.operation) && list_all printed row.operation
    && not (is_empty (rows_of row.operation))
    && (not row.has_field || list_any (λ r. r.has_field) (rows_of row.operation))
    && (if is_empty row.forms then not (takes_form row.operation) else takes_form row.operation)
    && list_all (λ f. not (is_empty f) && list_all is_letter f) row.forms
    && list_all (λ k. list_all is_letter k.key) row.keywords

all_fit : list_all is_fit table ≡ true
all_fit = refl

passed : {X : Type 0} (test : X → Bool) (xs : List X) (k : ℕ) (x : X) → list_all test xs ≡ true → slice_get xs k ≡ Some x → test x ≡ true
passed test [] k x all e = none_some e
passed test (y ∷ ys) zero x all e = ap test (let f : Some x ≡ Some y = sym e in cc) ∙ (and_parts (test y) (list_all test ys) all).0
passed test (y ∷ ys) (suc k) x all e = passed test ys k x (and_parts (test y) (list_all test ys) all).1 e

held : {X : Type 0} (P : X → Type 0) (xs : List X) (k : ℕ) (x : X) → AllByRecursion P xs → slice_get xs k ≡ Some x → P x
held P [] k x all e = none_some e
held P (y ∷ ys) zero x all e = subst P (let f : Some y ≡ Some x = e in cc) all.0
held P (y ∷ ys) (suc k) x all e = held P ys k x all.1 e

-- the row is the one that its operation and a form have
abbrev Found : Row → List ℕ → Type 0
Found row f = find (λ r. is_empty r.forms || is_one_of r.forms f) (rows_of row.operation) ≡ Some row

abbrev IsFound : Row → Type 0
IsFound row = (f : List ℕ) → (is_empty row.forms || is_one_of row.forms f) ≡ true → Found row f

by_form : (forms : List (List ℕ)) (f : List ℕ) (P : List ℕ → Type 0) → list_any (bytes_eq f) forms ≡ true → AllByRecursion P forms → P f
by_form [] f P e all = false_true e
by_form (g ∷ forms) f P e all =
    (elim (bytes_eq f g) as (λ b. bytes_eq f g ≡ b → (b || list_any (bytes_eq f) forms) ≡ true → P f) [
      | true ↦ λ same e. subst P (sym (bytes_same f g same)) all.0
      | false ↦ λ same e. by_form forms f P e all.1
    ]) refl e

each_found : AllByRecursion IsFound table
each_found =
    (λ f e. refl, (λ f e. by_form getmain_fixed.forms f (λ f. Found getmain_fixed f) e (refl, (refl, (refl, tt))), (λ f e. by_form getmain_fixed_placed.forms f (λ f. Found getmain_fixed_placed f) e (refl, (refl, tt)), (λ f e. by_form getmain_variable.forms f (λ f. Found getmain_variable f) e (refl, (refl, tt)), (λ f e. by_form getmain_variable_placed.forms f (λ f. Found getmain_variable_placed f) e (refl, (refl, tt)), (λ f e. by_form getmain_list.forms f (λ f. Found getmain_list f) e (refl, (refl, tt)), (λ f e. by_form storage_obtain.forms f (λ f. Found storage_obtain f) e (refl, tt), (λ f e. by_form freemain_or_whole.forms f (λ f. Found freemain_or_whole f) e (refl, (refl, (refl, tt))), (λ f e. by_form freemain_place.forms f (λ f. Found freemain_place f) e (refl, (refl, tt)), (λ f e. by_form freemain_area.forms f (λ f. Found freemain_area f) e (refl, (refl, tt)), (λ f e. by_form freemain_list.forms f (λ f. Found freemain_list f) e (refl, (refl, tt)), (λ f e. by_form storage_release.forms f (λ f. Found storage_release f) e (refl, tt), (λ f e. by_form cpool_build.forms f (λ f. Found cpool_build f) e (refl, tt), (λ f e. by_form cpool_get.forms f (λ f. Found cpool_get f) e (refl, tt), (λ f e. by_form cpool_free.forms f (λ f. Found cpool_free f) e (refl, tt), (λ f e. by_form cpool_delete.forms f (λ f. Found cpool_delete f) e (refl, tt), (λ f e. refl, (λ f e. refl, (λ f e. refl, (λ f e. refl, (λ f e. refl, (λ f e. refl, (λ f e. refl, (λ f e. by_form report.forms f (λ f. Found report f) e (refl, (refl, tt)), tt))))))))))))))))))))))))

-- a row without forms says the same whatever stands for its form
abbrev IsFormless : Row → Type 0
IsFormless row = is_empty row.forms ≡ true → (f g : List ℕ) (os : ByKey) → statement_of row.meaning f os ≡ statement_of row.meaning g os

other : {P : Type 0} → false ≡ true → P
other e = false_true e

each_formless : AllByRecursion IsFormless table
each_formless = (λ e f g os. refl, (λ e. other e, (λ e. other e, (λ e. other e, (λ e. other e, (λ e. other e, (λ e. other e, (λ e. other e, (λ e. other e, (λ e. other e, (λ e. other e, (λ e. other e, (λ e. other e, (λ e. other e, (λ e. other e, (λ e. other e, (λ e f g os. refl, (λ e f g os. refl, (λ e f g os. refl, (λ e f g os. refl, (λ e f g os. refl, (λ e f g os. refl, (λ e f g os. refl, (λ e. other e, tt))))))))))))))))))))))))

-- ---- the line

-- a row's operation, forms and keys
record Known (row : Row) : Type 0 where
  word : IsWord row.operation
  there : is_empty (rows_of row.operation) ≡ false
  field : (not row.has_field || list_any (λ r. r.has_field) (rows_of row.operation)) ≡ true
  takes : (if is_empty row.forms then not (takes_form row.operation) else takes_form row.operation) ≡ true
  forms : list_all (λ f. not (is_empty f) && list_all is_letter f) row.forms ≡ true
  keys : list_all (λ k. list_all is_letter k.key) row.keywords ≡ true

known : (row : Row) → is_fit row ≡ true → Known row
known row e =
    let a = not (is_empty row.operation) in
    let b = list_all printed row.operation in
    let c = not (is_empty (rows_of row.operation)) in
    let d = not row.has_field || list_any (λ r. r.has_field) (rows_of row.operation) in
    let t = if is_empty row.forms then not (takes_form row.operation) else takes_form row.operation in
    let f = list_all (λ f. not (is_empty f) && list_all is_letter f) row.forms in
    let k = list_all (λ k. list_all is_letter k.key) row.keywords in
    let six = and_parts (a && b && c && d && t && f) k e in
    let five = and_parts (a && b && c && d && t) f six.0 in
    let four = and_parts (a && b && c && d) t five.0 in
    let three = and_parts (a && b && c) d four.0 in
    let two = and_parts (a && b) c three.0 in
    let one = and_parts a b two.0 in
    record { word = record { some = not-true _ one.0; printed = one.1 }; there = not-true _ two.1; field = three.1; takes = four.1; forms = five.1; keys = six.1 }

-- the operands after the form
trailing : (b : Bool) (form : List ℕ) (l : List (List ℕ)) → (if b then (if b then l else form ∷ l) else drop 1 (if b then l else form ∷ l)) ≡ l
trailing b form l = grind (arith, common_steps)

-- the first operand is the form, where the row has forms: it has no key, and the row is found by it
form_checked : (b : Bool) (form : List ℕ) (l : List (List ℕ)) (takes : Bool) → (if b then not takes else takes) ≡ true → (b ≡ false → has_key form ≡ false)
    → (takes && (is_empty (if b then l else form ∷ l) || has_key (unwrap_or (slice_get (if b then l else form ∷ l) 0) []))) ≡ false
form_checked b form l takes h1 h2 = grind (arith, nat_tests)

found_first : (row : Row) (b : Bool) (form : List ℕ) (l : List (List ℕ)) → is_empty row.forms ≡ b → (b || is_one_of row.forms form) ≡ true → IsFound row
    → find (λ r. is_empty r.forms || is_one_of r.forms (unwrap_or (slice_get (if b then l else form ∷ l) 0) [])) (rows_of row.operation) ≡ Some row
found_first row true form l bare e found = found (unwrap_or (slice_get l 0) []) (ap (λ t. t || is_one_of row.forms (unwrap_or (slice_get l 0) [])) bare)
found_first row false form l bare e found = found form (ap (λ t. t || is_one_of row.forms form) bare ∙ e)

said_first : (row : Row) (b : Bool) (form : List ℕ) (l : List (List ℕ)) (os : ByKey) → is_empty row.forms ≡ b → IsFormless row
    → statement_of row.meaning (unwrap_or (slice_get (if b then l else form ∷ l) 0) []) os ≡ statement_of row.meaning form os
said_first row b form l os h1 h2 = grind (arith, common_steps)

-- the form is an operand without a key
form_letters : (row : Row) (form : List ℕ) → Known row → is_one_of row.forms form ≡ true → (not (is_empty form) && list_all is_letter form) ≡ true
form_letters row form is one = by_test row.forms is.forms one
  where
    by_test : (forms : List (List ℕ)) → list_all (λ f. not (is_empty f) && list_all is_letter f) forms ≡ true → list_any (bytes_eq form) forms ≡ true → (not (is_empty form) && list_all is_letter form) ≡ true
    by_test [] all e = false_true e
    by_test (g ∷ forms) all e =
        let a = and_parts (not (is_empty g) && list_all is_letter g) (list_all (λ f. not (is_empty f) && list_all is_letter f) forms) all in
        (elim (bytes_eq form g) as (λ b. bytes_eq form g ≡ b → (b || list_any (bytes_eq form) forms) ≡ true → (not (is_empty form) && list_all is_letter form) ≡ true) [
          | true ↦ λ same e. subst (λ f. (not (is_empty f) && list_all is_letter f) ≡ true) (sym (bytes_same form g same)) a.0
          | false ↦ λ same e. by_test forms a.1 e
        ]) refl e

all_join : (P : List ℕ → Type 0) (xs ys : List (List ℕ)) → AllByRecursion P xs → AllByRecursion P ys → AllByRecursion P (xs ++ ys)
all_join P xs ys h1 h2 = grind (arith, common_steps)

places_operands : (ps : List Positional) (texts : List (List ℕ)) → FitPlaces ps texts → AllByRecursion IsOperand texts
places_operands ps [] fit = tt
places_operands [] (text ∷ texts) fit = absurd fit
places_operands (p ∷ ps) (text ∷ texts) fit = (fit.0.operand, places_operands ps texts fit.2)

pairs_operands : (row : Row) (pairs : List (List ℕ × List ℕ)) → Lettered pairs → AllByRecursion (FitsKey row) pairs → AllByRecursion IsOperand (map keyword_text pairs)
pairs_operands row [] letters fit = tt
pairs_operands row (pair ∷ pairs) letters fit = (keyword_operand pair.0 pair.1 letters.0 fit.0.2.operand, pairs_operands row pairs letters.1 fit.1)

form_and : (b : Bool) (form : List ℕ) (l : List (List ℕ)) → (b ≡ false → IsOperand form) → AllByRecursion IsOperand l → AllByRecursion IsOperand (if b then l else form ∷ l)
form_and b form l h1 h2 = grind (arith, common_steps)

-- no check applies to the operands after the form
row_passes : (row : Row) (operands list : List (List ℕ)) (os : ByKey) → operands_after_form row operands ≡ list → by_key list ≡ os → EachPasses row [] list
    → lacks_positional row os ≡ false → lacks_keyword row os ≡ false → list_any (is_half os) row.rules ≡ false → list_any (is_conflict os) row.rules ≡ false
    → first_of (row_checks operands (Some row)) ≡ None
row_passes row operands list os front same each a b c d =
    let last : ByKey → List (Fault × Bool) = λ os. Conflicting when list_any (is_conflict os) row.rules ∷ [] in
    let tail : ByKey → List (Fault × Bool) = λ os. MissingOperand when (lacks_positional row os || lacks_keyword row os || list_any (is_half os) row.rules) ∷ last os in
    ap (λ l. first_of (flat_map (operand_checks row) (with_left l) ++ tail (by_key l))) front
    ∙ all_pass row list (tail (by_key list)) each
    ∙ ap (λ os. first_of (tail os)) same
    ∙ skip MissingOperand _ (last os) (λ i. a i || b i || c i)
    ∙ skip Conflicting _ [] d

-- what an allowed statement is made of
module _ (first : Bool) (task : List ℕ) (row : Row) (form : List ℕ) (places : List (List ℕ)) (pairs : List (List ℕ × List ℕ)) (named : is_name task ≡ true) (ok : IsAllowed row form places pairs) where
  is : Known row
  is = known row (passed is_fit table ok.in_table.0 row all_fit ok.in_table.1)

  abbrev list : List (List ℕ)
  list = places ++ map keyword_text pairs

  abbrev operands : List (List ℕ)
  operands = all_operands row form places pairs

  letters : Lettered pairs
  letters = lettered row pairs is.keys ok.pairs_fit

  a_form : is_empty row.forms ≡ false → (not (is_empty form) && list_all is_letter form) ≡ true
  a_form e = form_letters row form is (ap (λ t. t || is_one_of row.forms form) (sym e) ∙ ok.form_is)

  each : AllByRecursion IsOperand operands
  each =
      form_and (is_empty row.forms) form list (λ e. let f = and_parts (not (is_empty form)) (list_all is_letter form) (a_form e) in letters_operand form (not-true _ f.0) f.1)
      (all_join IsOperand places (map keyword_text pairs) (places_operands row.positional places ok.places_fit) (pairs_operands row pairs letters ok.pairs_fit))

  cut : IsCut task row.operation operands (line_text task row.operation operands)
  cut = cut_apart task row.operation operands named is.word each

  field : list_any (λ r. r.has_field) (rows_of row.operation) ≡ true
  field = ap (λ t. not t || list_any (λ r. r.has_field) (rows_of row.operation)) (sym ok.field) ∙ is.field

  row_is : row_of row.operation operands ≡ Some row
  row_is = found_first row (is_empty row.forms) form list refl ok.form_is (held IsFound table ok.in_table.0 row each_found ok.in_table.1)

  front : operands_after_form row operands ≡ list
  front = trailing (is_empty row.forms) form list

  same : by_key list ≡ by_spelling places pairs
  same = said_is places pairs (keyless row.positional places ok.places_fit) letters

  row_none : first_of (row_checks operands (Some row)) ≡ None
  row_none =
      row_passes row operands list (by_spelling places pairs) front same (each_passes row places pairs letters ok.places_fit ok.pairs_fit ok.keys_once)
      ok.places_enough ok.keys_enough ok.none_half ok.no_conflict

  statement_none : (first && not (bytes_eq row.operation (codes "REGION"))) ≡ false → first_of (statement_checks first task row.operation operands) ≡ None
  statement_none begins =
      let fifth : List (Fault × Bool) = UnknownOperation when not (is_some (row_of row.operation operands)) ∷ row_checks operands (row_of row.operation operands) in
      let fourth : List (Fault × Bool) = MissingOperand when (takes_form row.operation && (is_empty operands || has_key (form_in row.operation operands))) ∷ fifth in
      let third : List (Fault × Bool) = OutOfPlace when (first && not (bytes_eq row.operation (codes "REGION"))) ∷ fourth in
      let second : List (Fault × Bool) = UnknownOperation when is_empty (rows_of row.operation) ∷ third in
      skip UnknownOperation _ second (ap not named)
      ∙ skip UnknownOperation _ third is.there
      ∙ skip OutOfPlace _ fourth begins
      ∙ skip MissingOperand _ fifth (form_checked (is_empty row.forms) form list (takes_form row.operation) is.takes (λ e. letters_no_key form (and_parts (not (is_empty form)) (list_all is_letter form) (a_form e)).1))
      ∙ (λ i. first_of (UnknownOperation when not (is_some (row_is i)) ∷ row_checks operands (row_is i)))
      ∙ row_none

  said : said_with task (form_in row.operation operands) operands (row_of row.operation operands) ≡ (statement_of row.meaning form (by_spelling places pairs) >>= λ s. Some (line.Statement (padded task) s))
  said =
      (λ i. said_with task (form_in row.operation operands) operands (row_is i))
      ∙ (λ i. statement_of row.meaning (form_in row.operation operands) (by_key (front i)) >>= λ s. Some (line.Statement (padded task) s))
      ∙ (λ i. statement_of row.meaning (form_in row.operation operands) (same i) >>= λ s. Some (line.Statement (padded task) s))
      ∙ (λ i. said_first row (is_empty row.forms) form list (by_spelling places pairs) refl (held IsFormless table ok.in_table.0 row each_formless ok.in_table.1) i >>= λ s. Some (line.Statement (padded task) s))

pub allowed_is_read : AllowedIsRead
allowed_is_read first task row form places pairs statement named ok begins short says = record {
  no_fault = line_checks first task row.operation (operands first task row form places pairs named ok) _ (cut first task row form places pairs named ok) short (field first task row form places pairs named ok)
      ∙ statement_none first task row form places pairs named ok begins;
  says = line_says task row.operation (operands first task row form places pairs named ok) _ (cut first task row form places pairs named ok) (field first task row form places pairs named ok)
      ∙ said first task row form places pairs named ok ∙ (λ i. says i >>= λ s. Some (line.Statement (padded task) s));
}

-- ---- keywords in another order

abbrev Pair : Type 0
Pair = List ℕ × List ℕ

eq_turned : (a b : ℕ) → (a == b) ≡ (b == a)
eq_turned a b = grind (arith, nat_tests)

bytes_turned : (xs ys : List ℕ) → bytes_eq xs ys ≡ bytes_eq ys xs
bytes_turned [] [] = refl
bytes_turned [] (y ∷ ys) = refl
bytes_turned (x ∷ xs) [] = refl
bytes_turned (x ∷ xs) (y ∷ ys) = λ i. eq_turned x y i && bytes_turned xs ys i

or_exchanged : (a b c : Bool) → (a || (b || c)) ≡ (b || (a || c))
or_exchanged a b c = grind (arith, nat_tests)

abbrev keys_of : List Pair → List (List ℕ)
keys_of pairs = map (λ p. p.0) pairs

any_exchanged : (test : List ℕ → Bool) (front : List Pair) (a b : Pair) (rest : List Pair) → list_any test (keys_of (front ++ (a ∷ b ∷ rest))) ≡ list_any test (keys_of (front ++ (b ∷ a ∷ rest)))
any_exchanged test front a b rest = grind (arith, common_steps, or_exchanged)

-- what the first keys have to do with each other does not depend on their order
pub four_exchanged : (ab an bn n : Bool) → ((ab || an) || (bn || n)) ≡ ((ab || bn) || (an || n))
four_exchanged ab an bn n = grind (arith, nat_tests)

twice_exchanged : (front : List Pair) (a b : Pair) (rest : List Pair) → is_twice bytes_eq (keys_of (front ++ (a ∷ b ∷ rest))) ≡ is_twice bytes_eq (keys_of (front ++ (b ∷ a ∷ rest)))
twice_exchanged [] a b rest = grind (arith, nat_tests, bytes_turned, four_exchanged)
twice_exchanged (p ∷ front) a b rest = λ i. any_exchanged (bytes_eq p.0) front a b rest i || twice_exchanged front a b rest i

-- two keys are not the same
apart : (front : List Pair) (a b : Pair) (rest : List Pair) → is_twice bytes_eq (keys_of (front ++ (a ∷ b ∷ rest))) ≡ false → bytes_eq a.0 b.0 ≡ false
apart [] a b rest once = (or_parts (bytes_eq a.0 b.0) _ (or_parts (bytes_eq a.0 b.0 || list_any (bytes_eq a.0) (keys_of rest)) _ once).0).0
apart (p ∷ front) a b rest once = apart front a b rest (or_parts (list_any (bytes_eq p.0) (keys_of (front ++ (a ∷ b ∷ rest)))) _ once).1

found_exchanged : (key : List ℕ) (front : List Pair) (a b : Pair) (rest : List Pair) → bytes_eq a.0 b.0 ≡ false
    → find (λ p. bytes_eq p.0 key) (front ++ (a ∷ b ∷ rest)) ≡ find (λ p. bytes_eq p.0 key) (front ++ (b ∷ a ∷ rest))
found_exchanged key [] a b rest differ = by (bytes_eq a.0 key) (bytes_eq b.0 key) refl refl
  where
    by : (x y : Bool) → bytes_eq a.0 key ≡ x → bytes_eq b.0 key ≡ y
        → (if x then Some a else (if y then Some b else find (λ p. bytes_eq p.0 key) rest)) ≡ (if y then Some b else (if x then Some a else find (λ p. bytes_eq p.0 key) rest))
    by true true e f =
        let same : a.0 ≡ b.0 = bytes_same a.0 key e ∙ sym (bytes_same b.0 key f) in
        let g : true ≡ false = sym (bytes_self b.0) ∙ ap (λ k. bytes_eq k b.0) (sym same) ∙ differ in
        true_false g
    by true false e f = refl
    by false true e f = refl
    by false false e f = refl
found_exchanged key (p ∷ front) a b rest differ = ap (λ o. if bytes_eq p.0 key then Some p else o) (found_exchanged key front a b rest differ)

said_exchanged : (places : List (List ℕ)) (front : List Pair) (a b : Pair) (rest : List Pair) → bytes_eq a.0 b.0 ≡ false
    → by_spelling places (front ++ (a ∷ b ∷ rest)) ≡ by_spelling places (front ++ (b ∷ a ∷ rest))
said_exchanged places front a b rest differ = grind (arith, nat_tests, found_exchanged, under)

fit_exchanged : (row : Row) (front : List Pair) (a b : Pair) (rest : List Pair) → AllByRecursion (FitsKey row) (front ++ (a ∷ b ∷ rest)) → AllByRecursion (FitsKey row) (front ++ (b ∷ a ∷ rest))
fit_exchanged row [] a b rest fit = (fit.1.0, (fit.0, fit.1.1))
fit_exchanged row (p ∷ front) a b rest fit = (fit.0, fit_exchanged row front a b rest fit.1)

allowed_exchanged : (row : Row) (form : List ℕ) (places : List (List ℕ)) (front : List Pair) (a b : Pair) (rest : List Pair)
    → IsAllowed row form places (front ++ (a ∷ b ∷ rest)) → IsAllowed row form places (front ++ (b ∷ a ∷ rest))
allowed_exchanged row form places front a b rest ok =
    let same = said_exchanged places front a b rest (apart front a b rest ok.keys_once) in
    record {
      in_table = ok.in_table;
      field = ok.field;
      form_is = ok.form_is;
      places_fit = ok.places_fit;
      pairs_fit = fit_exchanged row front a b rest ok.pairs_fit;
      keys_once = sym (twice_exchanged front a b rest) ∙ ok.keys_once;
      places_enough = ap (lacks_positional row) (sym same) ∙ ok.places_enough;
      keys_enough = ap (lacks_keyword row) (sym same) ∙ ok.keys_enough;
      none_half = ap (λ os. list_any (is_half os) row.rules) (sym same) ∙ ok.none_half;
      no_conflict = ap (λ os. list_any (is_conflict os) row.rules) (sym same) ∙ ok.no_conflict;
    }

-- what an allowed line says
allowed_says : (first : Bool) (task : List ℕ) (row : Row) (form : List ℕ) (places : List (List ℕ)) (pairs : List Pair) → is_name task ≡ true → IsAllowed row form places pairs
    → line_meaning (line_text task row.operation (all_operands row form places pairs)) ≡ (statement_of row.meaning form (by_spelling places pairs) >>= λ s. Some (line.Statement (padded task) s))
allowed_says first task row form places pairs named ok =
    line_says task row.operation (operands first task row form places pairs named ok) _ (cut first task row form places pairs named ok) (field first task row form places pairs named ok)
    ∙ said first task row form places pairs named ok

pub in_any_order : InAnyOrder
in_any_order first task row form places front a b rest l named ok begins short is =
    let pairs = front ++ (b ∷ a ∷ rest) in
    let turned = allowed_exchanged row form places front a b rest ok in
    record {
      no_fault = line_checks first task row.operation (operands first task row form places pairs named turned) _ (cut first task row form places pairs named turned) short (field first task row form places pairs named turned)
          ∙ statement_none first task row form places pairs named turned begins;
      says = allowed_says first task row form places pairs named turned
          ∙ (λ i. statement_of row.meaning form (sym (said_exchanged places front a b rest (apart front a b rest ok.keys_once)) i) >>= λ s. Some (line.Statement (padded task) s))
          ∙ sym (allowed_says first task row form places (front ++ (a ∷ b ∷ rest)) named ok) ∙ is.says;
    }
