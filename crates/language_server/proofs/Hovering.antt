-- What hover shows, a part at a time.
use Rattle.std.proofs.Common.{◌≡◌, ℕ, suc, ◌+◌, ◌-◌, ◌<◌, ◌≤◌, ◌==◌, Bool, true, false, not, cond, if◌then◌else◌, List, [], ◌∷◌, ◌++◌, append_assoc, length, arith, refl, sym, ap, ◌∙◌, Option, Some, None, Ok, Err, OnOk}
use Rattle.std.specs.Prelude.{Result, IfSome, count_by, ◌&&◌, ◌||◌, find, flat_map, nat_le, nat_lt, position, unwrap_or}
use Rattle.std.specs.Str.{IsUtf8, is_utf8}
use Rattle.std.proofs.lemmas.Str.{IsUtf8-from_is_utf8}
use Rattle.std.specs.List.{list_any}
use Rattle.std.proofs.lemmas.Bool.Decides.{nat_tests}
use Rattle.std.proofs.lemmas.List.Sums.{count_by-le-length}
use Rattle.mvs_model.specs.Reading.{form_in, is_empty, is_one_of, row_of, rows_of}
use Rattle.expected_answers.specs.Blank.{IsPartedAt, place_of, up_to}
use Rattle.job_script.specs.declared.operations.Operation.{Operation}
use Rattle.job_script.specs.declared.operations.Operation.TheVariants as operation
use Rattle.job_script.proofs.Cut.{cut_at}
use Rattle.job_script.specs.Operations.{operation_text}
use Rattle.language_server.specs.Documents.{DocumentValue, answer_at}
use Rattle.language_server.specs.Known.{is_called, is_ended, is_granted, is_known, is_made, is_set_again, known_name, moment_before}
use Rattle.language_server.specs.declared.names.NameKind.{NameKind}
use Rattle.language_server.specs.declared.names.Occurrence.{Occurrence}
use Rattle.language_server.specs.Hovers.{as_text, field_by, field_paragraphs, form_row, forms_blocks, spot_field, spot_operation, subject_paragraphs, syntax_blocks, syntax_by}
use Rattle.language_server.specs.Reports.{runnable_line, runnable_lines}
use Rattle.language_server.specs.Spans.{bytes_of, line_at, line_bytes, line_starts, onto_start, starts_from}
use Rattle.language_server.specs.Syntax.{all_forms}
use Rattle.language_server.specs.Words.{run_length}
use Rattle.language_server.specs.declared.span.Span.{Span}
use Rattle.language_server.specs.declared.subject.Spot.{Spot}
use Rattle.language_server.specs.declared.subject.LinePart.TheVariants as subject

-- what is found passes
pub found_passes : {X : Type 0} (p : X → Bool) (xs : List X) (x : X) → find p xs ≡ Some x → p x ≡ true
found_passes p [] x is = let no : Some x ≡ None = sym is in absurd cc
found_passes p (y ∷ xs) x is = by (p y) refl is (λ later. found_passes p xs x later) where
  by : (b : Bool) → p y ≡ b → cond b (Some y) (find p xs) ≡ Some x → (find p xs ≡ Some x → p x ≡ true) → p x ≡ true
  by true e is later = let same : y ≡ x = cc in ap p (sym same) ∙ e
  by false e is later = later is

-- what is before the first separator of a text
pub parted_before : (separator text before : List ℕ) (after : Option (List ℕ)) → IsPartedAt separator text before after → before ≡ up_to (place_of separator text) text
parted_before separator text before None is = is.1 ∙ sym (ap (λ place. up_to place text) is.0)
parted_before separator text before (Some after) is = is.2 ∙ sym (ap (λ place. up_to place text) is.1)

-- bytes that are no text
pub no_text : (bytes : List ℕ) → (IsUtf8 bytes → ⊥) → [] ≡ as_text bytes
no_text bytes none = by (is_utf8 bytes) refl where
  by : (b : Bool) → is_utf8 bytes ≡ b → [] ≡ (if b then bytes else [])
  by true e = absurd (none (IsUtf8-from_is_utf8 bytes e))
  by false e = refl

-- a run of bytes is in its text
pub run_within : (p : ℕ → Bool) (text : List ℕ) → run_length p text ≤ length text
run_within p text = by (position p text) refl where
  by : (o : Option ℕ) → position p text ≡ o → unwrap_or o (length text) ≤ length text
  by None is = omega arith
  by (Some n) is = let w = (cut_at p text n is).within in omega (arith, w)

-- ---- names

both : (a b : Bool) → (a && b) ≡ true → (a ≡ true) × (b ≡ true)
both true b is = (refl, is)
both false b is = let no : true ≡ false = sym is in absurd cc

-- a name that is known before a line is in a line before it
pub known_most : (d : DocumentValue) (names : List Occurrence) (before : ℕ) (kind : NameKind) (bytes : List ℕ) (o : Option Occurrence) → o ≡ known_name d names before kind bytes → IfSome o (λ name. name.line < before)
known_most d names before kind bytes None is = tt
known_most d names before kind bytes (Some name) is =
    let m = moment_before names before in
    let passes = found_passes (λ name. is_called d.text kind bytes name && is_known d names m name) names name (sym is) in
    let known = (both (is_called d.text kind bytes name) (is_known d names m name) passes).1 in
    let made = (both (is_made d m name) (not (list_any (is_set_again d m name) names) && not (is_ended d names m name)) known).0 in
    let less : nat_lt name.line before ≡ true = (both (nat_lt name.line before) (name.is_set && ((name.step == m.step) && is_granted (answer_at d name.line))) made).0 in
    grind (arith, nat_tests)

-- ---- operations

-- an operation has rows
pub has_rows : (o : Operation) → is_empty (rows_of (operation_text o)) ≡ false
has_rows operation.Region = refl
has_rows operation.Getmain = refl
has_rows operation.Freemain = refl
has_rows operation.Storage = refl
has_rows operation.Cpool = refl
has_rows operation.Attach = refl
has_rows operation.Return = refl
has_rows operation.Abend = refl
has_rows operation.Put = refl
has_rows operation.Show = refl
has_rows operation.Move = refl
has_rows operation.Where = refl
has_rows operation.Report = refl

-- a word that is no operation has no syntax
pub no_syntax : (word : List ℕ) → rows_of word ≡ [] → syntax_blocks word ≡ []
no_syntax word none =
    let row : row_of word ([] ∷ []) ≡ None = ap (λ rows. find (λ row. is_empty row.forms || is_one_of row.forms (form_in word ([] ∷ []))) rows) none in
    let forms : all_forms word ≡ [] = ap (λ rows. flat_map (λ row. row.forms) rows) none in
    ap (syntax_by word) row ∙ ap (forms_blocks word) forms

-- the operands of a word that is no operation, and of one that is
pub no_field : (d : DocumentValue) (spot : Spot) (report : List ℕ) → rows_of (spot_operation d spot) ≡ [] → field_paragraphs d spot report ≡ []
no_field d spot report none = ap (λ rows. if is_empty rows then [] else field_by d spot report (form_row (spot_operation d spot) (spot_field d spot) spot.column)) none

pub some_field : (d : DocumentValue) (spot : Spot) (report : List ℕ) (o : Operation) → spot_operation d spot ≡ operation_text o
    → field_paragraphs d spot report ≡ field_by d spot report (form_row (operation_text o) (spot_field d spot) spot.column)
some_field d spot report o is =
    let some : is_empty (rows_of (spot_operation d spot)) ≡ false = ap (λ word. is_empty (rows_of word)) is ∙ has_rows o in
    ap (λ b. if b then [] else field_by d spot report (form_row (spot_operation d spot) (spot_field d spot) spot.column)) some
    ∙ ap (λ word. field_by d spot report (form_row word (spot_field d spot) spot.column)) is

-- what is added for a word, for the operands of an operation, and for the operation of a statement
pub syntax_added : (found new : List (List ℕ)) (word operation : List ℕ) → word ≡ operation → new ≡ found ++ syntax_blocks operation → new ≡ found ++ syntax_blocks word
syntax_added found new word operation is e = e ∙ ap (λ w. found ++ syntax_blocks w) (sym is)

pub field_added : (d : DocumentValue) (spot : Spot) (report : List ℕ) (found new : List (List ℕ)) (o : Operation) → spot_operation d spot ≡ operation_text o
    → new ≡ found ++ field_by d spot report (form_row (operation_text o) (spot_field d spot) spot.column) → new ≡ found ++ field_paragraphs d spot report
field_added d spot report found new o is e = e ∙ ap (λ ps. found ++ ps) (sym (some_field d spot report o is))

pub subject_added : (d : DocumentValue) (spot : Spot) (report : List ℕ) (found new : List (List ℕ)) (s : Span) (word line : List ℕ) → word ≡ bytes_of line s → line ≡ line_bytes d.text spot.line
    → spot.subject ≡ subject.Operation s → new ≡ found ++ syntax_blocks word → new ≡ found ++ subject_paragraphs d spot report spot.subject
subject_added d spot report found new s word line of at in_operation e =
    e ∙ ap (λ w. found ++ syntax_blocks w) (of ∙ ap (λ l. bytes_of l s) at) ∙ ap (λ t. found ++ subject_paragraphs d spot report t) (sym in_operation)

-- ---- lines

starts_most : (at : ℕ) (text : List ℕ) → length (starts_from at text) ≤ length text
starts_most at [] = omega arith
starts_most at (b ∷ text) = by (b == 10) (starts_most (at + 1) text) where
  by : (c : Bool) → length (starts_from (at + 1) text) ≤ length text → length (onto_start c (at + 1) (starts_from (at + 1) text)) ≤ suc (length text)
  by true h = omega arith
  by false h = omega arith

starts_count : (text : List ℕ) → length (line_starts text) ≤ length text + 1
unfolding line_starts
starts_count text = let s = starts_most 0 text in omega (arith, s)

less_one : (n k l : ℕ) → n ≤ k → k ≤ l + 1 → l ≤ 1048576 → n - 1 ≤ 1048576
less_one n k l a b c = omega arith

pub line_most : (text : List ℕ) (place : ℕ) → length text ≤ 1048576 → line_at text place ≤ 1048576
line_most text place short =
    less_one (count_by (λ start. nat_le start place) (line_starts text)) (length (line_starts text)) (length text) (count_by-le-length (λ start. nat_le start place) (line_starts text)) (starts_count text) short

-- one more line is run
pub runnable_more : (d : DocumentValue) (script new : List ℕ) (n m : ℕ) → n < m → new ≡ script ++ runnable_line d n ++ 10 ∷ []
    → new ++ runnable_lines d (n + 1) (m - (n + 1)) ≡ script ++ runnable_lines d n (m - n)
runnable_more d script new n m less more =
    let left = runnable_lines d (n + 1) (m - (n + 1)) in
    let e : suc (m - (n + 1)) ≡ m - n = omega arith in
    ap (λ s. s ++ left) more
    ∙ append_assoc (script ++ runnable_line d n) (10 ∷ []) left
    ∙ append_assoc script (runnable_line d n) (10 ∷ left)
    ∙ ap (λ count. script ++ runnable_lines d n count) e

-- ---- results

pub on_ok : {T E P Q : Type 0} → (r : Result T E) → (P → Q) → OnOk r P → OnOk r Q
on_ok (Ok t) f p = f p
on_ok (Err e) f p = p
