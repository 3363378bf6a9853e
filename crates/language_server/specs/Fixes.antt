-- Actions that mend what diagnostics report: the word that is meant, the nearest name that is set, and the release of an area that leaked.
use Rattle.std.specs.Prelude.{◌≡◌, ℕ, zero, suc, ◌+◌, ◌-◌, ◌==◌, ◌&&◌, ◌||◌, not, nat_le, nat_lt, Bool, true, false, if◌then◌else◌, List, [], ◌∷◌, ◌++◌, codes, flat_map, length, map, slice_get, Option, Some, None, unwrap_or, is_some, bytes_eq}
use Rattle.std.specs.List.{All, after_first, before_first, list_all, list_any}
use Rattle.std.specs.Str.{chars, is_utf8}
use Rattle.mvs_model.specs.Lines.{lines_of}
use Rattle.mvs_model.specs.Reading.{is_digit}
use Rattle.strsim.specs.Edits.{osa_table}
use Rattle.expected_answers.specs.Blank.{place_of, up_to}
use Rattle.expected_answers.specs.ExpectedAnswers.{after_place}
use Rattle.expected_answers.specs.Reports.{shown}
use Rattle.language_server.specs.Actions.{ActionValue}
use Rattle.language_server.specs.Documents.{DocumentValue}
use Rattle.language_server.specs.Known.{is_known, moment_before, without_blank}
use Rattle.language_server.specs.LeakNotes.{LeakValue, leak_in}
use Rattle.language_server.specs.Names.{begins_statement, is_region, names_of, operation_word}
use Rattle.language_server.specs.NoteValues.{NoteValue}
use Rattle.language_server.specs.References.{kind_number}
use Rattle.language_server.specs.Spans.{IsIn, bytes_of, line_at, line_bytes, line_end, line_start, line_starts, within}
use Rattle.language_server.specs.LineOutputs.{task_of}
use Rattle.language_server.specs.Words.{line_piece}
use Rattle.language_server.specs.declared.names.NameKind.{NameKind}
use Rattle.language_server.specs.declared.names.NameKind.TheVariants as kind
use Rattle.language_server.specs.declared.names.Occurrence.{Occurrence}
use Rattle.language_server.specs.declared.notes.Severity.{Severity}
use Rattle.language_server.specs.declared.notes.Severity.TheVariants as level
use Rattle.language_server.specs.declared.span.Span.{Span}
use Rattle.language_server.specs.declared.state.Moment.{Moment}

-- an action that mends something
abbrev pub fix : List ℕ → List ℕ → Span → List ℕ → ActionValue
fix text title s written = record { title = title; span = within text s; text = written; is_fix = true }

-- the one that replaces some bytes with a word
abbrev pub change : List ℕ → Span → List ℕ → ActionValue
change text s word = fix text (codes "Change to " ++ shown word) s (shown word)

-- ---- the word that is meant

abbrev pub is_blank_byte : ℕ → Bool
is_blank_byte b = b == 32

-- a text up to a question mark, if it has one and no blank before that
abbrev pub question_word : List ℕ → Option (List ℕ) → Option (List ℕ)
question_word text None = None
question_word text (Some rest) = if list_any is_blank_byte (up_to (place_of (codes "?") text) text) then None else Some (up_to (place_of (codes "?") text) text)

abbrev pub question_by : Option (List ℕ) → Option (List ℕ)
question_by None = None
question_by (Some text) = question_word text (after_place (codes "?") text)

-- the word that a message proposes: `did you mean WORD?`
abbrev pub meant_in : List ℕ → Option (List ℕ)
meant_in message = question_by (after_place (codes "did you mean ") message)

abbrev pub upper_byte : ℕ → ℕ
upper_byte b = if nat_le 97 b && nat_le b 122 then b - 32 else b

-- whether a message says that a word has to be in upper case
abbrev pub asks_upper : List ℕ → Bool
asks_upper message = is_some (place_of (codes "use upper case") message)

-- the intended word for a wrong one
abbrev pub meant_by : List ℕ → List ℕ → Option (List ℕ) → Option (List ℕ)
meant_by message word (Some meant) = Some meant
meant_by message word None = if asks_upper message then Some (map upper_byte word) else None

abbrev pub changes_to : List ℕ → Span → Option (List ℕ) → List ActionValue
changes_to text s None = []
changes_to text s (Some word) = change text s word ∷ []

abbrev pub word_fixes : DocumentValue → NoteValue → List ActionValue
word_fixes d note = changes_to d.text note.span (meant_by note.message (bytes_of d.text note.span) (meant_in note.message))

-- ---- the nearest name

-- a name, and the number of the edits that lead to it
pub record NearValue : Type 0 where
  pub edits : ℕ
  pub text : List ℕ

-- the distance of two words, by optimal string alignment
abbrev pub edits_of : List ℕ → List ℕ → ℕ
edits_of word other = (osa_table (chars word) (chars other)).last_row (length (chars other))

-- the most edits of a word after which it may still be meant
abbrev pub most_edits : List ℕ → ℕ
most_edits word = if nat_le (length word) 3 then 1 else 2

abbrev pub is_near : List ℕ → ℕ → Bool
is_near word edits = nat_le edits (most_edits word) && nat_lt edits (length word)

abbrev pub near_with : List ℕ → List ℕ → ℕ → Option NearValue
near_with word other edits = if is_near word edits then Some (record { edits = edits; text = other }) else None

-- a name, if it may be meant by a word
abbrev pub near : List ℕ → List ℕ → Option NearValue
near word other = if is_utf8 word && is_utf8 other then near_with word other (edits_of word other) else None

abbrev pub nearer : Option NearValue → Option NearValue → Option NearValue
nearer best None = best
nearer None (Some next) = Some next
nearer (Some best) (Some next) = if nat_lt next.edits best.edits then Some next else Some best

abbrev pub is_candidate : DocumentValue → List Occurrence → Moment → NameKind → Occurrence → Bool
is_candidate d names m kind name = (kind_number kind == kind_number name.kind) && is_known d names m name

abbrev pub near_name : DocumentValue → List Occurrence → Moment → NameKind → List ℕ → Occurrence → Option NearValue
near_name d names m kind word name = if is_candidate d names m kind name then near word (bytes_of d.text name.span) else None

-- the nearest of some known names, or an earlier one: the first of those with the fewest edits
abbrev pub nearest_from : DocumentValue → List Occurrence → Moment → NameKind → List ℕ → Option NearValue → List Occurrence → Option NearValue
nearest_from d all m kind word best [] = best
nearest_from d all m kind word best (name ∷ names) = nearest_from d all m kind word (nearer best (near_name d all m kind word name)) names

abbrev pub nearest_at : DocumentValue → List Occurrence → Moment → NameKind → List ℕ → Option NearValue
nearest_at d names m kind word = nearest_from d names m kind word None names

-- the nearest name of a kind that is known before a line
abbrev pub nearest_name : DocumentValue → ℕ → NameKind → List ℕ → Option NearValue
nearest_name d n kind word = nearest_at d (names_of d.text) (moment_before (names_of d.text) n) kind word

-- what kind of name a diagnostic misses, by its code
abbrev pub missing_kind : List ℕ → Option NameKind
missing_kind code = if bytes_eq code (codes "NO NAME") then Some kind.Area else if bytes_eq code (codes "NOT RUN") then Some kind.Task else None

abbrev pub near_text : Option NearValue → Option (List ℕ)
near_text None = None
near_text (Some name) = Some name.text

abbrev pub nearest_by : DocumentValue → Span → Option NameKind → Option (List ℕ)
nearest_by d s None = None
nearest_by d s (Some kind) = near_text (nearest_name d (line_at d.text s.start) kind (bytes_of d.text s))

abbrev pub name_fixes : DocumentValue → NoteValue → List ActionValue
name_fixes d note = changes_to d.text note.span (nearest_by d note.span (missing_kind note.code))

-- ---- the diagnostics of some lines

abbrev pub is_information : Severity → Bool
is_information level.Error = false
is_information level.Warning = false
is_information level.Information = true

-- whether a diagnostic is at the lines from the first to the last, and no information
abbrev pub is_mended : List ℕ → ℕ → ℕ → NoteValue → Bool
is_mended text first last note = not (is_information note.severity) && (nat_le (line_start text first) note.span.start && nat_le note.span.start (line_end text last))

abbrev pub note_fixes : DocumentValue → ℕ → ℕ → NoteValue → List ActionValue
note_fixes d first last note = if is_mended d.text first last note then word_fixes d note ++ name_fixes d note else []

-- ---- releases

abbrev pub is_colon : ℕ → Bool
is_colon b = b == 58

-- what a line of a report has after what it is about
abbrev pub leak_words : List ℕ → List ℕ
leak_words text = without_blank (after_first is_colon text)

abbrev pub digits_or : List ℕ → Option (List ℕ)
digits_or digits = if list_all is_digit digits then Some digits else None

abbrev pub length_by : List ℕ → Option (List ℕ) → Option (List ℕ)
length_by words None = None
length_by words (Some rest) = digits_or (up_to (place_of (codes " bytes at ") words) words)

-- the length of an area, if all of it is left
abbrev pub leak_length : List ℕ → Option (List ℕ)
leak_length words = length_by words (after_place (codes " bytes at ") words)

abbrev pub word_of : Option (List ℕ) → Option (List ℕ)
word_of None = None
word_of (Some rest) = Some (before_first is_blank_byte rest)

abbrev pub leak_subpool : List ℕ → Option (List ℕ)
leak_subpool words = word_of (after_place (codes " in SP ") words)

abbrev pub release_text : List ℕ → List ℕ → List ℕ → List ℕ
release_text area len subpool = codes "FREEMAIN RU,LV=" ++ (shown len ++ (codes ",A=" ++ (shown area ++ (codes ",SP=" ++ shown subpool))))

abbrev pub release_by : List ℕ → Option (List ℕ) → Option (List ℕ) → Option (List ℕ)
release_by area None subpool = None
release_by area (Some len) None = None
release_by area (Some len) (Some subpool) = Some (release_text area len subpool)

-- the statement that releases an area, if all of it is left
abbrev pub release_of : LeakValue → Option (List ℕ)
release_of l = release_by l.area (leak_length (leak_words l.text)) (leak_subpool (leak_words l.text))

-- the task that obtained an area
abbrev pub obtained_by : List ℕ → List ℕ
obtained_by text = unwrap_or (word_of (after_place (codes "obtained by ") text)) []

abbrev pub begins_step : List ℕ → Bool
begins_step line = begins_statement line && is_region (operation_word (line_piece line))

-- whether an operation ends a task
abbrev pub is_end : List ℕ → Bool
is_end operation = bytes_eq operation (codes "RETURN") || bytes_eq operation (codes "ABEND")

-- whether a task ends itself in a line
abbrev pub ends_itself : List ℕ → List ℕ → Bool
ends_itself task line = begins_statement line && (is_end (operation_word (line_piece line)) && bytes_eq (task_of line) task)

abbrev pub later_line : ℕ → ℕ → Bool → ℕ
later_line last n true = n
later_line last n false = last

-- before which line a task releases an area, among a number of lines after a statement: the one in which it ends, or the one after the last
-- statement of the step
abbrev pub release_line : List ℕ → List ℕ → ℕ → ℕ → ℕ → ℕ
release_line text task last n zero = last + 1
release_line text task last n (suc count) =
    if begins_step (line_bytes text n) then last + 1
    else if ends_itself task (line_bytes text n) then n
    else release_line text task (later_line last n (begins_statement (line_bytes text n))) (n + 1) count

abbrev pub release_place : List ℕ → ℕ → List ℕ → ℕ
release_place text n task = line_start text (release_line text task n (n + 1) (length (line_starts text) - (n + 1)))

-- whether a line begins at a place
abbrev pub is_feed : Option ℕ → Bool
is_feed None = false
is_feed (Some b) = b == 10

abbrev pub is_at_begin : List ℕ → ℕ → Bool
is_at_begin text place = (place == 0) || is_feed (slice_get text (place - 1))

abbrev pub statement_line : List ℕ → List ℕ → List ℕ
statement_line task statement = shown task ++ (codes " " ++ statement)

abbrev pub feed_if : Bool → List ℕ
feed_if true = codes "\n"
feed_if false = []

-- a statement as a line of its own, where a line begins or not
abbrev pub own_line : Bool → List ℕ → List ℕ
own_line is_begin statement = feed_if (not is_begin) ++ (statement ++ feed_if is_begin)

abbrev pub release_fix : List ℕ → ℕ → List ℕ → List ℕ → ActionValue
release_fix text place task statement =
    fix text (codes "Insert " ++ statement) (record { start = place; end = place }) (own_line (is_at_begin text place) (statement_line task statement))

abbrev pub release_fixes_by : List ℕ → LeakValue → Option (List ℕ) → List ActionValue
release_fixes_by text l None = []
release_fixes_by text l (Some statement) = release_fix text (release_place text l.line (obtained_by l.text)) (obtained_by l.text) statement ∷ []

abbrev pub leak_fixes_by : List ℕ → ℕ → ℕ → Option LeakValue → List ActionValue
leak_fixes_by text first last None = []
leak_fixes_by text first last (Some l) = if nat_le first l.line && nat_le l.line last then release_fixes_by text l (release_of l) else []

-- the releases of areas that the lines from the first to the last obtained
abbrev pub leak_fixes : List ℕ → ℕ → ℕ → List (List ℕ) → List ActionValue
leak_fixes text first last lines = flat_map (λ line. leak_fixes_by text first last (leak_in line)) lines

-- ---- fixes

-- the fixes for the lines from the first to the last, by the diagnostics of the document
abbrev pub fixes_of : DocumentValue → ℕ → ℕ → List NoteValue → List ActionValue
fixes_of d first last notes = flat_map (note_fixes d first last) notes ++ leak_fixes d.text first last (lines_of d.leaks)

-- The action mends what a diagnostic reports, and changes bytes of the text.
abbrev pub IsFix : List ℕ → ActionValue → Type 0
IsFix text action = IsIn text action.span × (action.is_fix ≡ true)

-- ---- a law

-- Fixes change bytes of the text.
abbrev pub FixesAreInTexts : Type 0
FixesAreInTexts = (d : DocumentValue) (first last : ℕ) (notes : List NoteValue) → All (IsFix d.text) (fixes_of d first last notes)
