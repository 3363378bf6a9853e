-- The results of requests, and the parameters of diagnostics, as values of JSON.
use Rattle.std.specs.Prelude.{ℕ, ℤ, Bool, true, false, if◌then◌else◌, List, [], ◌∷◌, codes, decimal, Option, Some, None}
use Rattle.std.specs.Str.{is_utf8}
use Rattle.std.specs.Fmt.{signed_decimal}
use Rattle.json.specs.Json.{Json, boolean, number, string, array, object, Items, no_items, item, Members, no_members, member}
use Rattle.json.specs.Print.{print}
use Rattle.json.specs.Tree.{json_tokens}
use Rattle.editor_messages.specs.declared.query.Position.{Position}
use Rattle.language_server.specs.Documents.{DocumentValue}
use Rattle.language_server.specs.Hints.{HintValue}
use Rattle.language_server.specs.Hovers.{HoverValue}
use Rattle.language_server.specs.NoteValues.{NoteValue}
use Rattle.language_server.specs.Positions.{position_of}
use Rattle.language_server.specs.Actions.{ActionValue}
use Rattle.language_server.specs.Proposals.{CompletionValue, ProposalValue}
use Rattle.language_server.specs.declared.proposals.ProposalKind.{ProposalKind}
use Rattle.language_server.specs.declared.proposals.ProposalKind.TheVariants as kind
use Rattle.language_server.specs.declared.span.Span.{Span}
use Rattle.language_server.specs.declared.notes.Severity.{Severity}
use Rattle.language_server.specs.declared.notes.Severity.TheVariants as severity
use Rattle.language_server.specs.Symbols.{SymbolValue}
use Rattle.mvsjob_lsp.specs.declared.session.Unanswered.{Unanswered}
use Rattle.mvsjob_lsp.specs.declared.session.Unanswered.TheVariants as why

-- ---- lists

-- the items that some values are, before others
abbrev pub items_before : {A : Type 0} → (A → Json) → List A → Items → Items
items_before f [] rest = rest
items_before f (x ∷ xs) rest = item (f x) (items_before f xs rest)

abbrev pub list_of : {A : Type 0} → (A → Json) → List A → Json
list_of f xs = array (items_before f xs no_items)

-- ---- places

abbrev pub position_value : Position → Json
position_value p = object (member (codes "line") (number (decimal p.line)) (member (codes "character") (number (decimal p.character)) no_members))

-- the position of a place of a text
abbrev pub place_value : List ℕ → ℕ → Json
place_value text at = position_value (position_of text at)

abbrev pub range_value : List ℕ → Span → Json
range_value text s = object (member (codes "start") (place_value text s.start) (member (codes "end") (place_value text s.end) no_members))

-- ---- hints

-- bytes as a text; those that are none are left out
abbrev pub shown : List ℕ → List ℕ
shown bytes = if is_utf8 bytes then bytes else []

abbrev pub hint_value : List ℕ → HintValue → Json
hint_value text h = object (member (codes "position") (place_value text h.place) (member (codes "label") (string (shown h.label)) (member (codes "paddingLeft") (boolean true) no_members)))

-- ---- diagnostics

abbrev pub severity_number : Severity → ℕ
severity_number severity.Error = 1
severity_number severity.Warning = 2
severity_number severity.Information = 3

abbrev pub note_value : List ℕ → NoteValue → Json
note_value text n =
    object (member (codes "range") (range_value text n.span) (member (codes "severity") (number (decimal (severity_number n.severity))) (member (codes "code") (string n.code)
    (member (codes "source") (string (codes "mvsjob")) (member (codes "message") (string n.message) no_members)))))

-- a diagnostic of the first byte
abbrev pub message_value : Severity → List ℕ → Json
message_value s text =
    object (member (codes "range") (range_value [] (record { start = 0; end = 0 })) (member (codes "severity") (number (decimal (severity_number s)))
    (member (codes "source") (string (codes "mvsjob")) (member (codes "message") (string text) no_members))))

-- a diagnostic, if the run is not shown whole
abbrev pub rest_not_shown : Bool → Items
rest_not_shown true = no_items
rest_not_shown false = item (message_value severity.Information (codes "the run prints more than 4,194,304 bytes: later answers are not shown")) no_items

abbrev pub notes_items : DocumentValue → List NoteValue → Items
notes_items d notes = items_before (note_value d.text) notes (rest_not_shown d.is_whole)

abbrev pub why_text : Unanswered → List ℕ
why_text why.TooLong = codes "the document has more than 1,048,576 bytes: it is not analysed"
why_text why.TooMany = codes "100 documents are open, or 8,388,608 bytes: this one is not analysed"
why_text why.Memory = codes "out of memory: the document is not analysed"

-- the diagnostics of a document that is not analysed
abbrev pub unanswered_items : Unanswered → Items
unanswered_items why = item (message_value severity.Warning (why_text why)) no_items

abbrev pub with_version : Option ℤ → Members → Members
with_version None rest = rest
with_version (Some n) rest = member (codes "version") (number (signed_decimal n)) rest

-- the parameters of the diagnostics of a document
abbrev pub diagnostics_value : List ℕ → Option ℤ → Items → Json
diagnostics_value uri version items = object (member (codes "uri") (string uri) (with_version version (member (codes "diagnostics") (array items) no_members)))

-- ---- the other answers

abbrev pub location_value : List ℕ → List ℕ → Span → Json
location_value text uri s = object (member (codes "uri") (string uri) (member (codes "range") (range_value text s) no_members))

abbrev pub markdown_value : List ℕ → Json
markdown_value text = object (member (codes "kind") (string (codes "markdown")) (member (codes "value") (string text) no_members))

abbrev pub hover_value : List ℕ → HoverValue → Json
hover_value text h = object (member (codes "contents") (markdown_value h.text) (member (codes "range") (range_value text h.span) no_members))

abbrev pub kind_number : ProposalKind → ℕ
kind_number kind.Operation = 3
kind_number kind.Form = 20
kind_number kind.Keyword = 5
kind_number kind.Value = 12
kind_number kind.Name = 6

-- what replaces the bytes of a span
abbrev pub edit_value : List ℕ → Span → List ℕ → Json
edit_value text s new = object (member (codes "range") (range_value text s) (member (codes "newText") (string new) no_members))

abbrev pub proposal_value : List ℕ → Span → ProposalValue → Json
proposal_value text s p =
    object (member (codes "label") (string p.text) (member (codes "kind") (number (decimal (kind_number p.kind))) (member (codes "detail") (string p.detail)
    (member (codes "textEdit") (edit_value text s p.text) no_members))))

-- each word that can replace the same bytes
abbrev pub completion_value : List ℕ → CompletionValue → Json
completion_value text c = list_of (proposal_value text c.span) c.proposals

abbrev pub action_kind : Bool → List ℕ
action_kind true = codes "quickfix"
action_kind false = codes "refactor.rewrite"

abbrev pub changes_value : List ℕ → List ℕ → ActionValue → Json
changes_value text uri a = object (member (codes "changes") (object (member uri (array (item (edit_value text a.span a.text) no_items)) no_members)) no_members)

abbrev pub action_value : List ℕ → List ℕ → ActionValue → Json
action_value text uri a =
    object (member (codes "title") (string a.title) (member (codes "kind") (string (action_kind a.is_fix)) (member (codes "edit") (changes_value text uri a) no_members)))

abbrev pub symbol_word : Bool → List ℕ
symbol_word true = codes "step"
symbol_word false = codes "task"

abbrev pub symbol_number : Bool → ℕ
symbol_number true = 2
symbol_number false = 12

-- a step with its tasks, or a task
abbrev pub symbol_value : List ℕ → SymbolValue → Items → Json
symbol_value text s children =
    object (member (codes "name") (string (shown s.name)) (member (codes "detail") (string (symbol_word s.is_step)) (member (codes "kind") (number (decimal (symbol_number s.is_step)))
    (member (codes "range") (range_value text s.whole) (member (codes "selectionRange") (range_value text s.span) (member (codes "children") (array children) no_members))))))

-- the tasks before the first step, before other items
abbrev pub tasks_before : List ℕ → List SymbolValue → Items → Items
tasks_before text [] rest = rest
tasks_before text (s ∷ symbols) rest = if s.is_step then rest else item (symbol_value text s no_items) (tasks_before text symbols rest)

-- the steps, each with the tasks up to the next one
abbrev pub steps_of : List ℕ → List SymbolValue → Items
steps_of text [] = no_items
steps_of text (s ∷ symbols) = if s.is_step then item (symbol_value text s (tasks_before text symbols no_items)) (steps_of text symbols) else steps_of text symbols

abbrev pub symbols_value : List ℕ → List SymbolValue → Json
symbols_value text symbols = array (tasks_before text symbols (steps_of text symbols))

-- ---- texts

-- the bytes of a value
abbrev pub value_text : Json → List ℕ
value_text j = print (json_tokens j)
