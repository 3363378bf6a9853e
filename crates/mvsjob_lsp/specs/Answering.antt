-- What the server answers, and what it publishes: JSON of what a run of a document's text shows.
use Rattle.std.specs.Prelude.{◌≡◌, ◌⊎◌, ◌<◌, ◌≤◌, ◌+◌, ℕ, ℤ, Bool, List, [], ◌∷◌, ◌++◌, codes, length, Option, Some, None, Result, Ok, Err}
use Rattle.json.specs.Json.{Json, Items, no_items, null}
use Rattle.editor_messages.specs.Queries.{QueryValue, NoticeValue, initialize, shutdown, symbols, hints, actions, hover, completion, definition, references, text, closed}
use Rattle.editor_messages.specs.declared.query.Position.{Position}
use Rattle.language_server.specs.Answers.{AreActions, AreSymbols, AreUses, IsDefinition}
use Rattle.language_server.specs.Documents.{DocumentValue, IsAnalysed, IsTooLong}
use Rattle.language_server.specs.Hints.{hints_from}
use Rattle.language_server.specs.Hovers.{HoverValue, IsHover}
use Rattle.language_server.specs.NoteValues.{NoteValue}
use Rattle.language_server.specs.Notes.{AreNotes}
use Rattle.language_server.specs.Positions.{IsPlaceOf}
use Rattle.language_server.specs.Proposals.{completion_of}
use Rattle.language_server.specs.Spans.{line_at, line_end}
use Rattle.language_server.specs.Actions.{ActionValue}
use Rattle.language_server.specs.declared.document.DocumentError.{DocumentError}
use Rattle.language_server.specs.declared.document.DocumentError.TheVariants as error
use Rattle.language_server.specs.declared.span.Span.{Span}
use Rattle.language_server.specs.Symbols.{SymbolValue}
use Rattle.version.specs.declared.TheConstants.{VERSION}
use Rattle.mvsjob_lsp.specs.Sessions.{OpenValue, SessionValue, bytes_open, document_of, others_than}
use Rattle.mvsjob_lsp.specs.Values.{action_value, completion_value, diagnostics_value, hint_value, hover_value, list_of, location_value, notes_items, symbols_value, unanswered_items, value_text}
use Rattle.mvsjob_lsp.specs.declared.session.Unanswered.{Unanswered}
use Rattle.mvsjob_lsp.specs.declared.session.Unanswered.TheVariants as why

-- ---- requests

-- what the server can do
abbrev pub capabilities_head : List ℕ
capabilities_head = codes "{\"capabilities\":{\"positionEncoding\":\"utf-16\",\"textDocumentSync\":{\"openClose\":true,\"change\":1},\"hoverProvider\":true,\"definitionProvider\":true,\"referencesProvider\":true,\"documentSymbolProvider\":true,\"inlayHintProvider\":true,\"completionProvider\":{\"triggerCharacters\":[\" \",\",\",\"=\",\"(\"]},\"codeActionProvider\":{\"codeActionKinds\":[\"quickfix\",\"refactor.rewrite\"]}},\"serverInfo\":{\"name\":\"mvsjob-lsp\",\"version\":\""

unfoldable pub capabilities : List ℕ → List ℕ
capabilities version = capabilities_head ++ version ++ codes "\"}}"

-- The hints of the lines from a position to another: the answers of the run, each at the end of its line.
abbrev pub HasHints : Position → Position → DocumentValue → Json → Type 0
HasHints p q d j =
    (first : ℕ) × (last : ℕ) × IsPlaceOf d.text p first × IsPlaceOf d.text q last
    × (j ≡ list_of (hint_value d.text) (hints_from (line_end d.text) 0 (line_at d.text first) (line_at d.text last) d.outputs))

abbrev pub definition_value : List ℕ → List ℕ → Option Span → Json
definition_value bytes uri None = null
definition_value bytes uri (Some s) = list_of (location_value bytes uri) (s ∷ [])

-- Where the name at a position is set, or null.
abbrev pub HasDefinition : List ℕ → Position → DocumentValue → Json → Type 0
HasDefinition uri p d j = (at : ℕ) × (found : Option Span) × IsPlaceOf d.text p at × IsDefinition d.text at found × (j ≡ definition_value d.text uri found)

-- All places where it is used in its step.
abbrev pub HasReferences : List ℕ → Position → Bool → DocumentValue → Json → Type 0
HasReferences uri p declares d j = (at : ℕ) × (spans : List Span) × IsPlaceOf d.text p at × AreUses d.text at declares spans × (j ≡ list_of (location_value d.text uri) spans)

abbrev pub shown_value : List ℕ → Option HoverValue → Json
shown_value bytes None = null
shown_value bytes (Some h) = hover_value bytes h

abbrev pub HasHover : Position → DocumentValue → Json → Type 0
HasHover p d j = (at : ℕ) × (shown : Option HoverValue) × IsPlaceOf d.text p at × IsHover d at shown × (j ≡ shown_value d.text shown)

-- What may be written at a position.
abbrev pub HasProposals : Position → DocumentValue → Json → Type 0
HasProposals p d j = (at : ℕ) × IsPlaceOf d.text p at × (j ≡ completion_value d.text (completion_of d at))

abbrev pub HasSymbols : DocumentValue → Json → Type 0
HasSymbols d j = (found : List SymbolValue) × AreSymbols d found × (j ≡ symbols_value d.text found)

abbrev pub HasActions : List ℕ → Position → Position → DocumentValue → Json → Type 0
HasActions uri p q d j =
    (span : Span) × (found : List ActionValue) × IsPlaceOf d.text p span.start × IsPlaceOf d.text q span.end × AreActions d span found × (j ≡ list_of (action_value d.text uri) found)

-- The answer for a document, which is analysed: what a relation says; or null, if it is not open.
abbrev pub IsAbout : Option DocumentValue → (DocumentValue → Json → Type 0) → Json → Type 0
IsAbout None Has j = j ≡ null
IsAbout (Some d) Has j = IsAnalysed d.text d × Has d j

-- What is answered to a request about a document.
abbrev pub Answers : QueryValue → DocumentValue → Json → Type 0
Answers initialize d j = j ≡ null
Answers shutdown d j = j ≡ null
Answers (symbols uri) d j = HasSymbols d j
Answers (hints uri p q) d j = HasHints p q d j
Answers (actions uri p q) d j = HasActions uri p q d j
Answers (hover uri p) d j = HasHover p d j
Answers (completion uri p) d j = HasProposals p d j
Answers (definition uri p) d j = HasDefinition uri p d j
Answers (references uri p declares) d j = HasReferences uri p declares d j

-- The body has the JSON of the answer about the document of a name.
abbrev pub Writes : SessionValue → List ℕ → QueryValue → List ℕ → Type 0
Writes s uri query body = (j : Json) × IsAbout (document_of uri s.documents) (Answers query) j × (body ≡ value_text j)

-- The server may answer a request with these bytes.
abbrev pub MayAnswer : SessionValue → QueryValue → List ℕ → Type 0
MayAnswer s initialize body = body ≡ capabilities VERSION.now
MayAnswer s shutdown body = body ≡ value_text null
MayAnswer s (symbols uri) body = Writes s uri (symbols uri) body
MayAnswer s (hints uri p q) body = Writes s uri (hints uri p q) body
MayAnswer s (actions uri p q) body = Writes s uri (actions uri p q) body
MayAnswer s (hover uri p) body = Writes s uri (hover uri p) body
MayAnswer s (completion uri p) body = Writes s uri (completion uri p) body
MayAnswer s (definition uri p) body = Writes s uri (definition uri p) body
MayAnswer s (references uri p declares) body = Writes s uri (references uri p declares) body

-- ---- notifications

-- why there are no answers for a document that was not analysed
abbrev pub why_of : DocumentError → Unanswered
why_of error.TooLong = why.TooLong
why_of error.Memory = why.Memory

-- A text is not analysed for a reason: it is too long, or too many documents or bytes are open, or memory is exhausted for one that is
-- not too long and for which there is room.
abbrev pub IsReason : List OpenValue → List ℕ → Unanswered → Type 0
IsReason others new why.TooLong = IsTooLong new
IsReason others new why.TooMany = (100 ≤ length others) ⊎ (8388608 < length new + bytes_open others)
IsReason others new why.Memory = (length new ≤ 1048576) × (length others < 100) × (length new + bytes_open others ≤ 8388608)

-- The text of a document is another one, which is analysed; or it is not, for a reason, and then the document is not open.
abbrev pub HasSet : SessionValue → List ℕ → List ℕ → SessionValue → Result (Unit {0}) Unanswered → Type 0
HasSet s uri new now (Ok u) = (d : DocumentValue) × IsAnalysed new d × (now.documents ≡ others_than uri s.documents ++ record { uri = uri; document = d } ∷ [])
HasSet s uri new now (Err why) = IsReason (others_than uri s.documents) new why × (now.documents ≡ others_than uri s.documents)

-- the items of the diagnostics of a document: those of the run of its text
abbrev pub AreItems : Result (Unit {0}) Unanswered → Option DocumentValue → Items → Type 0
AreItems (Err why) found items = items ≡ unanswered_items why
AreItems (Ok u) None items = items ≡ no_items
AreItems (Ok u) (Some d) items = (notes : List NoteValue) × AreNotes d notes × (items ≡ notes_items d notes)

-- The parameters are those of the diagnostics of a document.
abbrev pub Publishes : SessionValue → List ℕ → Result (Unit {0}) Unanswered → List ℕ → Type 0
Publishes now uri analysed params =
    (version : Option ℤ) × (items : Items) × AreItems analysed (document_of uri now.documents) items × (params ≡ value_text (diagnostics_value uri version items))

-- After a notification the session may be this, and these parameters may be published.
abbrev pub MayNotice : SessionValue → NoticeValue → SessionValue → List ℕ → Type 0
MayNotice s (text uri new) now params = (analysed : Result (Unit {0}) Unanswered) × HasSet s uri new now analysed × Publishes now uri analysed params
MayNotice s (closed uri) now params = (now.documents ≡ others_than uri s.documents) × Publishes now uri (Ok tt) params
