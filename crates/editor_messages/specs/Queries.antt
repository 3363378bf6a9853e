-- What a request or a notification asks, by its method and its parameters.
use Rattle.std.specs.Prelude.{ℕ, ◌&&◌, nat_le, Bool, true, false, if◌then◌else◌, List, length, codes, Option, Some, None, is_some, option_and_then}
use Rattle.mvs_model.specs.Reading.{is_number, number as number_of_digits}
use Rattle.json.specs.Json.{Json, null, boolean, number, string, array, object, Items, no_items, item}
use Rattle.json.specs.Find.{as_bool, as_number, get}
use Rattle.editor_messages.specs.Messages.{text_of}
use Rattle.editor_messages.specs.declared.method.Method.{Method}
use Rattle.editor_messages.specs.declared.method.Method.TheVariants as method
use Rattle.editor_messages.specs.declared.query.Position.{Position}
use Rattle.editor_messages.specs.declared.query.Query.{Query}
use Rattle.editor_messages.specs.declared.query.Query.TheVariants as query
use Rattle.editor_messages.specs.declared.query.Notice.{Notice}
use Rattle.editor_messages.specs.declared.query.Notice.TheVariants as notice

-- what a request asks
pub data QueryValue : Type 0 where
  initialize : QueryValue
  shutdown : QueryValue
  symbols : List ℕ → QueryValue
  hints : List ℕ → Position → Position → QueryValue
  actions : List ℕ → Position → Position → QueryValue
  hover : List ℕ → Position → QueryValue
  completion : List ℕ → Position → QueryValue
  definition : List ℕ → Position → QueryValue
  references : List ℕ → Position → Bool → QueryValue

-- what a notification says: a document is opened or has another text, with its version if it has one; or it is closed
pub data NoticeValue : Type 0 where
  text : List ℕ → List ℕ → NoticeValue
  closed : List ℕ → NoticeValue

-- ---- members

abbrev pub member : List ℕ → Option Json → Option Json
member name None = None
member name (Some j) = get name j

-- a number of at most ten digits
abbrev pub number_from : List ℕ → Option ℕ
number_from digits = if is_number digits && nat_le (length digits) 10 then Some (number_of_digits digits) else None

abbrev pub number_in : Option Json → Option ℕ
number_in None = None
number_in (Some j) = option_and_then number_from (as_number j)

-- a flag, which holds if it is missing
abbrev pub holds_or : Option Bool → Bool
holds_or None = true
holds_or (Some b) = b

abbrev pub flag_in : Option Json → Bool
flag_in None = true
flag_in (Some j) = holds_or (as_bool j)

abbrev pub position_at : Option ℕ → Option ℕ → Option Position
position_at None character = None
position_at (Some l) None = None
position_at (Some l) (Some c) = Some (record { line = l; character = c })

abbrev pub position_of : Option Json → Option Position
position_of j = position_at (number_in (member (codes "line") j)) (number_in (member (codes "character") j))

-- the name of the document that parameters are about
abbrev pub uri_of : Option Json → Option (List ℕ)
uri_of params = text_of (member (codes "uri") (member (codes "textDocument") params))

-- ---- requests

abbrev pub symbols_of : Option (List ℕ) → Option QueryValue
symbols_of None = None
symbols_of (Some uri) = Some (symbols uri)

abbrev pub at_place : (List ℕ → Position → QueryValue) → Option (List ℕ) → Option Position → Option QueryValue
at_place ask None p = None
at_place ask (Some uri) None = None
at_place ask (Some uri) (Some p) = Some (ask uri p)

abbrev pub over_range : (List ℕ → Position → Position → QueryValue) → Option (List ℕ) → Option Position → Option Position → Option QueryValue
over_range ask None p q = None
over_range ask (Some uri) None q = None
over_range ask (Some uri) (Some p) None = None
over_range ask (Some uri) (Some p) (Some q) = Some (ask uri p q)

abbrev pub of_place : (List ℕ → Position → QueryValue) → Option Json → Option QueryValue
of_place ask params = at_place ask (uri_of params) (position_of (member (codes "position") params))

abbrev pub of_range : (List ℕ → Position → Position → QueryValue) → Option Json → Option QueryValue
of_range ask params = over_range ask (uri_of params) (position_of (member (codes "start") (member (codes "range") params))) (position_of (member (codes "end") (member (codes "range") params)))

-- what a request asks; nothing, if its parameters are not those of the method
abbrev pub query_of : Method → Option Json → Option QueryValue
query_of method.Initialize params = Some initialize
query_of method.Shutdown params = Some shutdown
query_of method.DocumentSymbol params = symbols_of (uri_of params)
query_of method.InlayHint params = of_range hints params
query_of method.CodeAction params = of_range actions params
query_of method.Hover params = of_place hover params
query_of method.Completion params = of_place completion params
query_of method.Definition params = of_place definition params
query_of method.References params = of_place (λ uri p. references uri p (flag_in (member (codes "includeDeclaration") (member (codes "context") params)))) params
query_of m params = None

-- ---- notifications

abbrev pub last_item : Items → Option Json
last_item no_items = None
last_item (item j no_items) = Some j
last_item (item j (item k js)) = last_item (item k js)

abbrev pub last_of : Json → Option Json
last_of null = None
last_of (boolean b) = None
last_of (number s) = None
last_of (string s) = None
last_of (array js) = last_item js
last_of (object ms) = None

-- the text of a change that has no range
abbrev pub whole_text : Option Json → Option (List ℕ)
whole_text change = if is_some (member (codes "range") change) then None else text_of (member (codes "text") change)

abbrev pub changed_text : Option Json → Option (List ℕ)
changed_text params = whole_text (option_and_then last_of (member (codes "contentChanges") params))

abbrev pub with_text : Option (List ℕ) → Option (List ℕ) → Option NoticeValue
with_text None t = None
with_text (Some uri) None = None
with_text (Some uri) (Some t) = Some (text uri t)

abbrev pub is_closed : Option (List ℕ) → Option NoticeValue
is_closed None = None
is_closed (Some uri) = Some (closed uri)

-- what a notification says; nothing, if its parameters are not those of the method
abbrev pub notice_of : Method → Option Json → Option NoticeValue
notice_of method.DidOpen params = with_text (uri_of params) (text_of (member (codes "text") (member (codes "textDocument") params)))
notice_of method.DidChange params = with_text (uri_of params) (changed_text params)
notice_of method.DidClose params = is_closed (uri_of params)
notice_of m params = None

-- ---- the values of the code

abbrev pub query_value : Query → QueryValue
query_value query.Initialize = initialize
query_value query.Shutdown = shutdown
query_value (query.Symbols uri) = symbols uri.now
query_value (query.Hints uri p q) = hints uri.now p q
query_value (query.Actions uri p q) = actions uri.now p q
query_value (query.Hover uri p) = hover uri.now p
query_value (query.Completion uri p) = completion uri.now p
query_value (query.Definition uri p) = definition uri.now p
query_value (query.References uri p declares) = references uri.now p declares

abbrev pub notice_value : Notice → NoticeValue
notice_value (notice.Text uri version t) = text uri.now t.now
notice_value (notice.Closed uri) = closed uri.now
