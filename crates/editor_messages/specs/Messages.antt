-- Messages of JSON-RPC: what a JSON value means as a message.
use Rattle.std.specs.Prelude.{ℕ, ◌&&◌, ◌||◌, bytes_eq, Bool, true, false, if◌then◌else◌, List, codes, Option, Some, None, is_some, option_map, option_and_then, unwrap_or}
use Rattle.json.specs.Json.{Json, null, boolean, number, string, array, object}
use Rattle.json.specs.Find.{as_str, get}
use Rattle.json.specs.Value.{value_view}
use Rattle.editor_messages.specs.declared.message.Id.{Id}
use Rattle.editor_messages.specs.declared.message.Id.TheVariants as id
use Rattle.editor_messages.specs.declared.message.ClientMessage.{ClientMessage}
use Rattle.editor_messages.specs.declared.message.ClientMessage.TheVariants as message
use Rattle.editor_messages.specs.declared.method.Method.{Method}
use Rattle.editor_messages.specs.declared.method.Method.TheVariants as method

-- what a message means: a request with its identifier, its method and its parameters; a notification; an answer to a request; or none
-- of these, with the identifier that it has, or null
pub data Meaning : Type 0 where
  request : Json → List ℕ → Option Json → Meaning
  notification : List ℕ → Option Json → Meaning
  response : Meaning
  malformed : Json → Meaning

-- a number or a text is an identifier
abbrev pub id_of : Json → Option Json
id_of null = None
id_of (boolean b) = None
id_of (number s) = Some (number s)
id_of (string s) = Some (string s)
id_of (array js) = None
id_of (object ms) = None

abbrev pub known_id : Option Json → Json
known_id None = null
known_id (Some j) = unwrap_or (id_of j) null

abbrev pub text_of : Option Json → Option (List ℕ)
text_of None = None
text_of (Some j) = as_str j

-- parameters are an object or an array; null is taken as none
abbrev pub holds_params : Json → Bool
holds_params null = true
holds_params (boolean b) = false
holds_params (number s) = false
holds_params (string s) = false
holds_params (array js) = true
holds_params (object ms) = true

abbrev pub are_params : Option Json → Bool
are_params None = true
are_params (Some j) = holds_params j

-- whether a text is the version of JSON-RPC
abbrev pub is_version : Option (List ℕ) → Bool
is_version None = false
is_version (Some text) = bytes_eq text (codes "2.0")

-- a call that has an identifier, if that is one
abbrev pub identified : Option Json → List ℕ → Option Json → Meaning
identified None name params = malformed null
identified (Some i) name params = request i name params

-- a message of the right version with the right kind of parameters, by its identifier and its method
abbrev pub called : Option Json → Option (List ℕ) → Option Json → Meaning
called i None params = malformed (known_id i)
called None (Some name) params = notification name params
called (Some i) (Some name) params = identified (id_of i) name params

abbrev pub checked : Bool → Option Json → Option (List ℕ) → Option Json → Meaning
checked true i name params = called i name params
checked false i name params = malformed (known_id i)

abbrev pub or_response : Bool → Meaning → Meaning
or_response true m = response
or_response false m = m

abbrev pub is_response : Json → Bool
is_response j = if is_some (get (codes "method") j) then false else is_some (get (codes "result") j) || is_some (get (codes "error") j)

abbrev pub is_call : Json → Bool
is_call j = is_version (text_of (get (codes "jsonrpc") j)) && are_params (get (codes "params") j)

-- what a message means
abbrev pub meaning_of : Json → Meaning
meaning_of j = or_response (is_response j) (checked (is_call j) (get (codes "id") j) (text_of (get (codes "method") j)) (get (codes "params") j))

-- the method of a name
abbrev pub method_named : List ℕ → Method
method_named name =
    if bytes_eq name (codes "initialize") then method.Initialize
    else if bytes_eq name (codes "initialized") then method.Initialized
    else if bytes_eq name (codes "shutdown") then method.Shutdown
    else if bytes_eq name (codes "exit") then method.Exit
    else if bytes_eq name (codes "textDocument/didOpen") then method.DidOpen
    else if bytes_eq name (codes "textDocument/didChange") then method.DidChange
    else if bytes_eq name (codes "textDocument/didClose") then method.DidClose
    else if bytes_eq name (codes "textDocument/inlayHint") then method.InlayHint
    else if bytes_eq name (codes "textDocument/hover") then method.Hover
    else if bytes_eq name (codes "textDocument/completion") then method.Completion
    else if bytes_eq name (codes "textDocument/documentSymbol") then method.DocumentSymbol
    else if bytes_eq name (codes "textDocument/definition") then method.Definition
    else if bytes_eq name (codes "textDocument/references") then method.References
    else if bytes_eq name (codes "textDocument/codeAction") then method.CodeAction
    else method.Unknown

-- ---- the values of the code

abbrev pub json_of : Id → Json
json_of (id.Number s) = number s.now
json_of (id.Text s) = string s.now
json_of id.Null = null

abbrev pub meant : ClientMessage → Meaning
meant (message.Request i name params) = request (json_of i) name.now (option_map (λ v. value_view v.now) params)
meant (message.Notification name params) = notification name.now (option_map (λ v. value_view v.now) params)
meant message.Response = response
meant (message.Malformed i) = malformed (json_of i)
