-- The messages that a server sends, as bytes.
use Rattle.std.specs.Prelude.{ℕ, List, [], ◌∷◌, ◌++◌, length, codes, decimal}
use Rattle.json.specs.Json.{Json}
use Rattle.json.specs.Print.{print}
use Rattle.json.specs.Tree.{json_tokens}
use Rattle.editor_messages.specs.declared.protocol.ErrorCode.{ErrorCode}
use Rattle.editor_messages.specs.Protocol.{code_of, message_of}

-- the frame of a message
unfoldable pub framed : List ℕ → List ℕ
framed content = codes "Content-Length: " ++ decimal (length content) ++ codes "\r\n\r\n" ++ content

-- a response up to its identifier
unfoldable pub response_head : Json → List ℕ
response_head id = codes "{\"jsonrpc\":\"2.0\",\"id\":" ++ print (json_tokens id)

-- the response to a request with this identifier: its result
unfoldable pub result_text : Json → List ℕ → List ℕ
result_text id result = response_head id ++ codes ",\"result\":" ++ result ++ codes "}"

-- the response to it with an error
unfoldable pub error_text : Json → ErrorCode → List ℕ
error_text id e = response_head id ++ codes ",\"error\":{\"code\":-" ++ decimal (code_of e) ++ codes ",\"message\":\"" ++ message_of e ++ codes "\"}}"

-- the notification with diagnostics, which has no identifier
unfoldable pub notice_text : List ℕ → List ℕ
notice_text params = codes "{\"jsonrpc\":\"2.0\",\"method\":\"textDocument/publishDiagnostics\",\"params\":" ++ params ++ codes "}"
