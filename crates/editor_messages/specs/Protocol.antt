-- What a server does with a message, by how far its session is.
use Rattle.std.specs.Prelude.{ℕ, Bool, true, false, not, if◌then◌else◌, List, codes, Result, Ok, Err}
use Rattle.editor_messages.specs.declared.method.Method.{Method}
use Rattle.editor_messages.specs.declared.method.Method.TheVariants as is
use Rattle.editor_messages.specs.declared.protocol.ErrorCode.{ErrorCode}
use Rattle.editor_messages.specs.declared.protocol.ErrorCode.TheVariants as error
use Rattle.editor_messages.specs.declared.protocol.MethodKind.{MethodKind}
use Rattle.editor_messages.specs.declared.protocol.MethodKind.TheVariants as method
use Rattle.editor_messages.specs.declared.protocol.NoticeStep.{NoticeStep}
use Rattle.editor_messages.specs.declared.protocol.NoticeStep.TheVariants as does
use Rattle.editor_messages.specs.declared.protocol.Phase.{Phase}
use Rattle.editor_messages.specs.declared.protocol.Phase.TheVariants as phase

-- the number of an error, without its sign
abbrev pub code_of : ErrorCode → ℕ
code_of error.ParseError = 32700
code_of error.InvalidRequest = 32600
code_of error.MethodNotFound = 32601
code_of error.InvalidParams = 32602
code_of error.InternalError = 32603
code_of error.ServerNotInitialized = 32002
code_of error.RequestCancelled = 32800

-- its message
abbrev pub message_of : ErrorCode → List ℕ
message_of error.ParseError = codes "the message is not JSON"
message_of error.InvalidRequest = codes "the message is not a valid request here"
message_of error.MethodNotFound = codes "no such method"
message_of error.InvalidParams = codes "the parameters are not those of the method"
message_of error.InternalError = codes "out of memory"
message_of error.ServerNotInitialized = codes "the server is not initialized"
message_of error.RequestCancelled = codes "the request was cancelled"

-- whether a method is a notification
abbrev pub is_notice : Method → Bool
is_notice is.Initialized = true
is_notice is.Exit = true
is_notice is.DidOpen = true
is_notice is.DidChange = true
is_notice is.DidClose = true
is_notice m = false

abbrev pub used : Bool → MethodKind
used true = method.Known
used false = method.Unknown

abbrev pub differ : Bool → Bool → Bool
differ true b = not b
differ false b = b

-- what a method is for the states of a server, in a request or in a notification
abbrev pub kind_of : Bool → Method → MethodKind
kind_of is_request is.Initialize = method.Initialize
kind_of is_request is.Shutdown = method.Shutdown
kind_of is_request is.Exit = method.Exit
kind_of is_request is.Unknown = method.Unknown
kind_of is_request m = used (differ (is_notice m) is_request)

-- the status with which a server ends: 0 after a shutdown
abbrev pub status_of : Phase → ℕ
status_of phase.ShutDown = 0
status_of phase.Running = 1
status_of phase.Waiting = 1

-- a request in a session: it is served, or has an error
abbrev pub when_running : MethodKind → Result (Unit {0}) ErrorCode
when_running method.Initialize = Err error.InvalidRequest
when_running method.Shutdown = Ok tt
when_running method.Known = Ok tt
when_running method.Exit = Err error.MethodNotFound
when_running method.Unknown = Err error.MethodNotFound

-- before a server is initialized
abbrev pub when_waiting : MethodKind → Result (Unit {0}) ErrorCode
when_waiting method.Initialize = Ok tt
when_waiting m = Err error.ServerNotInitialized

abbrev pub of_request : Phase → MethodKind → Result (Unit {0}) ErrorCode
of_request phase.Waiting m = when_waiting m
of_request phase.Running m = when_running m
of_request phase.ShutDown m = Err error.InvalidRequest

-- a notification other than `exit`
abbrev pub of_other : Phase → MethodKind → NoticeStep
of_other phase.Running method.Known = does.Serve
of_other p m = does.Drop

-- a notification: `exit` ends the server, and nothing else does
abbrev pub of_notification : Phase → MethodKind → NoticeStep
of_notification p method.Exit = does.Exit (status_of p)
of_notification p m = of_other p m

-- how far a session is after a request that was served
abbrev pub phase_after : Phase → MethodKind → Phase
phase_after p method.Initialize = phase.Running
phase_after p method.Shutdown = phase.ShutDown
phase_after p m = p
