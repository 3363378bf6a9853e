-- What a server sends for the bytes that arrive, and how it ends.
use Rattle.std.specs.Prelude.{◌≡◌, ◌⊎◌, ℕ, suc, ◌^◌, ◌-◌, List, [], ◌++◌, drop, slice_range, codes, Option, Some, None, Result, Ok, Err, MatchResult, false, true}
use Rattle.std.specs.Io.KnownBytes.{Appends, Consumes, IsAtEnd, Keeps}
use Rattle.std.specs.Str.{IsUtf8}
use Rattle.json.specs.Json.{Json, null, document}
use Rattle.json.specs.Find.{get}
use Rattle.line_text.specs.Writing.{AppendsFront}
use Rattle.mvs_model.specs.Watched.{WatchedValue}
use Rattle.editor_messages.specs.declared.frames.Frame.{Frame}
use Rattle.editor_messages.specs.declared.frames.Frame.TheVariants as frame
use Rattle.editor_messages.specs.declared.method.Method.{Method}
use Rattle.editor_messages.specs.declared.protocol.ErrorCode.{ErrorCode}
use Rattle.editor_messages.specs.declared.protocol.ErrorCode.TheVariants as error
use Rattle.editor_messages.specs.declared.protocol.MethodKind.{MethodKind}
use Rattle.editor_messages.specs.declared.protocol.MethodKind.TheVariants as kind
use Rattle.editor_messages.specs.declared.protocol.NoticeStep.{NoticeStep}
use Rattle.editor_messages.specs.declared.protocol.NoticeStep.TheVariants as does
use Rattle.editor_messages.specs.declared.protocol.Phase.{Phase}
use Rattle.editor_messages.specs.declared.protocol.Phase.TheVariants as phase
use Rattle.editor_messages.specs.declared.server.Turn.{Turn}
use Rattle.editor_messages.specs.declared.server.Turn.TheVariants as turn
use Rattle.editor_messages.specs.declared.session.Ending.{Ending}
use Rattle.editor_messages.specs.declared.session.Ending.TheVariants as ending
use Rattle.editor_messages.specs.Frames.{frame_of}
use Rattle.editor_messages.specs.Inputs.{InputValue, after_frame, with_more}
use Rattle.editor_messages.specs.Messages.{Meaning, request, notification, response, malformed, meaning_of, method_named}
use Rattle.editor_messages.specs.Protocol.{kind_of, of_notification, of_request, phase_after, status_of}
use Rattle.editor_messages.specs.Queries.{QueryValue, NoticeValue, notice_of, query_of}
use Rattle.editor_messages.specs.Sent.{error_text, framed, notice_text, result_text}

-- a server: how far its session is, and what gives its answers
pub record Moment (A : Type 0) : Type 0 where
  pub phase : Phase
  pub answers : A

-- A message cancels the request with an identifier.
abbrev pub Cancels : Json → List ℕ → Type 0
Cancels id content = (j : Json) × (params : Json) × (document content ≡ Some j) × (meaning_of j ≡ notification (codes "$/cancelRequest") (Some params)) × (get (codes "id") params ≡ Some id)

-- One of the messages with which some bytes begin does that.
pub data HasCancellation (id : Json) : List ℕ → Type 0 where
  first : {rest : List ℕ} (start end : ℕ) → frame_of rest ≡ frame.Content start end → Cancels id (slice_range rest start end) → HasCancellation id rest
  later : {rest : List ℕ} (start end : ℕ) → frame_of rest ≡ frame.Content start end → HasCancellation id (drop end rest) → HasCancellation id rest

-- ---- more bytes

-- No more bytes arrive, and the server ends so.
abbrev pub EndsRead : {R : Type 0} → (R → Option (List ℕ)) → WatchedValue R → WatchedValue R → ℕ → Ending → Type 0
EndsRead left reader reader_then n (ending.End status) = Consumes (left reader.inner) (left reader_then.inner) [] × IsAtEnd (left reader_then.inner) × (status ≡ n)
EndsRead left reader reader_then n ending.Read = Keeps (left reader.inner) (left reader_then.inner) × (reader_then.failed ≡ true)
EndsRead left reader reader_then n ending.Memory = (more : List ℕ) × Consumes (left reader.inner) (left reader_then.inner) more
EndsRead left reader reader_then n (ending.Exit status) = ⊥
EndsRead left reader reader_then n ending.Write = ⊥
EndsRead left reader reader_then n ending.Steps = ⊥

-- More bytes have arrived; or the server ends so: the input is at its end, a read failed, or memory is exhausted.
abbrev pub HasRead : {R : Type 0} → (R → Option (List ℕ)) → WatchedValue R → WatchedValue R → InputValue → InputValue → ℕ → Result (Unit {0}) Ending → Type 0
HasRead left reader reader_then i j n (Ok u) = (more : List ℕ) × Consumes (left reader.inner) (left reader_then.inner) more × (j ≡ with_more i more)
HasRead left reader reader_then i j n (Err e) = EndsRead left reader reader_then n e

-- ---- what is written

-- All of this is written, and the frame is left out; or a write failed, and the beginning of it is written.
abbrev pub HasSent : {W : Type 0} → (W → Option (List ℕ)) → WatchedValue W → WatchedValue W → InputValue → InputValue → Frame → List ℕ → Result (Unit {0}) Ending → Type 0
HasSent contents writer writer_then i j f sent (Ok u) = Appends (contents writer.inner) (contents writer_then.inner) sent × (j ≡ after_frame i f)
HasSent contents writer writer_then i j f sent (Err e) =
    (e ≡ ending.Write) × (writer_then.failed ≡ true) × AppendsFront (contents writer.inner) (contents writer_then.inner) sent

-- ---- one message

-- what a turn sends, and the status with which it ends the server
abbrev pub sent_of : Turn → List ℕ
sent_of (turn.Sent bytes) = bytes.items
sent_of (turn.Exit status) = []

abbrev pub exit_of : Turn → Option ℕ
exit_of (turn.Sent bytes) = None
exit_of (turn.Exit status) = Some status

-- An error is sent, and nothing changes.
abbrev pub IsRefused : {A : Type 0} → Json → ErrorCode → Moment A → List ℕ → Option ℕ → Moment A → Type 0
IsRefused id e s sent exit t = (sent ≡ framed (error_text id e)) × (exit ≡ None) × (t ≡ s)

-- Nothing is sent, and nothing changes.
abbrev pub IsPassed : {A : Type 0} → Moment A → List ℕ → Option ℕ → Moment A → Type 0
IsPassed s sent exit t = (sent ≡ []) × (exit ≡ None) × (t ≡ s)

module _ {A : Type 0} (may_answer : A → QueryValue → List ℕ → Type 0) (may_lack : A → QueryValue → Type 0) (may_notice : A → NoticeValue → A → List ℕ → Type 0) where
  -- A request that asks this: a response with its identifier has an answer that may be given; or the answer needs memory that it may lack.
  abbrev pub IsAnswerTurn : Json → Method → QueryValue → Moment A → List ℕ → Option ℕ → Moment A → Type 0
  IsAnswerTurn id m query s sent exit t =
      ((body : List ℕ) × may_answer s.answers query body × (sent ≡ framed (result_text id body)) × (exit ≡ None)
      × (t ≡ record { phase = phase_after s.phase (kind_of true m); answers = s.answers }))
      ⊎ (may_lack s.answers query × IsRefused id error.InternalError s sent exit t)

  -- Its parameters are not those of the method, or it is answered.
  abbrev pub IsServedTurn : Option QueryValue → Json → Method → Moment A → List ℕ → Option ℕ → Moment A → Type 0
  IsServedTurn None id m s sent exit t = IsRefused id error.InvalidParams s sent exit t
  IsServedTurn (Some query) id m s sent exit t = IsAnswerTurn id m query s sent exit t

  -- It is refused or served, or a later message that has arrived cancels it.
  abbrev pub IsRequestTurn : Result (Unit {0}) ErrorCode → Json → Method → Option Json → List ℕ → Moment A → List ℕ → Option ℕ → Moment A → Type 0
  IsRequestTurn (Err e) id m params rest s sent exit t = IsRefused id e s sent exit t
  IsRequestTurn (Ok u) id m params rest s sent exit t =
      IsServedTurn (query_of m params) id m s sent exit t ⊎ ((kind_of true m ≡ kind.Known) × HasCancellation id rest × IsRefused id error.RequestCancelled s sent exit t)

  -- A notification of a document has no response. The diagnostics of the document are sent.
  abbrev pub IsPublished : NoticeValue → Moment A → List ℕ → Option ℕ → Moment A → Type 0
  IsPublished notice s sent exit t =
      (now : A) × (params : List ℕ) × may_notice s.answers notice now params × (sent ≡ framed (notice_text params)) × (exit ≡ None)
      × (t ≡ record { phase = s.phase; answers = now })

  -- If its parameters are not those of the method, nothing is done.
  abbrev pub IsNoticeOf : Option NoticeValue → Moment A → List ℕ → Option ℕ → Moment A → Type 0
  IsNoticeOf None s sent exit t = IsPassed s sent exit t
  IsNoticeOf (Some notice) s sent exit t = IsPublished notice s sent exit t

  abbrev pub IsNoticeTurn : NoticeStep → Method → Option Json → Moment A → List ℕ → Option ℕ → Moment A → Type 0
  IsNoticeTurn does.Serve m params s sent exit t = IsNoticeOf (notice_of m params) s sent exit t
  IsNoticeTurn does.Drop m params s sent exit t = IsPassed s sent exit t
  IsNoticeTurn (does.Exit n) m params s sent exit t = (sent ≡ []) × (exit ≡ Some n) × (t ≡ s)

  abbrev pub IsTurnOf : Meaning → List ℕ → Moment A → List ℕ → Option ℕ → Moment A → Type 0
  IsTurnOf (malformed id) rest s sent exit t = IsRefused id error.InvalidRequest s sent exit t
  IsTurnOf response rest s sent exit t = IsPassed s sent exit t
  IsTurnOf (request id name params) rest s sent exit t =
      IsRequestTurn (of_request s.phase (kind_of true (method_named name))) id (method_named name) params rest s sent exit t
  IsTurnOf (notification name params) rest s sent exit t =
      IsNoticeTurn (of_notification s.phase (kind_of false (method_named name))) (method_named name) params s sent exit t

  -- The content of a message: it is JSON, or an error is sent.
  abbrev pub IsTurn : List ℕ → List ℕ → Moment A → List ℕ → Option ℕ → Moment A → Type 0
  IsTurn content rest s sent exit t =
      ((j : Json) × IsUtf8 content × (document content ≡ Some j) × IsTurnOf (meaning_of j) rest s sent exit t)
      ⊎ ((IsUtf8 content → document content ≡ None) × IsRefused null error.ParseError s sent exit t)

  -- The frame with which bytes begin.
  abbrev pub IsFrameTurn : Frame → List ℕ → Moment A → List ℕ → Option ℕ → Moment A → Type 0
  IsFrameTurn frame.Incomplete rest s sent exit t = IsPassed s sent exit t
  IsFrameTurn (frame.Content start end) rest s sent exit t = IsTurn (slice_range rest start end) (drop end rest) s sent exit t
  IsFrameTurn (frame.NoLength n) rest s sent exit t = IsRefused null error.ParseError s sent exit t
  IsFrameTurn (frame.TooLong header n) rest s sent exit t = IsRefused null error.InvalidRequest s sent exit t

  -- The server ends so at the turn of the frame with which the input begins: at `exit`, or since a write failed or memory is exhausted.
  abbrev pub EndsTurn : {W : Type 0} → (W → Option (List ℕ)) → WatchedValue W → WatchedValue W → InputValue → Moment A → Ending → Type 0
  EndsTurn contents writer writer_then i s (ending.Exit status) =
      ((t : Moment A) × IsFrameTurn (frame_of i.rest) i.rest s [] (Some status) t) × Appends (contents writer.inner) (contents writer_then.inner) []
  EndsTurn contents writer writer_then i s ending.Write =
      (writer_then.failed ≡ true)
      × ((t : Moment A) × (new : List ℕ) × IsFrameTurn (frame_of i.rest) i.rest s new None t × AppendsFront (contents writer.inner) (contents writer_then.inner) new)
  EndsTurn contents writer writer_then i s ending.Memory = Appends (contents writer.inner) (contents writer_then.inner) []
  EndsTurn contents writer writer_then i s (ending.End status) = ⊥
  EndsTurn contents writer writer_then i s ending.Read = ⊥
  EndsTurn contents writer writer_then i s ending.Steps = ⊥

  -- What was sent for the frame with which the input begins was written, and the frame is left out; or the server ends so.
  abbrev pub HasTaken : {W : Type 0} → (W → Option (List ℕ)) → WatchedValue W → WatchedValue W → InputValue → InputValue → Moment A → Moment A → Result (Unit {0}) Ending → Type 0
  HasTaken contents writer writer_then i j s t (Ok u) =
      (sent : List ℕ) × IsFrameTurn (frame_of i.rest) i.rest s sent None t × Appends (contents writer.inner) (contents writer_then.inner) sent × (j ≡ after_frame i (frame_of i.rest))
  HasTaken contents writer writer_then i j s t (Err e) = EndsTurn contents writer writer_then i s e

  -- ---- a session

  -- A server has begun so, these bytes have arrived, this is what was not read of them, and this was sent. Each step is an arrival of
  -- bytes, or the turn of the frame with which they begin.
  pub data Runs (begun : A) : ℕ → List ℕ → InputValue → Moment A → List ℕ → Type 0 where
    begins : Runs begun 0 [] (record { rest = []; skipped = 0 }) (record { phase = phase.Waiting; answers = begun }) []
    arrives : {n : ℕ} {arrived : List ℕ} {i : InputValue} {s : Moment A} {sent : List ℕ} → Runs begun n arrived i s sent → (more : List ℕ)
        → Runs begun (suc n) (arrived ++ more) (with_more i more) s sent
    serves : {n : ℕ} {arrived : List ℕ} {i : InputValue} {s : Moment A} {sent : List ℕ} → Runs begun n arrived i s sent → (t : Moment A) (new : List ℕ)
        → IsFrameTurn (frame_of i.rest) i.rest s new None t → Runs begun (suc n) arrived (after_frame i (frame_of i.rest)) t (sent ++ new)

  -- ---- its end

  module _ {R W : Type 0} (left : R → Option (List ℕ)) (contents : W → Option (List ℕ)) (reader : WatchedValue R) (writer : WatchedValue W) (reader_then : WatchedValue R) (writer_then : WatchedValue W) where
    -- What was sent was written.
    abbrev pub HasWritten : List ℕ → Type 0
    HasWritten sent = Appends (contents writer.inner) (contents writer_then.inner) sent

    -- The server ends so after this: at `exit`, at the end of the input, or since something failed.
    abbrev pub EndsSo : Ending → ℕ → List ℕ → InputValue → Moment A → List ℕ → Type 0
    EndsSo (ending.Exit status) n arrived i s sent =
        Consumes (left reader.inner) (left reader_then.inner) arrived × HasWritten sent × ((t : Moment A) × IsFrameTurn (frame_of i.rest) i.rest s [] (Some status) t)
    EndsSo (ending.End status) n arrived i s sent =
        Consumes (left reader.inner) (left reader_then.inner) arrived × HasWritten sent × IsAtEnd (left reader_then.inner) × (frame_of i.rest ≡ frame.Incomplete) × (status ≡ status_of s.phase)
    EndsSo ending.Read n arrived i s sent =
        Consumes (left reader.inner) (left reader_then.inner) arrived × HasWritten sent × (reader_then.failed ≡ true)
    EndsSo ending.Write n arrived i s sent =
        Consumes (left reader.inner) (left reader_then.inner) arrived × (writer_then.failed ≡ true)
        × ((t : Moment A) × (new : List ℕ) × IsFrameTurn (frame_of i.rest) i.rest s new None t × AppendsFront (contents writer.inner) (contents writer_then.inner) (sent ++ new))
    EndsSo ending.Memory n arrived i s sent =
        ((more : List ℕ) × Consumes (left reader.inner) (left reader_then.inner) (arrived ++ more)) × HasWritten sent
    EndsSo ending.Steps n arrived i s sent =
        Consumes (left reader.inner) (left reader_then.inner) arrived × HasWritten sent × (n ≡ 2 ^ 64 - 1)

    -- The server has run so far, and this is what was not read, and how far it is.
    pub record IsRunning (begun : A) (steps : ℕ) (input : InputValue) (now : Moment A) : Type 0 where
      pub arrived : List ℕ
      pub sent : List ℕ
      pub runs : Runs begun steps arrived input now sent
      pub has_read : Consumes (left reader.inner) (left reader_then.inner) arrived
      pub has_written : HasWritten sent

    -- The server has run, and has ended so.
    pub record HasRun (begun : A) (e : Ending) : Type 0 where
      pub steps : ℕ
      pub arrived : List ℕ
      pub input : InputValue
      pub now : Moment A
      pub sent : List ℕ
      pub runs : Runs begun steps arrived input now sent
      pub ends : EndsSo e steps arrived input now sent

  -- The effect of one step on a server, which is in the second state then: it has run one step further, or it has run and has ended so.
  abbrev pub RunsOn : {R W : Type 0} → (R → Option (List ℕ)) → (W → Option (List ℕ)) → WatchedValue R → WatchedValue R → WatchedValue W → WatchedValue W → InputValue → InputValue → Moment A → Moment A → Result (Unit {0}) Ending → Type 0
  RunsOn {R = R} {W = W} left contents reader reader_then writer writer_then i j s t result =
      (begun : A) (steps : ℕ) (first : WatchedValue R) (first_writer : WatchedValue W) → IsRunning left contents first first_writer reader writer begun steps i s → MatchResult result
      (λ _. IsRunning left contents first first_writer reader_then writer_then begun (suc steps) j t) (λ e. HasRun left contents first first_writer reader_then writer_then begun e)
