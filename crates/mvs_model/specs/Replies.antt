-- The answer for a reply.
use Rattle.std.specs.Prelude.{ℕ, zero, suc, ◌+◌, Bool, true, false, List, [], ◌∷◌, Option, Some, None}
use Rattle.std.specs.Option.{unwrap_or}
use Rattle.std.specs.FinMap.{get}
use Rattle.mvs_model.specs.declared.line.SourceRequest.{SourceRequest}
use Rattle.mvs_model.specs.declared.line.SourceRequest.TheVariants as written
use Rattle.mvs_model.specs.declared.request.Request.{Request}
use Rattle.mvs_model.specs.declared.request.Request.TheVariants as request
use Rattle.mvs_model.specs.declared.request.Reply.{Reply}
use Rattle.mvs_model.specs.declared.request.Reply.TheVariants as reply
use Rattle.mvs_model.specs.Place.{PlaceValue}
use Rattle.mvs_model.specs.State.{State}
use Rattle.mvs_model.specs.Answers.{Answer, NotRun, NoName, At, Rc0, Granted, Rc4, Cell, NoCell, Attached, Ended, Done, Data, Abended}

-- whether the reply is an abend
abbrev pub is_abend : Reply → Bool
is_abend (reply.Abended code fallen) = true
is_abend _ = false

-- for a grant: a variable request also has its length
abbrev pub grant_answer : SourceRequest → PlaceValue → Answer
grant_answer (written.Obtain form number ask true area) p = Granted p.len
grant_answer (written.Obtain form number ask false area) p = Rc0
grant_answer (written.ObtainList form number lengths start areas) p = Rc0
grant_answer (written.Release form number location len) p = Rc0
grant_answer (written.ReleaseArea form number area) p = Rc0
grant_answer (written.ReleaseList form number locations lengths) p = Rc0
grant_answer (written.ReleaseWhole form number) p = Rc0
grant_answer (written.Build pool number size primary secondary loc) p = Rc0
grant_answer (written.Get pool conditional cell) p = Rc0
grant_answer (written.Free pool cell) p = Rc0
grant_answer (written.Delete pool) p = Rc0
grant_answer (written.Attach name gifts residence) p = Rc0
grant_answer written.Return p = Rc0
grant_answer (written.Abend code) p = Rc0
grant_answer (written.Show location len) p = Rc0
grant_answer (written.Put location bytes) p = Rc0
grant_answer (written.Move to from len) p = Rc0

-- the bytes of a place, 00 for one that may not be read (SHOW is then not done)
unfoldable pub bytes_at : State → ℕ → ℕ → List ℕ
bytes_at st a zero = []
bytes_at st a (suc n) = unwrap_or (get st.bytes a) 0 ∷ bytes_at st (a + 1) n

-- for a request that read or wrote bytes: SHOW has the bytes that it read
abbrev pub done_answer : State → Request → Answer
done_answer st (request.Show a n) = Data (bytes_at st a n)
done_answer st _ = Done

-- The answer for the reply to a request, as written and with its names looked up.
abbrev pub answer_of : State → SourceRequest → Request → Reply → Answer
answer_of st a r reply.NotRun = NotRun
answer_of st a r reply.Rc0 = Rc0
answer_of st a r reply.Rc4 = Rc4
answer_of st a r (reply.Obtained p) = grant_answer a p
answer_of st a r (reply.Listed ps) = Rc0
answer_of st a r (reply.Cell p) = Cell
answer_of st a r reply.NoCell = NoCell
answer_of st a r reply.Attached = Attached
answer_of st a r reply.Ended = Ended
answer_of st a r reply.Done = done_answer st r
answer_of st a r (reply.Abended code fallen) = Abended code fallen

-- the answer to WHERE
abbrev pub where_answer : Option PlaceValue → Answer
where_answer None = NoName
where_answer (Some p) = At p.addr
