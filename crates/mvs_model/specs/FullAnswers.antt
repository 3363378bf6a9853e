-- The answer of the definitions for an answer whose long data belongs to the job.
use Rattle.std.specs.Prelude.{List, [], Bool, true, false}
use Rattle.mvs_model.specs.declared.name.Name.{Name}
use Rattle.mvs_model.specs.declared.answer.Answer.{Answer as Short}
use Rattle.mvs_model.specs.declared.answer.Answer.TheVariants as short
use Rattle.mvs_model.specs.declared.request.Reply.{Reply}
use Rattle.mvs_model.specs.declared.request.Reply.TheVariants as reply
use Rattle.mvs_model.specs.State.{State}
use Rattle.mvs_model.specs.Answers.{Answer, NotRun, NoName, At, Rc0, Granted, Rc4, Cell, NoCell, Attached, Ended, Done, Data, Abended, Subpools, Map}
use Rattle.mvs_model.specs.Reports.{subpool_lines_of, page_map}
use Rattle.mvs_model.specs.Replies.{bytes_at}

-- the answer to a statement of a task, in the state after it; these tasks ended with the one that abended
abbrev pub full_answer : State → List Name → Name → Short → Answer
full_answer st fallen t short.NotRun = NotRun
full_answer st fallen t short.NoName = NoName
full_answer st fallen t (short.At a) = At a
full_answer st fallen t short.Rc0 = Rc0
full_answer st fallen t (short.Granted n) = Granted n
full_answer st fallen t short.Rc4 = Rc4
full_answer st fallen t short.Cell = Cell
full_answer st fallen t short.NoCell = NoCell
full_answer st fallen t short.Attached = Attached
full_answer st fallen t short.Ended = Ended
full_answer st fallen t short.Done = Done
full_answer st fallen t (short.Data p) = Data (bytes_at st p.addr p.len)
full_answer st fallen t (short.Abended code) = Abended code fallen
full_answer st fallen t short.Subpools = Subpools (subpool_lines_of st t)
full_answer st fallen t short.Map = Map (page_map st)

-- whether an answer has data that belongs to the job
abbrev pub has_long_data : Short → Bool
has_long_data (short.Data p) = true
has_long_data (short.Abended code) = true
has_long_data short.Subpools = true
has_long_data short.Map = true
has_long_data short.NotRun = false
has_long_data short.NoName = false
has_long_data (short.At addr) = false
has_long_data short.Rc0 = false
has_long_data (short.Granted n) = false
has_long_data short.Rc4 = false
has_long_data short.Cell = false
has_long_data short.NoCell = false
has_long_data short.Attached = false
has_long_data short.Ended = false
has_long_data short.Done = false

-- the tasks that ended with the one that abended
abbrev pub ended_with_in : Reply → List Name
ended_with_in (reply.Abended code fallen) = fallen
ended_with_in _ = []
