-- The answer to a statement, and the events of a job, independent of their printing.
use Rattle.std.specs.Prelude.{ℕ, Bool, List}
use Rattle.mvs_model.specs.declared.name.Name.{Name}
use Rattle.mvs_model.specs.declared.code.Code.{Code}
use Rattle.mvs_model.specs.declared.line.Fault.{Fault}
use Rattle.mvs_model.specs.declared.report.SubpoolLine.{SubpoolLine}
use Rattle.mvs_model.specs.declared.report.MapRun.{MapRun}
use Rattle.mvs_model.specs.Card.{CardValue}

-- What a statement is answered.
pub data Answer : Type 0 where
  NotRun : Answer
  NoName : Answer
  At : ℕ → Answer
  Rc0 : Answer
  Granted : ℕ → Answer
  Rc4 : Answer
  Cell : Answer
  NoCell : Answer
  Attached : Answer
  Ended : Answer
  Done : Answer
  Data : List ℕ → Answer
  Abended : Code → List Name → Answer
  Subpools : List SubpoolLine → Answer
  Map : List MapRun → Answer
  Region : CardValue → Answer

-- An event of a job: the answer to a statement, with the number of its line and its task; the end of a step, and whether a task of
-- it abended; the fault of a line, which ends the job.
pub data Event : Type 0 where
  AnswerTo : ℕ → Name → Answer → Event
  StepEnded : Bool → Event
  Faulted : ℕ → Fault → Event
