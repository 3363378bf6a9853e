-- What a session records of its last request, and the effects of that.
use Rattle.std.specs.Prelude.{◌≡◌, ◌⊎◌, ℕ, Bool, true, false, List, [], Option, Some, None, Result, Ok, Err, MatchOption, flat_map, if◌then◌else◌, codes}
use Rattle.std.specs.Coded.{Coded}
use Rattle.mvs_model.specs.declared.answer.Answer.{Answer}
use Rattle.mvs_model.specs.declared.answer.Answer.TheVariants as answer
use Rattle.mvs_model.specs.declared.line.Fault.{Fault}
use Rattle.mvs_model.specs.declared.line.Line.{Line}
use Rattle.mvs_model.specs.declared.line.Line.TheVariants as line
use Rattle.mvs_model.specs.declared.line.Statement.TheVariants as says
use Rattle.mvs_model.specs.declared.name.Name.{Name}
use Rattle.mvs_model.specs.declared.request.Reply.{Reply}
use Rattle.mvs_model.specs.Job.{JobValue}
use Rattle.mvs_model.specs.Name.{padded}
use Rattle.mvs_model.specs.Reading.{LineOf, FaultOf}
use Rattle.mvs_job.specs.declared.walk.LineEvent.{LineEvent}
use Rattle.mvs_job.specs.declared.walk.LineEvent.TheVariants as line_event
use Rattle.mvs_job.specs.declared.walk.OutOfMemoryAt.{OutOfMemoryAt}
use Rattle.request_forms.specs.declared.facts.OwnedSubpool.{OwnedSubpool}
use Rattle.request_forms.specs.Facts.{owned_subpools}
use Rattle.mvs_c.specs.declared.asked.Asked.{Asked}
use Rattle.mvs_c.specs.declared.asked.Asked.TheVariants.{Other}
use Rattle.mvs_c.specs.declared.effect.EffectFields.{EffectFields}
use Rattle.mvs_c.specs.declared.recorder.Recorder.{Recorder}
use Rattle.mvs_c.specs.contracts.recorder.Recorder.{the_row}
use Rattle.mvs_c.specs.Effects.{asked_in, baseline_of, ended_in, fate_effects, grant_effects, is_granted, no_baseline}

-- a code, for a model's value
abbrev pub recorder_code : Coded Recorder
recorder_code = the_row.coded

-- ---- recording

-- nothing is recorded, and nothing is to be
abbrev pub no_recorder : Recorder
no_recorder = record { is_made = false; task = padded (codes "NONE"); asked = Other; baseline = no_baseline; owned = None }

-- each request is to be recorded from now on; if it is already, nothing changes
abbrev pub switched_to : Option (List OwnedSubpool) → Recorder → Recorder
switched_to None r = record r { owned = Some [] }
switched_to (Some subpools) r = r

abbrev pub switched_on : Recorder → Recorder
switched_on r = switched_to r.owned r

-- the last event is no request
abbrev pub forgotten : Recorder → Recorder
forgotten r = record r { is_made = false }

-- what is recorded of a task's request before it is executed: what is looked up in the job, if it is to be recorded
abbrev pub recorded_in : Option (List OwnedSubpool) → Recorder → JobValue → Name → Asked → Recorder
recorded_in None r job t asked = forgotten r
recorded_in (Some subpools) r job t asked = record { is_made = true; task = t; asked = asked; baseline = baseline_of job t asked; owned = Some (owned_subpools job.state t) }

abbrev pub recorded : Recorder → JobValue → Name → Asked → Recorder
recorded r job t asked = recorded_in r.owned r job t asked

-- and of a line
abbrev pub recorded_line : Recorder → JobValue → Line → Recorder
recorded_line r job (line.Statement t (says.Request a)) = recorded r job t (asked_in a)
recorded_line r job (line.Statement t (says.Region below above fill residence)) = forgotten r
recorded_line r job (line.Statement t (says.Where name)) = forgotten r
recorded_line r job (line.Statement t says.ReportSubpools) = forgotten r
recorded_line r job (line.Statement t says.ReportMap) = forgotten r
recorded_line r job line.Nothing = forgotten r

-- What is recorded of a line of this text before it is executed: nothing of a line with a fault, and of one before the first step.
abbrev pub LooksIn : Recorder → Option JobValue → List ℕ → Recorder → Type 0
LooksIn old None bytes new = new ≡ forgotten old
LooksIn old (Some job) bytes new = ((l : Line) × LineOf false bytes l × (new ≡ recorded_line old job l)) ⊎ ((fault : Fault) × FaultOf false bytes fault × (new ≡ forgotten old))

abbrev pub Looks : Recorder → Option JobValue → List ℕ → Recorder → Type 0
Looks old step bytes new = MatchOption old.owned (new ≡ forgotten old) (λ _. LooksIn old step bytes new)

-- whether an answer is that to a request of a statement
abbrev pub makes_request : Answer → Bool
makes_request answer.Rc0 = true
makes_request (answer.Granted n) = true
makes_request answer.Rc4 = true
makes_request answer.Cell = true
makes_request answer.NoCell = true
makes_request answer.Attached = true
makes_request answer.Ended = true
makes_request answer.Done = true
makes_request (answer.Data p) = true
makes_request (answer.Abended code) = true
makes_request answer.NotRun = false
makes_request answer.NoName = false
makes_request (answer.At addr) = false
makes_request answer.Subpools = false
makes_request answer.Map = false

-- what stays recorded of a line after it was executed
abbrev pub settled : Result LineEvent OutOfMemoryAt → Recorder → Recorder
settled (Ok (line_event.Answered t a)) r = if makes_request a then r else forgotten r
settled (Ok line_event.Nothing) r = forgotten r
settled (Ok (line_event.StepBegan end card)) r = forgotten r
settled (Ok (line_event.Faulted fault)) r = forgotten r
settled (Err stopped) r = forgotten r

-- What is recorded of a line.
abbrev pub RecordsLine : Recorder → Option JobValue → List ℕ → Result LineEvent OutOfMemoryAt → Recorder → Type 0
RecordsLine old step bytes event new = (looked : Recorder) × Looks old step bytes looked × (new ≡ settled event looked)

-- What is recorded of a request by values; a job without a step makes none.
abbrev pub recorded_values : Recorder → Option JobValue → Name → Asked → Recorder
recorded_values r None t asked = r
recorded_values r (Some job) t asked = recorded r job t asked

-- ---- the effects

-- the subpools that tasks owned before the request
abbrev pub owned_or_none : Option (List OwnedSubpool) → List OwnedSubpool
owned_or_none None = []
owned_or_none (Some subpools) = subpools

abbrev pub owned_in : Recorder → List OwnedSubpool
owned_in r = owned_or_none r.owned

-- those of the end of a task, or of a granted request
abbrev pub effects_by : Option (Name × List Name) → Recorder → Reply → JobValue → List EffectFields
effects_by (Some e) r reply new = flat_map (fate_effects e) (owned_in r)
effects_by None r reply new = if is_granted reply then grant_effects r reply new else []

-- those of a recorded request, from its reply and the job after it
abbrev pub effects_after : Recorder → Reply → JobValue → List EffectFields
effects_after r reply new = effects_by (ended_in r.task reply) r reply new

-- those of the last event
abbrev pub effects_in : Recorder → Option JobValue → Reply → List EffectFields
effects_in r None reply = []
effects_in r (Some job) reply = if r.is_made then effects_after r reply job else []
