-- What a line changed in the step, from its meaning, its answer, and the step after it.
use Rattle.std.specs.Prelude.{ℕ, ◌-◌, List, [], ◌∷◌, ◌++◌, Option, Some, None, length, unwrap_or, option_map, slice_get, if◌then◌else◌}
use Rattle.std.specs.Option.{option_and_then}
use Rattle.std.specs.FinMap.{get}
use Rattle.mvs_model.specs.declared.line.Line.{Line}
use Rattle.mvs_model.specs.declared.line.Line.TheVariants as line
use Rattle.mvs_model.specs.declared.line.Statement.{Statement}
use Rattle.mvs_model.specs.declared.line.Statement.TheVariants as says
use Rattle.mvs_model.specs.declared.line.SourceRequest.{SourceRequest}
use Rattle.mvs_model.specs.declared.line.SourceRequest.TheVariants as written
use Rattle.mvs_model.specs.declared.name.Name.{Name}
use Rattle.mvs_model.specs.declared.request.Request.{Request}
use Rattle.mvs_model.specs.declared.request.Request.TheVariants as request
use Rattle.mvs_model.specs.Answers.{Answer, Event, AnswerTo, StepEnded}
use Rattle.mvs_model.specs.Answers as answer
use Rattle.mvs_model.specs.Card.{CardValue}
use Rattle.mvs_model.specs.Job.{JobValue}
use Rattle.mvs_model.specs.Name.{same_name}
use Rattle.mvs_model.specs.Numbers.{task_numbers}
use Rattle.mvs_model.specs.Place.{PlaceValue, place_at}
use Rattle.mvs_model.specs.Pools.{Pool}
use Rattle.mvs_model.specs.Reports.{each_below}
use Rattle.mvs_model.specs.Resolving.{resolved}
use Rattle.request_forms.specs.Facts.{listed}
use Rattle.request_forms.specs.SubpoolLabels.{entry_owner, resolved_owner}
use Rattle.page.specs.declared.change.Change.{Change}
use Rattle.page.specs.declared.change.Change.TheVariants as change

-- ---- what was done

-- an area that was obtained, and the subpool that has it, by the task's number
abbrev pub area_change : JobValue → Name → ℕ → Name → Option Change
area_change new t number area = option_and_then (λ p. option_map (λ l. change.Take p l.0 l.1 area) (resolved_owner new.state.owners t number)) (get new.names area)

-- the areas of a list
abbrev pub area_changes : JobValue → Name → ℕ → List Name → List Change
area_changes new t number [] = []
area_changes new t number (area ∷ areas) = listed (area_change new t number area) ++ area_changes new t number areas

-- places that were released
abbrev pub free_changes : List PlaceValue → List Change
free_changes [] = []
free_changes (p ∷ ps) = change.Free p ∷ free_changes ps

-- the subpool that was released as a whole, by the task's number for it
abbrev pub empty_change : JobValue → Name → ℕ → Option Change
empty_change new t number = option_map (λ l. change.Empty l.0 l.1) (resolved_owner new.state.owners t number)

-- a pool that was built in that subpool
abbrev pub pool_change : JobValue → Name → ℕ → Name → ℕ → Option Change
pool_change new t number pool size = option_map (λ l. change.Pool pool l.0 l.1 size) (resolved_owner new.state.owners t number)

-- the last part of a pool
abbrev pub last_part : Name → Pool → Option Change
last_part name pool = option_map (λ part. change.Part name part.place part.count) (slice_get pool.parts (length pool.parts - 1))

-- the part of a pool, by its name
abbrev pub part_change : JobValue → Name → Option Change
part_change new name = option_and_then (last_part name) (get new.state.pools name)

-- a cell that was taken
abbrev pub cell_change : JobValue → Name → Name → Option Change
cell_change new pool cell = option_map (λ p. change.Cell pool p cell) (get new.names cell)

-- what a subtask has under a number: it owns what its mother gave, and shares the rest
abbrev pub held_change : JobValue → Name → Name → ℕ → Option Change
held_change new mother name n =
    option_map (λ l. if same_name l.1 name then change.Given name l.0 mother else change.Shared name n l.0 l.1) (entry_owner new.state.owners name n)

-- what a request did that names places
abbrev pub request_changes : Option Request → List Change
request_changes (Some (request.Release form number p)) = change.Free p ∷ []
request_changes (Some (request.ReleaseList form number ps)) = free_changes ps
request_changes (Some (request.Free pool cell)) = change.Back pool cell ∷ []
request_changes (Some (request.Show a n)) = change.Read (place_at a n) ∷ []
request_changes (Some (request.Put a bytes)) = change.Write (place_at a (length bytes)) ∷ []
request_changes (Some (request.Move to from n)) = change.Read (place_at from n) ∷ change.Write (place_at to n) ∷ []
request_changes (Some (request.Obtain form number ask)) = []
request_changes (Some (request.ObtainList form number lengths start)) = []
request_changes (Some (request.ReleaseWhole form number)) = []
request_changes (Some (request.Build pool number size primary secondary loc)) = []
request_changes (Some (request.Get pool conditional)) = []
request_changes (Some (request.Delete pool)) = []
request_changes (Some (request.Attach name gifts residence)) = []
request_changes (Some request.Return) = []
request_changes (Some (request.Abend code)) = []
request_changes None = []

-- the changes of a granted request of a task; the names that it uses have their places from before
abbrev pub done_changes : Name → SourceRequest → JobValue → List Change
done_changes t (written.Obtain form number ask variable area) new = listed (area_change new t number area)
done_changes t (written.ObtainList form number lengths start areas) new = area_changes new t number areas
done_changes t (written.ReleaseWhole form number) new = listed (empty_change new t number)
done_changes t (written.Build pool number size primary secondary loc) new = listed (pool_change new t number pool size) ++ listed (part_change new pool)
done_changes t (written.Get pool conditional cell) new = listed (part_change new pool) ++ listed (cell_change new pool cell)
done_changes t (written.Delete pool) new = change.Delete pool ∷ []
done_changes t (written.Attach name gifts residence) new =
    change.Task name t residence ∷ each_below task_numbers (λ n. listed (held_change new t name n))
done_changes t (written.Release form number location n) new = request_changes (resolved new.names (written.Release form number location n))
done_changes t (written.ReleaseArea form number area) new = request_changes (resolved new.names (written.ReleaseArea form number area))
done_changes t (written.ReleaseList form number locations lengths) new = request_changes (resolved new.names (written.ReleaseList form number locations lengths))
done_changes t (written.Free pool location) new = request_changes (resolved new.names (written.Free pool location))
done_changes t written.Return new = request_changes (resolved new.names written.Return)
done_changes t (written.Abend code) new = request_changes (resolved new.names (written.Abend code))
done_changes t (written.Show from n) new = request_changes (resolved new.names (written.Show from n))
done_changes t (written.Put to bytes) new = request_changes (resolved new.names (written.Put to bytes))
done_changes t (written.Move to from n) new = request_changes (resolved new.names (written.Move to from n))

-- the tasks that ended with one that abended
abbrev pub fall_changes : Name → List Name → List Change
fall_changes t [] = []
fall_changes t (other ∷ others) = change.Fall other t ∷ fall_changes t others

-- ---- what a line is answered

-- the changes of a request with this answer: none if it was refused and its task continues
abbrev pub answer_changes : Name → SourceRequest → Answer → JobValue → List Change
answer_changes t a answer.Ended new = change.Return t ∷ []
answer_changes t a (answer.Abended code fallen) new = change.Abend t ∷ fall_changes t fallen
answer_changes t a answer.Rc0 new = done_changes t a new
answer_changes t a (answer.Granted n) new = done_changes t a new
answer_changes t a answer.Cell new = done_changes t a new
answer_changes t a answer.Attached new = done_changes t a new
answer_changes t a answer.Done new = done_changes t a new
answer_changes t a (answer.Data bytes) new = done_changes t a new
answer_changes t a answer.NotRun new = []
answer_changes t a answer.NoName new = []
answer_changes t a (answer.At addr) new = []
answer_changes t a answer.Rc4 new = []
answer_changes t a answer.NoCell new = []
answer_changes t a (answer.Subpools lines) new = []
answer_changes t a (answer.Map runs) new = []
answer_changes t a (answer.Region card) new = []

-- the place that WHERE shows
abbrev pub where_changes : Name → Answer → JobValue → List Change
where_changes name (answer.At a) new = listed (option_map (λ p. change.Look p) (get new.names name))
where_changes name answer.NotRun new = []
where_changes name answer.NoName new = []
where_changes name answer.Rc0 new = []
where_changes name (answer.Granted n) new = []
where_changes name answer.Rc4 new = []
where_changes name answer.Cell new = []
where_changes name answer.NoCell new = []
where_changes name answer.Attached new = []
where_changes name answer.Ended new = []
where_changes name answer.Done new = []
where_changes name (answer.Data bytes) new = []
where_changes name (answer.Abended code fallen) new = []
where_changes name (answer.Subpools lines) new = []
where_changes name (answer.Map runs) new = []
where_changes name (answer.Region card) new = []

-- what a statement did that is answered so
abbrev pub statement_changes : Name → Statement → Answer → JobValue → List Change
statement_changes t (says.Request a) said new = answer_changes t a said new
statement_changes t (says.Where name) said new = where_changes name said new
statement_changes t (says.Region below above fill residence) said new = []
statement_changes t says.ReportSubpools said new = []
statement_changes t says.ReportMap said new = []

-- a step that begins with a card, and its job step task
abbrev pub begin_changes : CardValue → List Change
begin_changes card = change.Step card.below card.above card.fill ∷ change.First card.name card.residence ∷ []

-- the task and the answer of some events; the end of a step may come before it
abbrev pub answer_in : List Event → Option (Name × Answer)
answer_in (AnswerTo number t said ∷ []) = Some (t, said)
answer_in (StepEnded abended ∷ (AnswerTo number t said ∷ [])) = Some (t, said)
answer_in _ = None

-- what a line did that says this, and is answered so
abbrev pub line_changes : Line → Option JobValue → Name × Answer → List Change
line_changes l new (t, answer.Region card) = begin_changes card
line_changes (line.Statement task s) (Some new) (t, said) = statement_changes t s said new
line_changes l new said = []

-- the changes of a line with these events
abbrev pub changes_of : Line → List Event → Option JobValue → List Change
changes_of l events new = unwrap_or (option_map (line_changes l new) (answer_in events)) []
