-- What is reported of a granted request: its changes, from the steps before and after it.
use Rattle.std.specs.Prelude.{◌≡◌, ◌⊎◌, ℕ, ◌+◌, ◌-◌, ◌==◌, nat_lt, Bool, true, false, List, [], ◌∷◌, ◌++◌, length, slice_get, flat_map, Option, Some, None, is_some, unwrap_or, option_map, if◌then◌else◌}
use Rattle.std.specs.Option.{option_and_then}
use Rattle.std.specs.FinMap.{get}
use Rattle.mvs_model.specs.declared.fact.Fact.{Fact}
use Rattle.mvs_model.specs.declared.fact.Fact.TheVariants.{Obtained, NoGreater, NewSubpool, PagesTaken, PagesFreed, Emptied, CellTaken, PartAdded, Given, Shared}
use Rattle.mvs_model.specs.declared.line.Fault.{Fault}
use Rattle.mvs_model.specs.declared.line.Line.{Line}
use Rattle.mvs_model.specs.declared.line.Line.TheVariants as line
use Rattle.mvs_model.specs.declared.line.Statement.TheVariants as says
use Rattle.mvs_model.specs.declared.line.SourceRequest.{SourceRequest}
use Rattle.mvs_model.specs.declared.line.SourceRequest.TheVariants.{Obtain, ObtainList, Release, ReleaseArea, ReleaseList, ReleaseWhole, Build, Get, Free, Delete, Attach, Return, Abend, Show, Put, Move}
use Rattle.mvs_model.specs.declared.name.Name.{Name}
use Rattle.mvs_model.specs.Answers.{Answer, Event, AnswerTo}
use Rattle.mvs_model.specs.Answers as answer
use Rattle.mvs_model.specs.Finite.{has}
use Rattle.mvs_model.specs.Job.{JobValue}
use Rattle.mvs_model.specs.Name.{same_name}
use Rattle.mvs_model.specs.Numbers.{task_numbers}
use Rattle.mvs_model.specs.Place.{round8}
use Rattle.mvs_model.specs.Pools.{Pool}
use Rattle.mvs_model.specs.Reading.{LineOf, FaultOf}
use Rattle.mvs_model.specs.Reports.{each_below}
use Rattle.mvs_model.specs.State.{State}
use Rattle.explanation.specs.FactTexts.{fact_line}
use Rattle.request_forms.specs.Facts.{listed}
use Rattle.request_forms.specs.SubpoolLabels.{free_above, free_below, entry_owner, resolved_owner}
use Rattle.mvs_job.specs.declared.granting.Baseline.{Baseline}

-- ---- the step before

-- how many parts the pool of a name has
abbrev pub parts_at : State → Name → ℕ
parts_at st name = unwrap_or (option_map (λ pool. length pool.parts) (get st.pools name)) 0

-- what is looked at before a request: the free pages, whether the task means a subpool, and the parts of a pool
abbrev pub looked_at : JobValue → Bool → ℕ → Baseline
looked_at job had parts = record { below = free_below job.state; above = free_above job.state; had = had; parts = parts; numbers = [] }

-- for each number of a task, whether it has a subpool
abbrev pub numbers_of : JobValue → Name → List Bool
numbers_of job t = each_below task_numbers (λ n. is_some (entry_owner job.state.owners t n) ∷ [])

-- whether a task means a subpool by a number
abbrev pub means : JobValue → Name → ℕ → Bool
means job t number = is_some (resolved_owner job.state.owners t number)

-- what is looked up before the request of a task; nothing, if its changes are not reported
abbrev pub before_request : JobValue → Name → SourceRequest → Option Baseline
before_request job t (Obtain form number ask variable area) = Some (looked_at job (means job t number) 0)
before_request job t (ObtainList form number lengths start areas) = Some (looked_at job (means job t number) 0)
before_request job t (Release form number location n) = Some (looked_at job true 0)
before_request job t (ReleaseArea form number area) = Some (looked_at job true 0)
before_request job t (ReleaseList form number locations lengths) = Some (looked_at job true 0)
before_request job t (ReleaseWhole form number) = Some (looked_at job true 0)
before_request job t (Build pool number size primary secondary loc) = Some (looked_at job (means job t number) 0)
before_request job t (Get pool conditional cell) = Some (looked_at job true (parts_at job.state pool))
before_request job t (Delete pool) = Some (looked_at job true 0)
before_request job t (Attach name gifts residence) = Some (record { below = 0; above = 0; had = true; parts = 0; numbers = numbers_of job t })
before_request job t (Free pool location) = None
before_request job t Return = None
before_request job t (Abend code) = None
before_request job t (Show from n) = None
before_request job t (Put to bytes) = None
before_request job t (Move to from n) = None

-- the same before a line: nothing before the first step
abbrev pub before_line : Option JobValue → Line → Option Baseline
before_line None l = None
before_line (Some job) line.Nothing = None
before_line (Some job) (line.Statement t (says.Request a)) = before_request job t a
before_line (Some job) (line.Statement t (says.Region below above fill residence)) = None
before_line (Some job) (line.Statement t (says.Where name)) = None
before_line (Some job) (line.Statement t says.ReportSubpools) = None
before_line (Some job) (line.Statement t says.ReportMap) = None

-- ---- what was done

-- an area that was obtained, and the subpool that has it, by the task's number
abbrev pub area_fact : JobValue → Name → ℕ → Name → ℕ → ℕ → Option Fact
area_fact new t number area least most = option_and_then (λ p. option_map (λ l. Obtained area p least most l.0 l.1) (resolved_owner new.state.owners t number)) (get new.names area)

-- the areas of a list
abbrev pub area_facts : JobValue → Name → ℕ → List Name → List ℕ → List Fact
area_facts new t number [] lengths = []
area_facts new t number (area ∷ areas) [] = []
area_facts new t number (area ∷ areas) (n ∷ lengths) = listed (area_fact new t number area n n) ++ area_facts new t number areas lengths

-- that no greater length had a place, where less was obtained than the greatest length
abbrev pub greater_fact : Baseline → JobValue → Name → ℕ → Option Fact
greater_fact b new area most = if has (λ p. nat_lt p.len (round8 most)) (get new.names area) then Some (NoGreater b.below b.above) else None

-- a subpool for a number that the task did not have before
abbrev pub subpool_fact : Baseline → JobValue → Name → ℕ → Option Fact
subpool_fact b new t number = if b.had then None else option_map (λ l. NewSubpool l.0 l.1) (resolved_owner new.state.owners t number)

-- how many pages hold nothing
abbrev pub free_in : JobValue → ℕ
free_in job = free_below job.state + free_above job.state

-- the pages that were taken
abbrev pub taken_fact : Baseline → JobValue → Fact
taken_fact b new = PagesTaken (b.below + b.above - free_in new)

-- the pages that hold nothing any more, if there are some
abbrev pub freed_fact : Baseline → JobValue → Option Fact
freed_fact b new = if free_in new - (b.below + b.above) == 0 then None else Some (PagesFreed (free_in new - (b.below + b.above)))

-- the subpool that was released as a whole, by the task's number for it
abbrev pub emptied_fact : JobValue → Name → ℕ → Option Fact
emptied_fact new t number = option_map (λ l. Emptied l.0 l.1) (resolved_owner new.state.owners t number)

-- the last part of a pool
abbrev pub last_part : Name → Pool → Option Fact
last_part name pool = option_map (λ part. PartAdded name part.count pool.cell_size part.place) (slice_get pool.parts (length pool.parts - 1))

-- a pool that has another number of parts than before
abbrev pub part_fact : Baseline → JobValue → Name → Option Fact
part_fact b new name = option_and_then (λ pool. if length pool.parts == b.parts then None else last_part name pool) (get new.state.pools name)

-- the pages that were taken for it
abbrev pub part_pages : Baseline → JobValue → Name → Option Fact
part_pages b new name = option_map (λ _. taken_fact b new) (part_fact b new name)

-- a cell that was taken
abbrev pub cell_fact : JobValue → Name → Name → Option Fact
cell_fact new pool cell = option_map (λ p. CellTaken cell pool p) (get new.names cell)

-- a subpool that the attaching task has under a number, and had not
abbrev pub created_fact : Baseline → JobValue → Name → ℕ → Option Fact
created_fact b new t n = if unwrap_or (slice_get b.numbers n) false then None else option_map (λ l. NewSubpool l.0 l.1) (entry_owner new.state.owners t n)

-- what a subtask has under a number: it owns what its mother gave, and shares the rest
abbrev pub subtask_fact : JobValue → Name → Name → ℕ → Option Fact
subtask_fact new mother name n = option_map (λ l. if same_name l.1 name then Given name l.0 mother else Shared name l.0 l.1) (entry_owner new.state.owners name n)

-- what an ATTACH did under a number
abbrev pub attach_facts : Baseline → JobValue → Name → Name → ℕ → List Fact
attach_facts b new t subtask n = listed (created_fact b new t n) ++ listed (subtask_fact new t subtask n)

-- what a task's request did that was granted
abbrev pub facts_of : Baseline → Name → SourceRequest → JobValue → List Fact
facts_of b t (Obtain form number ask variable area) new =
    listed (area_fact new t number area ask.least ask.most) ++ listed (greater_fact b new area ask.most) ++ listed (subpool_fact b new t number) ++ taken_fact b new ∷ []
facts_of b t (ObtainList form number lengths start areas) new = area_facts new t number areas lengths ++ listed (subpool_fact b new t number) ++ taken_fact b new ∷ []
facts_of b t (ReleaseWhole form number) new = listed (emptied_fact new t number) ++ listed (freed_fact b new)
facts_of b t (Build pool number size primary secondary loc) new = listed (part_fact b new pool) ++ listed (subpool_fact b new t number) ++ listed (part_pages b new pool)
facts_of b t (Get pool conditional cell) new = listed (cell_fact new pool cell) ++ listed (part_fact b new pool) ++ listed (part_pages b new pool)
facts_of b t (Attach name gifts residence) new = each_below task_numbers (λ n. attach_facts b new t name n)
facts_of b t (Release form number location n) new = listed (freed_fact b new)
facts_of b t (ReleaseArea form number area) new = listed (freed_fact b new)
facts_of b t (ReleaseList form number locations lengths) new = listed (freed_fact b new)
facts_of b t (Delete pool) new = listed (freed_fact b new)
facts_of b t (Free pool location) new = []
facts_of b t Return new = []
facts_of b t (Abend code) new = []
facts_of b t (Show from n) new = []
facts_of b t (Put to bytes) new = []
facts_of b t (Move to from n) new = []

-- ---- its text

-- whether an answer says that a request was granted
abbrev pub is_grant : Answer → Bool
is_grant answer.Rc0 = true
is_grant (answer.Granted n) = true
is_grant answer.Cell = true
is_grant answer.Attached = true
is_grant answer.NotRun = false
is_grant answer.NoName = false
is_grant (answer.At addr) = false
is_grant answer.Rc4 = false
is_grant answer.NoCell = false
is_grant answer.Ended = false
is_grant answer.Done = false
is_grant (answer.Data bytes) = false
is_grant (answer.Abended code fallen) = false
is_grant (answer.Subpools lines) = false
is_grant (answer.Map runs) = false
is_grant (answer.Region card) = false

-- whether the events of a line say so
abbrev pub reports_grant : List Event → Bool
reports_grant (AnswerTo number t a ∷ []) = is_grant a
reports_grant _ = false

-- the changes of a line with this meaning, from the step after it
abbrev pub facts_after : Option Baseline → Line → Option JobValue → List Fact
facts_after None l new = []
facts_after (Some b) l None = []
facts_after (Some b) line.Nothing (Some new) = []
facts_after (Some b) (line.Statement t (says.Request a)) (Some new) = facts_of b t a new
facts_after (Some b) (line.Statement t (says.Region below above fill residence)) (Some new) = []
facts_after (Some b) (line.Statement t (says.Where name)) (Some new) = []
facts_after (Some b) (line.Statement t says.ReportSubpools) (Some new) = []
facts_after (Some b) (line.Statement t says.ReportMap) (Some new) = []

-- the changes of a line whose events say that a request was granted
abbrev pub granted_facts : Option Baseline → Line → List Event → Option JobValue → List Fact
granted_facts b l events new = if reports_grant events then facts_after b l new else []

-- the lines for them
abbrev pub granted_text : Option Baseline → Line → List Event → Option JobValue → List ℕ
granted_text b l events new = flat_map fact_line (granted_facts b l events new)

-- The text is the changes of the next line, if it has these events: from the steps before and after it.
abbrev pub IsGranting : Option JobValue → List ℕ → List Event → Option JobValue → List ℕ → Type 0
IsGranting old bytes events new text =
    ((l : Line) × LineOf false bytes l × (text ≡ granted_text (before_line old l) l events new)) ⊎ ((old ≡ None) × (text ≡ [])) ⊎ ((fault : Fault) × FaultOf false bytes fault × (text ≡ []))
