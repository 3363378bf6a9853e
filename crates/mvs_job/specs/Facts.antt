-- What is reported of the subpools that are freed with a task that ends, and of those that remain.
use Rattle.std.specs.Prelude.{◌≡◌, ℕ, List, [], ◌∷◌, Option, Some, None, if◌then◌else◌}
use Rattle.std.specs.List.{flat_map}
use Rattle.mvs_model.specs.declared.name.Name.{Name}
use Rattle.mvs_model.specs.Answers.{Answer, Event, AnswerTo}
use Rattle.mvs_model.specs.Answers as answer
use Rattle.mvs_model.specs.Job.{JobValue}
use Rattle.mvs_model.specs.Owners.{is_among_ended}
use Rattle.request_forms.specs.Facts.{owned_subpools}
use Rattle.request_forms.specs.declared.facts.OwnedSubpool.{OwnedSubpool}
use Rattle.mvs_job.specs.declared.ends.EndedTasks.{EndedTasks}
use Rattle.mvs_job.specs.declared.ends.Fate.{Fate}
use Rattle.mvs_job.specs.declared.ends.Fate.TheVariants.{Freed, Remains, Unaffected}
use Rattle.explanation.specs.FactTexts.{freed_line, stays_line}

-- the task that an answer ends, and those that fall with it
abbrev pub end_of : Name → Answer → Option (Name × List Name)
end_of t (answer.Abended code fallen) = Some (t, fallen)
end_of t answer.Ended = Some (t, [])
end_of t answer.NotRun = None
end_of t answer.NoName = None
end_of t (answer.At addr) = None
end_of t answer.Rc0 = None
end_of t (answer.Granted n) = None
end_of t answer.Rc4 = None
end_of t answer.Cell = None
end_of t answer.NoCell = None
end_of t answer.Attached = None
end_of t answer.Done = None
end_of t (answer.Data bytes) = None
end_of t (answer.Subpools lines) = None
end_of t (answer.Map runs) = None
end_of t (answer.Region card) = None

-- the task that a line ends, from its events
abbrev pub ended_by : List Event → Option (Name × List Name)
ended_by (AnswerTo number t a ∷ []) = end_of t a
ended_by _ = None

-- tasks that ended, as a pair
abbrev pub ended_pair : EndedTasks → Name × List Name
ended_pair e = (e.task.now, e.others.now)

-- what becomes of a subpool at an end: it is freed, or it remains and the ending task shared it
abbrev pub fate : Name × List Name → OwnedSubpool → Fate
fate e s = if is_among_ended e.0 e.1 s.owner then Freed else if s.had then Remains else Unaffected

-- the line for it
abbrev pub fate_line : Name → OwnedSubpool → Fate → List ℕ
fate_line t s Freed = freed_line s.number s.owner s.bytes s.pages
fate_line t s Remains = stays_line s.number s.owner t
fate_line t s Unaffected = []

abbrev pub subpool_line : Name × List Name → OwnedSubpool → List ℕ
subpool_line e s = fate_line e.0 s (fate e s)

-- what is printed of the subpools at an end, if there is one
abbrev pub freed_lines : List OwnedSubpool → Option (Name × List Name) → List ℕ
freed_lines subpools None = []
freed_lines subpools (Some e) = flat_map (subpool_line e) subpools

-- the lines for a task that ended, with those that ended with it, from the step before: one for each subpool that is freed, and one
-- for each that the task shared and that remains
abbrev pub freed_text : JobValue → Option (Name × List Name) → List ℕ
freed_text job None = []
freed_text job (Some e) = flat_map (subpool_line e) (owned_subpools job.state e.0)

-- The text is these lines if a line with these events ended a task, and otherwise empty.
abbrev pub IsFreeing : Option JobValue → List Event → List ℕ → Type 0
IsFreeing None events text = text ≡ []
IsFreeing (Some job) events text = text ≡ freed_text job (ended_by events)
