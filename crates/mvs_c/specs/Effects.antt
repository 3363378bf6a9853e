-- What a granted request changed, and what was freed with a task, for C. The numbers of the kinds are this project's choice; those of the
-- rules are the rules of RULES.md that the text of an explanation names. They follow what `mvsjob --explain` prints of a line.
use Rattle.std.specs.Prelude.{ℕ, ◌+◌, ◌-◌, ◌==◌, nat_lt, Bool, true, false, List, [], ◌∷◌, ◌++◌, length, replicate, slice_get, Option, Some, None, unwrap_or, option_map, if◌then◌else◌}
use Rattle.std.specs.Option.{option_and_then}
use Rattle.std.specs.FinMap.{get}
use Rattle.mvs_model.specs.declared.line.SourceRequest.{SourceRequest}
use Rattle.mvs_model.specs.declared.line.SourceRequest.TheVariants as written
use Rattle.mvs_model.specs.declared.name.Name.{Name}
use Rattle.mvs_model.specs.declared.request.Reply.{Reply}
use Rattle.mvs_model.specs.declared.request.Reply.TheVariants as reply
use Rattle.mvs_model.specs.declared.request.Request.{Request}
use Rattle.mvs_model.specs.declared.request.Request.TheVariants as request
use Rattle.mvs_model.specs.Finite.{has}
use Rattle.mvs_model.specs.Job.{JobValue}
use Rattle.mvs_model.specs.Name.{same_name}
use Rattle.mvs_model.specs.Numbers.{task_numbers}
use Rattle.mvs_model.specs.Place.{PlaceValue, round8}
use Rattle.mvs_model.specs.Pools.{Pool}
use Rattle.mvs_model.specs.Reports.{each_below}
use Rattle.mvs_job.specs.declared.ends.Fate.{Fate}
use Rattle.mvs_job.specs.declared.ends.Fate.TheVariants.{Freed, Remains, Unaffected}
use Rattle.mvs_job.specs.Facts.{fate}
use Rattle.mvs_job.specs.Granting.{free_in, means, numbers_of, parts_at}
use Rattle.request_forms.specs.declared.facts.OwnedSubpool.{OwnedSubpool}
use Rattle.request_forms.specs.Facts.{listed}
use Rattle.request_forms.specs.SubpoolLabels.{free_above, free_below, entry_owner, resolved_owner}
use Rattle.mvs_c.specs.declared.asked.Asked.{Asked}
use Rattle.mvs_c.specs.declared.asked.Asked.TheVariants.{Obtain, ObtainList, Release, ReleaseWhole, Build, Get, Attach, Other}
use Rattle.mvs_c.specs.declared.baseline.Baseline.{Baseline}
use Rattle.mvs_c.specs.declared.effect.EffectFields.{EffectFields}
use Rattle.mvs_c.specs.declared.recorder.Recorder.{Recorder}

-- ---- what is asked

-- what a request by values asks
abbrev pub asked_of : Request → Asked
asked_of (request.Obtain form number ask) = Obtain number ask.least ask.most
asked_of (request.ObtainList form number lengths start) = ObtainList number lengths
asked_of (request.Release form number place) = Release
asked_of (request.ReleaseList form number places) = Release
asked_of (request.Delete pool) = Release
asked_of (request.ReleaseWhole form number) = ReleaseWhole number
asked_of (request.Build pool number size primary secondary loc) = Build number pool
asked_of (request.Get pool conditional) = Get pool
asked_of (request.Attach name gifts residence) = Attach name
asked_of (request.Free pool cell) = Other
asked_of request.Return = Other
asked_of (request.Abend code) = Other
asked_of (request.Show from n) = Other
asked_of (request.Put to bytes) = Other
asked_of (request.Move to from n) = Other

-- and the request of a statement
abbrev pub asked_in : SourceRequest → Asked
asked_in (written.Obtain form number ask variable area) = Obtain number ask.least ask.most
asked_in (written.ObtainList form number lengths start areas) = ObtainList number lengths
asked_in (written.Release form number location n) = Release
asked_in (written.ReleaseArea form number area) = Release
asked_in (written.ReleaseList form number locations lengths) = Release
asked_in (written.Delete pool) = Release
asked_in (written.ReleaseWhole form number) = ReleaseWhole number
asked_in (written.Build pool number size primary secondary loc) = Build number pool
asked_in (written.Get pool conditional cell) = Get pool
asked_in (written.Attach name gifts residence) = Attach name
asked_in (written.Free pool location) = Other
asked_in written.Return = Other
asked_in (written.Abend code) = Other
asked_in (written.Show from n) = Other
asked_in (written.Put to bytes) = Other
asked_in (written.Move to from n) = Other

-- ---- the step before

-- whether a task has the subpool from which it obtains
abbrev pub had_before : JobValue → Name → Asked → Bool
had_before job t (Obtain number least most) = means job t number
had_before job t (ObtainList number lengths) = means job t number
had_before job t (Build number pool) = means job t number
had_before job t Release = true
had_before job t (ReleaseWhole number) = true
had_before job t (Get pool) = true
had_before job t (Attach subtask) = true
had_before job t Other = true

-- how many parts the pool has from which a cell is taken
abbrev pub parts_before : JobValue → Asked → ℕ
parts_before job (Get pool) = parts_at job.state pool
parts_before job (Obtain number least most) = 0
parts_before job (ObtainList number lengths) = 0
parts_before job Release = 0
parts_before job (ReleaseWhole number) = 0
parts_before job (Build number pool) = 0
parts_before job (Attach subtask) = 0
parts_before job Other = 0

-- under which numbers an attaching task has a subpool
abbrev pub numbers_before : JobValue → Name → Asked → List Bool
numbers_before job t (Attach subtask) = numbers_of job t
numbers_before job t (Obtain number least most) = []
numbers_before job t (ObtainList number lengths) = []
numbers_before job t Release = []
numbers_before job t (ReleaseWhole number) = []
numbers_before job t (Build number pool) = []
numbers_before job t (Get pool) = []
numbers_before job t Other = []

-- what is looked up before a request of a task
abbrev pub baseline_of : JobValue → Name → Asked → Baseline
baseline_of job t asked = record { below = free_below job.state; above = free_above job.state; had = had_before job t asked; parts = parts_before job asked; numbers = numbers_before job t asked }

-- nothing
abbrev pub no_baseline : Baseline
no_baseline = record { below = 0; above = 0; had = true; parts = 0; numbers = [] }

-- ---- the fields

-- the number of bytes of an effect
abbrev pub effect_bytes : ℕ
effect_bytes = 72

-- an effect of a kind, with its rule and no other field
abbrev pub effect_of_kind : ℕ → ℕ → EffectFields
effect_of_kind kind rule = record {
  size = effect_bytes;
  kind = kind;
  rule = rule;
  address = 0;
  length = 0;
  least = 0;
  most = 0;
  pages = 0;
  pages_above = 0;
  cells = 0;
  cell_size = 0;
  number = 0;
  owner = replicate 8 32;
  task = replicate 8 32;
  pool = replicate 8 32;
}

-- one on a subpool
abbrev pub effect_of_subpool : ℕ → ℕ → ℕ → Name → EffectFields
effect_of_subpool kind rule number owner = record (effect_of_kind kind rule) { number = number; owner = owner }

-- one of a cell pool that has a place
abbrev pub effect_of_place : ℕ → ℕ → Name → PlaceValue → EffectFields
effect_of_place kind rule pool place = record (effect_of_kind kind rule) { address = place.addr; length = place.len; pool = pool }

-- ---- a granted request

-- the place of the area or the cell that a reply grants, and those of a list
abbrev pub place_in : Reply → Option PlaceValue
place_in (reply.Obtained p) = Some p
place_in (reply.Cell p) = Some p
place_in reply.NotRun = None
place_in reply.Rc0 = None
place_in reply.Rc4 = None
place_in (reply.Listed ps) = None
place_in reply.NoCell = None
place_in reply.Attached = None
place_in reply.Ended = None
place_in reply.Done = None
place_in (reply.Abended code fallen) = None

abbrev pub places_in : Reply → List PlaceValue
places_in (reply.Listed ps) = ps
places_in reply.NotRun = []
places_in reply.Rc0 = []
places_in reply.Rc4 = []
places_in (reply.Obtained p) = []
places_in (reply.Cell p) = []
places_in reply.NoCell = []
places_in reply.Attached = []
places_in reply.Ended = []
places_in reply.Done = []
places_in (reply.Abended code fallen) = []

-- the rule by which an area has its length: the one that was asked for, that one rounded up, or one between two
abbrev pub obtained_rule : ℕ → ℕ → ℕ → ℕ
obtained_rule len least most = if least == most then (if len == most then 24 else 3) else 20

-- an area that was obtained from a subpool
abbrev pub obtained : PlaceValue → ℕ → ℕ → ℕ × Name → EffectFields
obtained p least most label = record (effect_of_subpool 1 (obtained_rule p.len least most) label.0 label.1) { address = p.addr; length = p.len; least = least; most = most }

-- the same of the subpool that a task means by a number
abbrev pub area_effect : JobValue → Name → ℕ → Option PlaceValue → ℕ → ℕ → Option EffectFields
area_effect new t number place least most = option_and_then (λ p. option_map (λ l. obtained p least most l) (resolved_owner new.state.owners t number)) place

-- the areas of a list
abbrev pub area_effects : JobValue → Name → ℕ → List PlaceValue → List ℕ → List EffectFields
area_effects new t number [] lengths = []
area_effects new t number (p ∷ ps) [] = []
area_effects new t number (p ∷ ps) (n ∷ lengths) = listed (area_effect new t number (Some p) n n) ++ area_effects new t number ps lengths

-- that no greater length had a place, if less was obtained than the greatest length
abbrev pub greater_effect : Baseline → Option PlaceValue → ℕ → Option EffectFields
greater_effect b place most = if has (λ p. nat_lt p.len (round8 most)) place then Some (record (effect_of_kind 2 20) { pages = b.below; pages_above = b.above }) else None

-- a subpool that the task did not mean by the number before
abbrev pub subpool_effect : Baseline → JobValue → Name → ℕ → Option EffectFields
subpool_effect b new t number = if b.had then None else option_map (λ l. effect_of_subpool 3 42 l.0 l.1) (resolved_owner new.state.owners t number)

-- pages that were assigned
abbrev pub assigned_effect : ℕ → EffectFields
assigned_effect n = record (effect_of_kind 4 (if n == 0 then 4 else 5)) { pages = n }

abbrev pub taken_pages : Baseline → JobValue → EffectFields
taken_pages b new = assigned_effect (b.below + b.above - free_in new)

-- pages that became free
abbrev pub freed_effect : ℕ → Option EffectFields
freed_effect n = if n == 0 then None else Some (record (effect_of_kind 5 5) { pages = n })

abbrev pub freed_pages : Baseline → JobValue → Option EffectFields
freed_pages b new = freed_effect (free_in new - (b.below + b.above))

-- the subpool that the task means by the number, all of which was released
abbrev pub emptied_effect : JobValue → Name → ℕ → Option EffectFields
emptied_effect new t number = option_map (λ l. effect_of_subpool 6 34 l.0 l.1) (resolved_owner new.state.owners t number)

-- a cell that was allocated
abbrev pub cell_effect : Name → Option PlaceValue → Option EffectFields
cell_effect pool place = option_map (λ p. effect_of_place 7 60 pool p) place

-- a part of a pool
abbrev pub part_value : Name → ℕ → ℕ → PlaceValue → EffectFields
part_value pool cells size place = record (effect_of_place 8 57 pool place) { cells = cells; cell_size = size }

-- the last part of a pool
abbrev pub last_part : Name → Pool → Option EffectFields
last_part name pool = option_map (λ part. part_value name part.count pool.cell_size part.place) (slice_get pool.parts (length pool.parts - 1))

-- a pool that has another number of parts than before
abbrev pub part_effect : Baseline → JobValue → Name → Option EffectFields
part_effect b new name = option_and_then (λ pool. if length pool.parts == b.parts then None else last_part name pool) (get new.state.pools name)

-- the pages that were assigned for it
abbrev pub part_pages : Baseline → JobValue → Name → Option EffectFields
part_pages b new name = option_map (λ _. taken_pages b new) (part_effect b new name)

-- a subpool that the attaching task has under a number, and had not
abbrev pub created_effect : Baseline → JobValue → Name → ℕ → Option EffectFields
created_effect b new t n = if unwrap_or (slice_get b.numbers n) false then None else option_map (λ l. effect_of_subpool 3 42 l.0 l.1) (entry_owner new.state.owners t n)

-- what a subtask has under a number: it owns what its attaching task gave, and shares the rest
abbrev pub subtask_value : Name → Name → ℕ × Name → EffectFields
subtask_value attaching name label = record (if same_name label.1 name then effect_of_subpool 9 43 label.0 attaching else effect_of_subpool 10 44 label.0 label.1) { task = name }

abbrev pub subtask_effect : JobValue → Name → Name → ℕ → Option EffectFields
subtask_effect new attaching name n = option_map (λ l. subtask_value attaching name l) (entry_owner new.state.owners name n)

-- what an ATTACH did under a number
abbrev pub attach_effects : Baseline → JobValue → Name → Name → ℕ → List EffectFields
attach_effects b new t subtask n = listed (created_effect b new t n) ++ listed (subtask_effect new t subtask n)

-- what a granted request of a task changed
abbrev pub asked_effects : Baseline → Name → Asked → Reply → JobValue → List EffectFields
asked_effects b t (Obtain number least most) r new =
    listed (area_effect new t number (place_in r) least most) ++ listed (greater_effect b (place_in r) most) ++ listed (subpool_effect b new t number) ++ taken_pages b new ∷ []
asked_effects b t (ObtainList number lengths) r new = area_effects new t number (places_in r) lengths ++ listed (subpool_effect b new t number) ++ taken_pages b new ∷ []
asked_effects b t Release r new = listed (freed_pages b new)
asked_effects b t (ReleaseWhole number) r new = listed (emptied_effect new t number) ++ listed (freed_pages b new)
asked_effects b t (Build number pool) r new = listed (part_effect b new pool) ++ listed (subpool_effect b new t number) ++ listed (part_pages b new pool)
asked_effects b t (Get pool) r new = listed (cell_effect pool (place_in r)) ++ listed (part_effect b new pool) ++ listed (part_pages b new pool)
asked_effects b t (Attach subtask) r new = each_below task_numbers (λ n. attach_effects b new t subtask n)
asked_effects b t Other r new = []

-- the same of a request that was recorded
abbrev pub grant_effects : Recorder → Reply → JobValue → List EffectFields
grant_effects rec r new = asked_effects rec.baseline rec.task rec.asked r new

-- whether a reply says that a request was granted
abbrev pub is_granted : Reply → Bool
is_granted reply.Rc0 = true
is_granted (reply.Obtained p) = true
is_granted (reply.Listed ps) = true
is_granted (reply.Cell p) = true
is_granted reply.Attached = true
is_granted reply.NotRun = false
is_granted reply.Rc4 = false
is_granted reply.NoCell = false
is_granted reply.Ended = false
is_granted reply.Done = false
is_granted (reply.Abended code fallen) = false

-- ---- the end of a task

-- the task that a reply ends, and those that end with it
abbrev pub ended_in : Name → Reply → Option (Name × List Name)
ended_in t reply.Ended = Some (t, [])
ended_in t (reply.Abended code fallen) = Some (t, fallen)
ended_in t reply.NotRun = None
ended_in t reply.Rc0 = None
ended_in t reply.Rc4 = None
ended_in t (reply.Obtained p) = None
ended_in t (reply.Listed ps) = None
ended_in t (reply.Cell p) = None
ended_in t reply.NoCell = None
ended_in t reply.Attached = None
ended_in t reply.Done = None

-- what becomes of a subpool: it is freed with its owner, or it remains and the task shared it
abbrev pub fate_value : Name → OwnedSubpool → Fate → List EffectFields
fate_value t s Freed = record (effect_of_subpool 11 52 s.number s.owner) { length = s.bytes; pages = s.pages } ∷ []
fate_value t s Remains = record (effect_of_subpool 12 53 s.number s.owner) { task = t } ∷ []
fate_value t s Unaffected = []

abbrev pub fate_effects : Name × List Name → OwnedSubpool → List EffectFields
fate_effects e s = fate_value e.0 s (fate e s)
