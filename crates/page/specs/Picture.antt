-- The picture that a reader of the lines of change has of a step, and that it is the step's.
use Rattle.std.specs.Prelude.{◌≡◌, ◌⊎◌, ℕ, ◌+◌, ◌-◌, Bool, true, false, not, ◌&&◌, ◌||◌, ◌==◌, List, [], ◌∷◌, ◌++◌, Option, Some, None, unwrap_or, if◌then◌else◌}
use Rattle.std.specs.List.{list_any, slice_get}
use Rattle.std.specs.Option.{option_map}
use Rattle.std.specs.FinMap.{get}
use Rattle.std.specs.FinSet as set
use Rattle.mvs_model.specs.declared.line.Fault.{Fault}
use Rattle.mvs_model.specs.declared.line.Line.{Line}
use Rattle.mvs_model.specs.declared.name.Name.{Name}
use Rattle.mvs_model.specs.Answers.{Event}
use Rattle.mvs_model.specs.Finite.{has, kept}
use Rattle.mvs_model.specs.Job.{JobValue}
use Rattle.mvs_model.specs.Name.{same_name}
use Rattle.mvs_model.specs.Owners.{Owners, Task, entry}
use Rattle.mvs_model.specs.Place.{PlaceValue}
use Rattle.mvs_model.specs.Pools.{Part, Pool}
use Rattle.mvs_model.specs.Reading.{FaultOf, LineOf}
use Rattle.mvs_model.specs.Runs.{machine}
use Rattle.mvs_model.specs.State.{Holding}
use Rattle.mvs_model.specs.Storage.{Regions, covers, has_address}
use Rattle.mvs_model.specs.Walk.{Leads, ServesLine, is_first}
use Rattle.page.specs.declared.change.Change.{Change}
use Rattle.page.specs.declared.change.Change.TheVariants as change
use Rattle.page.specs.Changes.{changes_of}
use Rattle.page.specs.Lines.{carried}

-- ---- the picture

-- How the lines name a subpool: the number under which its owner has it, and the owner.
pub record Label : Type 0 where
  pub number : ℕ
  pub owner : Name

-- What holds a doubleword: a subpool, and whether as a part of a pool.
pub record Mark : Type 0 where
  pub label : Label
  pub pooled : Bool

-- A pool: its subpool, the size of a cell, its parts, and whether the cell at an address is taken.
pub record DrawnPool : Type 0 where
  pub label : Label
  pub cell_size : ℕ
  pub parts : List Part
  pub taken : ℕ → Bool

-- The regions, what holds a doubleword, the byte at an address, the active tasks, the subpool that a task has under a number, the places
-- of the names that are set, and the pools.
pub record Picture : Type 0 where
  pub regions : Regions
  pub held : ℕ → Option Mark
  pub bytes : ℕ → ℕ
  pub tasks : Name → Option Task
  pub subpools : Name → ℕ → Option Label
  pub names : Name → Option PlaceValue
  pub pools : Name → Option DrawnPool

-- nothing is drawn
abbrev pub blank : Picture
blank = record { regions = record { below = 0; above = 0; fill = 0 }; held = λ d. None; bytes = λ a. 0; tasks = λ t. None; subpools = λ t n. None; names = λ n. None; pools = λ n. None }

-- ---- what a line of change does to it

-- the function with another value at each key that passes the test
abbrev pub changed : {K X : Type 0} → (K → Option X) → (K → Bool) → Option X → K → Option X
changed f test v k = if test k then v else f k

-- whether two labels are the same
abbrev pub same_label : Label → Label → Bool
same_label l m = (l.number == m.number) && same_name l.owner m.owner

-- the picture without what is of subpools whose labels pass the test
abbrev pub without : (Label → Bool) → Picture → Picture
without test p = record p { held = λ d. kept (λ m. not (test m.label)) (p.held d); pools = λ n. kept (λ q. not (test q.label)) (p.pools n) }

-- a mark and a pool with another label
abbrev pub mark_moved : (Label → Label) → Mark → Mark
mark_moved f m = record m { label = f m.label }

abbrev pub pool_moved : (Label → Label) → DrawnPool → DrawnPool
pool_moved f q = record q { label = f q.label }

-- the picture with other labels
abbrev pub relabelled : (Label → Label) → Picture → Picture
relabelled f p = record p { held = λ d. option_map (mark_moved f) (p.held d); subpools = λ t n. option_map f (p.subpools t n); pools = λ n. option_map (pool_moved f) (p.pools n) }

-- the label of a subpool once this one has a new owner
abbrev pub handed_over : Label → Name → Label → Label
handed_over given owner l = if same_label l given then record { number = l.number; owner = owner } else l

-- the picture with these bytes at the addresses of a place
abbrev pub with_bytes : PlaceValue → (ℕ → ℕ) → Picture → Picture
with_bytes place byte p = record p { bytes = λ a. if has_address place a then byte a else p.bytes a }

-- the picture with the fill byte all over a place
abbrev pub filled : PlaceValue → Picture → Picture
filled place p = with_bytes place (λ a. p.regions.fill) p

-- the picture with the bytes of a list from the address of a place on
abbrev pub written : PlaceValue → List ℕ → Picture → Picture
written place bytes p = with_bytes place (λ a. unwrap_or (slice_get bytes (a - place.addr)) 0) p

-- the picture with another task, or without the task
abbrev pub with_task : Name → Option Task → Picture → Picture
with_task name task p = record p { tasks = changed p.tasks (same_name name) task }

-- the picture with another subpool that a task has under a number, or without one
abbrev pub with_entry : Name → ℕ → Option Label → Picture → Picture
with_entry task number label p = record p { subpools = λ t n. if same_name t task && (n == number) then label else p.subpools t n }

-- the picture with a subpool that its owner has
abbrev pub with_subpool : Label → Picture → Picture
with_subpool label p = with_entry label.owner label.number (Some label) p

-- the picture with another pool under the name, or without one
abbrev pub with_pool : Name → Option DrawnPool → Picture → Picture
with_pool name pool p = record p { pools = changed p.pools (λ n. same_name n name) pool }

-- whether a part begins at the address, and whether one has the doubleword
abbrev pub has_part_at : ℕ → DrawnPool → Bool
has_part_at a pool = list_any (λ part. part.place.addr == a) pool.parts

abbrev pub covered_by : DrawnPool → ℕ → Bool
covered_by pool d = list_any (λ part. covers part.place d) pool.parts

-- a part that a pool has, if it is a new one
abbrev pub with_part : Name → Part → Option DrawnPool → Picture → Picture
with_part name part None p = p
with_part name part (Some pool) p =
    if has_part_at part.place.addr pool then p
    else with_pool name (Some (record pool { parts = pool.parts ++ part ∷ [] })) (record p { held = changed p.held (covers part.place) (Some (record { label = pool.label; pooled = true })) })

-- the picture with a pool that has no part yet
abbrev pub with_new_pool : Name → Label → ℕ → Picture → Picture
with_new_pool name label size p = with_pool name (Some (record { label = label; cell_size = size; parts = []; taken = λ c. false })) (with_subpool label p)

-- a cell that is taken now, or is not
abbrev pub with_cell : ℕ → Bool → DrawnPool → DrawnPool
with_cell cell taken pool = record pool { taken = λ c. if c == cell then taken else pool.taken c }

-- the picture without a task, what it has and what it owns
abbrev pub ended : Name → Picture → Picture
ended task p =
    with_task task None (record (without (λ l. same_name l.owner task) p) { subpools = λ t n. kept (λ l. not (same_name t task || same_name l.owner task)) (p.subpools t n) })

-- the picture where an area is held by a subpool
abbrev pub with_area : PlaceValue → Label → Picture → Picture
with_area place label p = filled place (record (with_subpool label p) { held = changed p.held (covers place) (Some (record { label = label; pooled = false })) })

-- the picture where a name is set
abbrev pub with_name : Name → PlaceValue → Picture → Picture
with_name name place p = record p { names = changed p.names (λ n. same_name n name) (Some place) }

-- the picture where a task gives its subpool of a number to a subtask
abbrev pub with_gift : Name → ℕ → Name → Picture → Picture
with_gift task number mother p =
    with_subpool (record { number = number; owner = task }) (with_entry mother number None (relabelled (handed_over (record { number = number; owner = mother }) task) p))

-- what a line of change does that carries these bytes
abbrev pub replayed : (Change → List ℕ) → Picture → Change → Picture
replayed carries p (change.Step below above fill) = record blank { regions = record { below = below; above = above; fill = fill } }
replayed carries p (change.First name residence) = with_task name (Some (record { mother = None; residence = residence })) p
replayed carries p (change.Task name mother residence) = with_task name (Some (record { mother = Some mother; residence = residence })) p
replayed carries p (change.Given task number mother) = with_gift task number mother p
replayed carries p (change.Shared task held number owner) = with_entry task held (Some (record { number = number; owner = owner })) (with_subpool (record { number = number; owner = owner }) p)
replayed carries p (change.Take place number owner name) = with_name name place (with_area place (record { number = number; owner = owner }) p)
replayed carries p (change.Free place) = record p { held = changed p.held (covers place) None }
replayed carries p (change.Empty number owner) = without (same_label (record { number = number; owner = owner })) p
replayed carries p (change.Pool name number owner size) = with_new_pool name (record { number = number; owner = owner }) size p
replayed carries p (change.Part pool place cells) = with_part pool (record { place = place; count = cells }) (p.pools pool) p
replayed carries p (change.Cell pool place name) = with_name name place (filled place (with_pool pool (option_map (with_cell place.addr true) (p.pools pool)) p))
replayed carries p (change.Back pool cell) = with_pool pool (option_map (with_cell cell false) (p.pools pool)) p
replayed carries p (change.Delete pool) = with_pool pool None (record p { held = changed p.held (λ d. has (λ q. covered_by q d) (p.pools pool)) None })
replayed carries p (change.Return task) = ended task p
replayed carries p (change.Abend task) = ended task p
replayed carries p (change.Fall task other) = ended task p
replayed carries p (change.Write place) = written place (carries (change.Write place)) p
replayed carries p c = p

-- what lines of change do, one after another
abbrev pub replayed_all : (Change → List ℕ) → Picture → List Change → Picture
replayed_all carries p [] = p
replayed_all carries p (c ∷ cs) = replayed_all carries (replayed carries p c) cs

-- ---- that it shows the step

-- The label means the subpool: its owner has it under the number.
pub record Means (o : Owners) (l : Label) (s : ℕ) : Type 0 where
  pub owned : get o.owner s ≡ Some l.owner
  pub under : entry o l.owner l.number ≡ Some s

-- Both are there and fit, or neither is there.
abbrev pub Both : {X Y : Type 0} → (X → Y → Type 0) → Option X → Option Y → Type 0
Both fits None None = Unit {0}
Both fits (Some x) (Some y) = fits x y
Both fits _ _ = ⊥

-- The mark says what holds a doubleword, where labels mean subpools so.
pub record IsMark (means : Label → ℕ → Type 0) (m : Mark) (h : Holding) : Type 0 where
  pub label : means m.label h.subpool
  pub pooled : m.pooled ≡ h.pooled

-- The drawn pool is the pool, where labels mean subpools so.
pub record IsDrawn (means : Label → ℕ → Type 0) (drawn : DrawnPool) (pool : Pool) : Type 0 where
  pub label : means drawn.label pool.subpool
  pub cell_size : drawn.cell_size ≡ pool.cell_size
  pub parts : drawn.parts ≡ pool.parts
  pub taken : (c : ℕ) → drawn.taken c ≡ set.contains pool.taken c

-- At each address with a byte it is this one.
abbrev pub AreBytes : (ℕ → ℕ) → (ℕ → Option ℕ) → Type 0
AreBytes drawn bytes = (a b : ℕ) → bytes a ≡ Some b → drawn a ≡ b

-- The picture has just the regions, the held doublewords, the active tasks with what they have under numbers, the names that are set and
-- the pools of the step, and each byte that may be read, where labels mean subpools so.
pub record ShowsBy (means : Label → ℕ → Type 0) (p : Picture) (job : JobValue) : Type 0 where
  pub regions : p.regions ≡ job.state.regions
  pub held : (d : ℕ) → Both (IsMark means) (p.held d) (get job.state.held d)
  pub bytes : AreBytes p.bytes (get job.state.bytes)
  pub tasks : (t : Name) → p.tasks t ≡ get job.state.owners.tasks t
  pub subpools : (t : Name) (n : ℕ) → Both means (p.subpools t n) (entry job.state.owners t n)
  pub names : (n : Name) → p.names n ≡ get job.names n
  pub pools : (n : Name) → Both (IsDrawn means) (p.pools n) (get job.state.pools n)

-- The picture shows the step; before the first it is blank.
abbrev pub Shows : Picture → Option JobValue → Type 0
Shows p None = p ≡ blank
Shows p (Some job) = ShowsBy (Means job.state.owners) p job

-- ---- the law

-- A line was parsed as this; one with a fault, as anything.
abbrev pub IsReadAs : Option JobValue → List ℕ → Line → Type 0
IsReadAs old l read = LineOf (is_first old) l read ⊎ ((fault : Fault) × FaultOf (is_first old) l fault)

-- From a step and a picture, the lines from this number on may lead to a step, and their lines of change, replayed, to a picture.
abbrev pub Draws : ℕ → Option JobValue → Picture → List (List ℕ) → Option JobValue → Picture → Type 0
Draws number old before [] new after = (new ≡ old) × (after ≡ before)
Draws number old before (l ∷ lines) new after =
    (read : Line) × (events : List Event) × (mid : Option JobValue)
    × IsReadAs old l read × ServesLine machine number old l events mid
    × Draws (number + 1) mid (replayed_all (carried mid) before (changes_of read events mid)) lines new after

-- The lines of each run draw a picture, from a blank one on.
abbrev pub EachIsDrawn : Type 0
EachIsDrawn = (lines : List (List ℕ)) (events : List Event) (step : Option JobValue) → Leads machine 1 None lines events step → (picture : Picture) × Draws 1 None blank lines step picture

-- What they draw, applied to a blank picture, is a picture of the step after them.
abbrev pub ChangesDraw : Type 0
ChangesDraw = (lines : List (List ℕ)) (step : Option JobValue) (picture : Picture) → Draws 1 None blank lines step picture → Shows picture step
