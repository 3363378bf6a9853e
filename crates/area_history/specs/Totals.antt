-- Totals of areas by subpool, and by task.
use Rattle.std.specs.Prelude.{ℕ, ◌+◌, ◌*◌, ◌^◌, ◌<◌, ◌≤◌, ◌==◌, ◌&&◌, Bool, true, false, List, [], ◌∷◌, if◌then◌else◌}
use Rattle.std.specs.List.{AllByRecursion}
use Rattle.mvs_model.specs.Name.{same_name}
use Rattle.area_history.specs.declared.grant.AreaGrant.{AreaGrant}
use Rattle.area_history.specs.declared.grant.Leak.{Leak}
use Rattle.area_history.specs.declared.totals.Group.{Group}
use Rattle.area_history.specs.declared.totals.Group.TheVariants.{Subpool, Task}
use Rattle.area_history.specs.declared.totals.Total.{Total}

-- the subpool of an area
abbrev pub group_of_subpool : AreaGrant → Group
group_of_subpool g = Subpool g.subpool g.owner

-- the task that obtained it
abbrev pub group_of_task : AreaGrant → Group
group_of_task g = Task g.task

-- whether two groups are the same
abbrev pub same_group : Group → Group → Bool
same_group (Subpool number owner) (Subpool of_other other) = (number == of_other) && same_name owner other
same_group (Subpool number owner) (Task other) = false
same_group (Task task) (Subpool of_other other) = false
same_group (Task task) (Task other) = same_name task other

-- a total with one area more
abbrev pub grown : Total → ℕ → Total
grown t bytes = record { group = t.group; count = t.count + 1; bytes = t.bytes + bytes }

-- the total of one area
abbrev pub new_total : Group → ℕ → Total
new_total group bytes = record { group = group; count = 1; bytes = bytes }

-- the totals with one area more of a group
abbrev pub added : Group → ℕ → List Total → List Total
added group bytes [] = new_total group bytes ∷ []
added group bytes (t ∷ totals) = if same_group group t.group then grown t bytes ∷ totals else t ∷ added group bytes totals

-- the totals of areas by their subpools, in the order of the last area of each
abbrev pub by_subpool : List Leak → List Total
by_subpool [] = []
by_subpool (l ∷ leaks) = added (group_of_subpool l.grant) l.bytes (by_subpool leaks)

-- the totals by the tasks that obtained them
abbrev pub by_task : List Leak → List Total
by_task [] = []
by_task (l ∷ leaks) = added (group_of_task l.grant) l.bytes (by_task leaks)

-- ---- what calls do

-- There is room for one more area in each total.
abbrev pub HaveRoom : ℕ → List Total → Type 0
HaveRoom bytes totals = AllByRecursion (λ t. (t.count + 1 < 2 ^ 64) × (t.bytes + bytes < 2 ^ 128)) totals

-- Each total is of at most this number of areas, each of at most 2 GB.
abbrev pub AreWithin : ℕ → List Total → Type 0
AreWithin count totals = AllByRecursion (λ t. (t.count ≤ count) × (t.bytes ≤ 2 ^ 31 * count)) totals
