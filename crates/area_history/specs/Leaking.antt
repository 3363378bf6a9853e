-- What is left of areas in a step.
use Rattle.std.specs.Prelude.{◌≡◌, ℕ, ◌+◌, ◌-◌, ◌*◌, ◌/◌, ◌==◌, ◌&&◌, nat_le, nat_lt, Bool, true, false, not, List, [], ◌∷◌, ◌++◌, length, take, slice_index_or, if◌then◌else◌}
use Rattle.std.specs.List.{list_any, AllByRecursion}
use Rattle.mvs_model.specs.Finite.{count_below}
use Rattle.mvs_model.specs.Place.{PlaceValue}
use Rattle.area_history.specs.declared.by_doubleword.ByDoubleword.{ByDoubleword}
use Rattle.area_history.specs.declared.grant.AreaGrant.{AreaGrant}
use Rattle.area_history.specs.declared.grant.Leak.{Leak}
use Rattle.area_history.specs.declared.grant.Selection.{Selection}
use Rattle.area_history.specs.declared.grant.EndedTask.{EndedTask}
use Rattle.area_history.specs.declared.grant.Selection.TheVariants.{All, EndedWith, Below}
use Rattle.area_history.specs.declared.largest.Leaks.{Leaks}
use Rattle.area_history.specs.Totals.{by_subpool, by_task}
use Rattle.mvs_model.specs.Name.{same_name}
use Rattle.mvs_model.specs.Numbers.{above_begins}

-- whether a task obtained an area since it was attached
abbrev pub has_obtained : EndedTask → AreaGrant → Bool
has_obtained e g = same_name e.task g.task && nat_lt e.start.line g.line

-- whether an area is looked at
abbrev pub selects : Selection → AreaGrant → Bool
selects All g = true
selects (EndedWith tasks) g = list_any (λ e. has_obtained e g) tasks
selects Below g = nat_lt g.place.addr above_begins

-- whether a place has a doubleword
abbrev pub has_doubleword : PlaceValue → ℕ → Bool
has_doubleword p d = nat_le (p.addr / 8) d && nat_lt d (p.addr / 8 + p.len / 8)

-- whether one of some areas has a doubleword
abbrev pub is_covered : List AreaGrant → ℕ → Bool
is_covered grants d = list_any (λ g. has_doubleword g.place d) grants

-- whether a doubleword is left, after which later areas were granted: it is held, and no later area has it
abbrev pub is_left : (ℕ → Bool) → List AreaGrant → ℕ → Bool
is_left plain later d = plain d && not (is_covered later d)

-- how many bytes are left of an area
abbrev pub bytes_left : (ℕ → Bool) → List AreaGrant → AreaGrant → ℕ
bytes_left plain later g = 8 * count_below (g.place.len / 8) (λ k. is_left plain later (g.place.addr / 8 + k))

-- the area, if bytes of it are left
abbrev pub leak_of : AreaGrant → ℕ → List Leak
leak_of g n = if n == 0 then [] else record { grant = g; bytes = n } ∷ []

-- the selected areas that are not wholly released, in the order in which they were granted
abbrev pub leaks : (AreaGrant → Bool) → (ℕ → Bool) → List AreaGrant → List Leak
leaks selected plain [] = []
leaks selected plain (g ∷ later) = leak_of g (if selected g then bytes_left plain later g else 0) ++ leaks selected plain later

-- a list with one more leak, before the first one that is not larger
abbrev pub ahead : Leak → List Leak → List Leak
ahead x [] = x ∷ []
ahead x (y ∷ ys) = if nat_le y.bytes x.bytes then x ∷ y ∷ ys else y ∷ ahead x ys

-- the largest first; equal ones in their order
abbrev pub ranked : List Leak → List Leak
ranked [] = []
ranked (x ∷ xs) = ahead x (ranked xs)

-- how many bytes are left in all
abbrev pub total : List Leak → ℕ
total [] = 0
total (l ∷ ls) = l.bytes + total ls

-- the ten largest leaks, how many there are, how many bytes they have together, and the totals of the first ten subpools and tasks
abbrev pub summary : List Leak → Leaks
summary ls = record { largest = take 10 (ranked ls); count = length ls; bytes = total ls; subpools = take 10 (by_subpool ls); tasks = take 10 (by_task ls) }

-- ---- what calls do

-- the value of a doubleword, or a filler if there is none
abbrev pub value_at : {T : Type 0} → ByDoubleword T → T → ℕ → T
value_at values filler d = if nat_lt d 2097152 then slice_index_or values.below d filler else slice_index_or values.above (d - 2097152) filler

-- whether there is room for the value of a doubleword
abbrev pub has_room : {T : Type 0} → ByDoubleword T → ℕ → Bool
has_room values d = if nat_lt d 2097152 then nat_lt d (length values.below) else nat_lt (d - 2097152) (length values.above)

-- There is room for the values of a place.
abbrev pub HasRoom : {T : Type 0} → ByDoubleword T → PlaceValue → Type 0
HasRoom values p = (d : ℕ) → has_doubleword p d ≡ true → has_room values d ≡ true

-- marks on doublewords
abbrev pub Marks : Type 0
Marks = ByDoubleword Bool

-- whether a doubleword is marked
abbrev pub is_marked : Marks → ℕ → Bool
is_marked marks d = value_at marks false d

-- No doubleword is marked.
abbrev pub IsClear : Marks → Type 0
IsClear marks = (d : ℕ) → is_marked marks d ≡ false

-- There is room for the marks of each of the areas.
abbrev pub Fit : Marks → List AreaGrant → Type 0
Fit marks grants = AllByRecursion (λ g. HasRoom marks g.place) grants
