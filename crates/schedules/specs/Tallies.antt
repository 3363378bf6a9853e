-- The table of the answers that occur in some schedules.
use Rattle.std.specs.Prelude.{◌≡◌, ◌+◌, Bool, List, [], ◌∷◌, ◌++◌, map, length, count_by, find, Some, if◌then◌else◌}
use Rattle.std.specs.List.{list_any, AllByRecursion}
use Rattle.schedules.specs.declared.tally.Row.{Row}
use Rattle.schedules.specs.declared.tally.Tally.{Tally}
use Rattle.schedules.specs.Answered.{AnsweredValue, Schedule, gives, order_of, same}
use Rattle.schedules.specs.Outcomes.{count_outcomes}

-- some answers, and after them those of a schedule that are not among them
abbrev pub with_new : List AnsweredValue → Schedule → List AnsweredValue
with_new seen [] = seen
with_new seen (a ∷ schedule) = with_new (if list_any (same a) seen then seen else seen ++ a ∷ []) schedule

-- some answers, and after them those that occur in some schedules, each once, where it occurs first
abbrev pub with_all_new : List AnsweredValue → List Schedule → List AnsweredValue
with_all_new seen [] = seen
with_all_new seen (schedule ∷ schedules) = with_all_new (with_new seen schedule) schedules

-- the answers that occur
abbrev pub answers_in : List Schedule → List AnsweredValue
answers_in schedules = with_all_new [] schedules

-- The row of an answer: how many of the schedules give it, and the order of the first of these.
pub record IsRow (schedules : List Schedule) (r : Row) : Type 0 where
  pub count : r.count ≡ count_by (gives r.answer) schedules
  pub witness : Schedule
  pub found : find (gives r.answer) schedules ≡ Some witness
  pub first : r.first.items ≡ order_of witness

-- the answers of rows
abbrev pub answers_of : List Row → List AnsweredValue
answers_of rows = map (λ r. r.answer) rows

-- The table has the number of the schedules, that of their outcomes, and a row for each answer that occurs, in the order in which they
-- first occur.
pub record IsTally (schedules : List Schedule) (t : Tally) : Type 0 where
  pub counted : t.schedules ≡ length schedules
  pub outcomes : t.outcomes ≡ count_outcomes [] schedules
  pub answers : answers_of t.rows.items ≡ answers_in schedules
  pub rows : AllByRecursion (IsRow schedules) t.rows.items

-- whether one of some rows is of this answer
abbrev pub has_row : List Row → AnsweredValue → Bool
has_row rows a = list_any (λ r. same a r.answer) rows

-- a row after one more schedule
abbrev pub counted : Schedule → Row → Row
counted schedule r = if gives r.answer schedule then record r { count = r.count + 1 } else r
