-- A table that is filled: the rows that are added for a schedule, and the outcomes that the schedules have.
use Rattle.std.specs.Prelude.{◌≡◌, ℕ, ◌+◌, Bool, true, false, List, [], ◌∷◌, ◌++◌, if◌then◌else◌, nat_eq}
use Rattle.std.specs.List.{AllByRecursion, list_any}
use Rattle.std.specs.Cmp.Lexicographic.{pointwise}
use Rattle.schedules.specs.declared.outcomes.Outcomes.{Outcomes}
use Rattle.schedules.specs.declared.tally.Row.{Row}
use Rattle.schedules.specs.declared.tally.Tally.{Tally}
use Rattle.schedules.specs.Answered.{AnsweredValue, Schedule, gives, order_of}
use Rattle.schedules.specs.Tallies.{IsTally, answers_of, has_row, with_new}

-- The row is of an answer that a schedule is the first to give.
pub record IsNewRow (schedule : Schedule) (a : AnsweredValue) (r : Row) : Type 0 where
  pub answer : r.answer ≡ a
  pub count : r.count ≡ 1
  pub first : r.first.items ≡ order_of schedule

-- A row for an answer of a schedule that no row had.
pub record IsAdded (schedule : Schedule) (old : List Row) (r : Row) : Type 0 where
  pub row : IsNewRow schedule r.answer r
  pub given : gives r.answer schedule ≡ true
  pub lacked : has_row old r.answer ≡ false

-- A row is added for each of these answers of a schedule that has none.
pub record Fills (schedule seen : Schedule) (old new : List Row) : Type 0 where
  pub added : List Row
  pub rows : new ≡ old ++ added
  pub answers : answers_of new ≡ with_new (answers_of old) seen
  pub each : AllByRecursion (IsAdded schedule old) added

-- The outcome of a schedule as numbers: the indices of the rows of its answers. The first of these rows has index n.
abbrev pub outcome_from : ℕ → List Row → Schedule → List ℕ
outcome_from n [] schedule = []
outcome_from n (r ∷ rows) schedule = if gives r.answer schedule then n ∷ outcome_from (n + 1) rows schedule else outcome_from (n + 1) rows schedule

-- whether an outcome is among some
abbrev pub has_outcome : Outcomes → List ℕ → Bool
has_outcome outcomes outcome = list_any (λ v. pointwise nat_eq outcome v.items) outcomes.found.keys

-- These are the outcomes of the schedules, by these rows.
abbrev pub HasOutcomes : List Row → List Schedule → Outcomes → Type 0
HasOutcomes rows schedules outcomes = (outcome : List ℕ) → has_outcome outcomes outcome ≡ list_any (λ s. pointwise nat_eq outcome (outcome_from 0 rows s)) schedules

-- The table is that of the schedules, and these are their outcomes.
pub record IsFilled (schedules : List Schedule) (t : Tally) (outcomes : Outcomes) : Type 0 where
  pub tally : IsTally schedules t
  pub has : HasOutcomes t.rows.items schedules outcomes
