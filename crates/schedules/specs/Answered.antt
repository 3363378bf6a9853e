-- The answer to a statement in a schedule.
use Rattle.std.specs.Prelude.{refl, ℕ, ◌==◌, ◌&&◌, Bool, List, map, bytes_eq}
use Rattle.std.specs.Coded.{Coded, code_by, coded×, coded_ℕ, coded_list}
use Rattle.std.specs.List.{list_any}

-- A statement, by the number of its line, and the text of its answer: none if it is not reached.
pub record AnsweredValue : Type 0 where
  pub line : ℕ
  pub text : List ℕ

-- a code, for a model's value
abbrev pub answered_code : Coded AnsweredValue
answered_code = code_by (ℕ × List ℕ) (coded× coded_ℕ (coded_list coded_ℕ)) (λ a. (a.line, a.text)) (λ p. record { line = p.0; text = p.1 }) (λ _. refl)

-- A schedule: the statements of a step with their answers, in the order in which they run, and then those that are not reached.
abbrev pub Schedule : Type 0
Schedule = List AnsweredValue

-- whether two are the same answer to the same statement
abbrev pub same : AnsweredValue → AnsweredValue → Bool
same a b = (a.line == b.line) && bytes_eq a.text b.text

-- whether a schedule gives this answer
abbrev pub gives : AnsweredValue → Schedule → Bool
gives a schedule = list_any (same a) schedule

-- the lines of a schedule, in its order
abbrev pub order_of : Schedule → List ℕ
order_of schedule = map (λ a. a.line) schedule
