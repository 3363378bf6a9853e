-- Whether, where and how a script faults is decided by its lines.
use Rattle.std.proofs.Common.{◌≡◌, ◌≢◌, ℕ, ◌+◌, ◌&&◌, ◌||◌, inl, inr, Bool, true, false, List, [], ◌∷◌, ◌++◌, append_assoc, Option, Some, None, sym, ap, ◌∙◌, subst, not, if◌then◌else◌, arith}
use Rattle.std.proofs.lemmas.Bool.Decides.{nat_tests}
use Rattle.std.proofs.lemmas.Grind.{common_steps}
use Rattle.mvs_laws.proofs.Types.{Fault, OutOfPlace, Line, Statement, Name, Outcome, Clean, SomeAbend, ScriptFault}
use Rattle.mvs_model.specs.declared.line.Line.TheVariants as line
use Rattle.mvs_model.specs.Lines.{lines_of}
use Rattle.mvs_model.specs.Grammar.{Row}
use Rattle.mvs_model.specs.Reading.{◌>>=◌, form_in, line_meaning, operands_of, operation_in, row_of, is_blank_or_comment, task_in}
use Rattle.mvs_model.specs.Answers.{Event, Faulted}
use Rattle.mvs_model.specs.Job.{JobValue}
use Rattle.mvs_model.specs.Walk.{is_first, Serves, ServesLine, Closes, Walks, JobEnds}
use Rattle.mvs_model.specs.Runs.{machine}
use Rattle.mvs_laws.specs.Laws.{fault_at, first_fault, EndsIn, SameFault}
use Rattle.mvs_model.proofs.Reading.{said_with}
use Rattle.mvs_laws.proofs.Walking.{served_first, served_in}

-- what a line says that says something is a statement
abbrev is_statement : Line → Bool
is_statement line.Nothing = false
is_statement (line.Statement t s) = true

bound_says : (t : Name) (o : Option Statement) (l : Line) → (o >>= λ s. Some (line.Statement t s)) ≡ Some l → is_statement l ≡ true
bound_says t o l h1 = grind (arith, nat_tests)

with_says : (task form : List ℕ) (operands : List (List ℕ)) (o : Option Row) (l : Line) → said_with task form operands o ≡ Some l → is_statement l ≡ true
with_says task form operands o l h1 = grind (arith, nat_tests, bound_says)

kind_said : (bytes : List ℕ) (l : Line) → line_meaning bytes ≡ Some l → is_blank_or_comment bytes ≡ not (is_statement l)
kind_said bytes l e = at (is_blank_or_comment bytes) e where
  at : (b : Bool) → (if b then Some line.Nothing else said_with (task_in bytes) (form_in (operation_in bytes) (operands_of bytes)) (operands_of bytes) (row_of (operation_in bytes) (operands_of bytes))) ≡ Some l → b ≡ not (is_statement l)
  at true f = ap (λ k. not (is_statement k)) (let g : line.Nothing ≡ l = cc in g)
  at false f = ap not (sym (with_says (task_in bytes) (form_in (operation_in bytes) (operands_of bytes)) (operands_of bytes) (row_of (operation_in bytes) (operands_of bytes)) l f))

-- after a line no statement came before where none did and the line says nothing
serves_first : (number : ℕ) (old : Option JobValue) (l : Line) (events : List Event) (new : Option JobValue) → Serves machine number old l events new → is_first new ≡ (is_first old && not (is_statement l))
serves_first number old l events new h1 = grind (arith, nat_tests, served_first, served_in)

line_first : (number : ℕ) (old : Option JobValue) (l : List ℕ) (events : List Event) (new : Option JobValue) → ServesLine machine number old l events new → (is_first old && is_blank_or_comment l) ≡ is_first new
line_first number old l events new h = ap (λ b. is_first old && b) (kind_said l h.0 h.1.says) ∙ sym (serves_first number old h.0 events new h.2)

-- the end of the lines
ends_so : (job : JobValue) (outcome : Outcome) → outcome ≡ (if job.abended || job.former then SomeAbend else Clean) → outcome ≢ ScriptFault
ends_so job outcome h1 = grind (arith, common_steps)

closes_so : (number : ℕ) (old : Option JobValue) (events : List Event) (outcome : Outcome) → Closes machine number old events outcome → EndsIn (if is_first old then Some (number, OutOfPlace) else None) events outcome
closes_so number old events outcome h1 = grind (arith, nat_tests, ends_so)

-- more events in front
in_front_of : (o : Option (ℕ × Fault)) (first rest events : List Event) (outcome : Outcome) → events ≡ first ++ rest → EndsIn o rest outcome → EndsIn o events outcome
in_front_of None first rest events outcome e h = h
in_front_of (Some (number, fault)) first rest events outcome e h = (h.0, (first ++ h.1.0, e ∙ ap (λ t. first ++ t) h.1.1 ∙ sym (append_assoc first h.1.0 (Faulted number fault ∷ []))))

so_from : (number : ℕ) (lines : List (List ℕ)) (old : Option JobValue) (events : List Event) (outcome : Outcome) → Walks machine (JobEnds machine outcome) number old lines events → EndsIn (first_fault number (is_first old) lines) events outcome
so_from number [] old events outcome h = closes_so number old events outcome h
so_from number (l ∷ lines) old events outcome (inl (f, e)) =
    subst (λ o. EndsIn (fault_at number o (first_fault (number + 1) (is_first old && is_blank_or_comment l) lines)) events outcome) (sym f.1) (e, ([], f.2))
so_from number (l ∷ lines) old events outcome (inr (mid, first, rest, serves, whole, more)) =
    subst (λ o. EndsIn (fault_at number o (first_fault (number + 1) (is_first old && is_blank_or_comment l) lines)) events outcome) (sym serves.1.no_fault)
    (subst (λ b. EndsIn (first_fault (number + 1) b lines) events outcome) (sym (line_first number old l first mid serves))
    (in_front_of (first_fault (number + 1) (is_first mid) lines) first rest events outcome whole (so_from (number + 1) lines mid rest outcome more)))

pub same_fault : SameFault
same_fault script events outcome h = so_from 1 (lines_of script) None events outcome h
