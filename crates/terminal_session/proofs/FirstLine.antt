-- Whether no statement came before a line, by the lines of the job.
use Rattle.std.proofs.Common.{◌≡◌, ℕ, ◌+◌, ◌&&◌, Bool, true, false, if◌then◌else◌, List, [], ◌∷◌, Option, Some, None, inl, inr, refl, sym, ap, ◌∙◌, arith}
use Rattle.std.proofs.lemmas.Bool.Decides.{nat_tests}
use Rattle.mvs_model.specs.declared.line.Line.{Line}
use Rattle.mvs_model.specs.declared.line.Line.TheVariants as line
use Rattle.mvs_model.specs.declared.line.Statement.{Statement}
use Rattle.mvs_model.specs.declared.line.Statement.TheVariants as says
use Rattle.mvs_model.specs.declared.name.Name.{Name}
use Rattle.mvs_model.specs.Answers.{Event}
use Rattle.mvs_model.specs.Grammar.{Row}
use Rattle.mvs_model.specs.Job.{JobValue}
use Rattle.mvs_model.specs.Reading.{◌>>=◌, form_in, is_blank_or_comment, line_meaning, operands_of, operation_in, row_of, task_in}
use Rattle.mvs_model.specs.Runs.{machine}
use Rattle.mvs_model.specs.Walk.{Serves, is_first}
use Rattle.mvs_model.proofs.Reading.{said_with}
use Rattle.mvs_job.specs.Trace.{Arrives, Entry, Traces}
use Rattle.shell.specs.Scripts.{are_blank}

-- whether a line says nothing
abbrev says_nothing : Line → Bool
says_nothing line.Nothing = true
says_nothing (line.Statement t s) = false

statement_says : (t : Name) (o : Option Statement) (l : Line) → (o >>= λ s. Some (line.Statement t s)) ≡ Some l → says_nothing l ≡ false
statement_says t None l e = absurd (let f : None ≡ Some l = e in cc)
statement_says t (Some s) l e = ap says_nothing (let f : l ≡ line.Statement t s = cc in f)

row_says : (task form : List ℕ) (operands : List (List ℕ)) (o : Option Row) (l : Line) → said_with task form operands o ≡ Some l → says_nothing l ≡ false
row_says task form operands o l h1 = grind (arith, nat_tests, statement_says)

blank_says : (bytes : List ℕ) (l : Line) → line_meaning bytes ≡ Some l → is_blank_or_comment bytes ≡ says_nothing l
blank_says bytes l e = at (is_blank_or_comment bytes) e where
  at : (b : Bool) → (if b then Some line.Nothing else said_with (task_in bytes) (form_in (operation_in bytes) (operands_of bytes)) (operands_of bytes) (row_of (operation_in bytes) (operands_of bytes))) ≡ Some l → b ≡ says_nothing l
  at true f = ap says_nothing (let g : line.Nothing ≡ l = cc in g)
  at false f = sym (row_says (task_in bytes) (form_in (operation_in bytes) (operands_of bytes)) (operands_of bytes) (row_of (operation_in bytes) (operands_of bytes)) l f)

-- after a line no statement came before where none did and the line says nothing
line_first : (number : ℕ) (old : Option JobValue) (l : Line) (events : List Event) (new : Option JobValue) → Serves machine number old l events new → is_first new ≡ (is_first old && says_nothing l)
line_first number None line.Nothing events new (none, same) = ap is_first same
line_first number (Some step) line.Nothing events new (none, same) = ap is_first same
line_first number None (line.Statement t (says.Region below above fill residence)) events new (is, begun) = ap is_first begun
line_first number (Some step) (line.Statement t (says.Region below above fill residence)) events new (is, begun) = ap is_first begun
line_first number None (line.Statement t (says.Request a)) events new h = absurd h
line_first number None (line.Statement t (says.Where name)) events new h = absurd h
line_first number None (line.Statement t says.ReportSubpools) events new h = absurd h
line_first number None (line.Statement t says.ReportMap) events new h = absurd h
line_first number (Some step) (line.Statement t (says.Request a)) events new (answer, later, does, is, same) = ap is_first same
line_first number (Some step) (line.Statement t (says.Where name)) events new (answer, later, does, is, same) = ap is_first same
line_first number (Some step) (line.Statement t says.ReportSubpools) events new (answer, later, does, is, same) = ap is_first same
line_first number (Some step) (line.Statement t says.ReportMap) events new (answer, later, does, is, same) = ap is_first same

and_none : (a : Bool) → a ≡ (a && true)
and_none true = refl
and_none false = refl

and_nested : (a b c : Bool) → ((a && b) && c) ≡ (a && (b && c))
and_nested true b c = refl
and_nested false b c = refl

-- after some lines, where none of them is a statement
pub lines_first : (new : Option JobValue) (number : ℕ) (old : Option JobValue) (lines : List (List ℕ)) (entries : List Entry) → Traces (Arrives new) number old lines entries → is_first new ≡ (is_first old && are_blank lines)
lines_first new number old [] entries (none, same) = ap is_first same ∙ and_none (is_first old)
lines_first new number old (l ∷ lines) entries (inl h) = absurd h
lines_first new number old (l ∷ lines) entries (inr (e, rest, (said, events, after, of, serves, is), same, t)) =
    let here : is_first e.after ≡ (is_first old && is_blank_or_comment l) = ap (λ (e : Entry). is_first e.after) is ∙ line_first number old said events after serves ∙ ap (λ b. is_first old && b) (sym (blank_says l said of.says)) in
    lines_first new (number + 1) e.after lines rest t ∙ ap (λ b. b && are_blank lines) here ∙ and_nested (is_first old) (is_blank_or_comment l) (are_blank lines)
