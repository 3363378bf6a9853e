-- What is found of an output: whether it is the printing of some run of a script.
use Rattle.std.specs.Prelude.{◌≡◌, ◌≢◌, ◌⊎◌, ℕ, ◌-◌, Bool, true, false, List, [], ◌∷◌, ◌++◌, length, Option, Some, slice_get}
use Rattle.std.specs.List.{AllByRecursion}
use Rattle.mvs_model.specs.declared.code.Form.{Form}
use Rattle.mvs_model.specs.declared.line.Line.{Line}
use Rattle.mvs_model.specs.declared.line.Line.TheVariants as line
use Rattle.mvs_model.specs.declared.line.Statement.TheVariants as says
use Rattle.mvs_model.specs.declared.line.SourceRequest.{SourceRequest}
use Rattle.mvs_model.specs.declared.line.SourceRequest.TheVariants as written
use Rattle.mvs_model.specs.declared.name.Name.{Name}
use Rattle.mvs_model.specs.declared.outcome.Outcome.{Outcome}
use Rattle.mvs_model.specs.Answers.{Abended, Answer, Event, Rc0, Rc4}
use Rattle.mvs_model.specs.declared.code.Family.{Family}
use Rattle.mvs_model.specs.Codes.{short}
use Rattle.mvs_laws.specs.Going.{Reaches}
use Rattle.mvs_model.specs.Job.{JobValue}
use Rattle.mvs_model.specs.Lines.{lines_of}
use Rattle.mvs_model.specs.Reading.{LineOf}
use Rattle.mvs_model.specs.Runs.{IsPrinting, machine}
use Rattle.mvs_model.specs.Texts.{answer_text, printing}
use Rattle.mvs_model.specs.Walk.{ServesLine, is_first}
use Rattle.mvs_model.specs.Want.{AskValue}
use Rattle.judge.specs.declared.Finding.{Finding}
use Rattle.judge.specs.declared.Finding.TheVariants.{Accepted, Refused, Undecided}

-- The text is the printing of no run of the script, however it may end.
abbrev pub IsNoPrinting : List ℕ → List ℕ → Type 0
IsNoPrinting script text = (outcome : Outcome) → IsPrinting script text outcome → ⊥

-- whether a request may be granted places: areas, the parts of a pool, or a cell
abbrev pub may_grant : SourceRequest → Bool
may_grant (written.Obtain form number ask variable area) = true
may_grant (written.ObtainList form number lengths start areas) = true
may_grant (written.Build pool number size primary secondary loc) = true
may_grant (written.Get pool conditional cell) = true
may_grant (written.Release form number location len) = false
may_grant (written.ReleaseArea form number area) = false
may_grant (written.ReleaseList form number locations lengths) = false
may_grant (written.ReleaseWhole form number) = false
may_grant (written.Free pool cell) = false
may_grant (written.Delete pool) = false
may_grant (written.Attach name gifts residence) = false
may_grant written.Return = false
may_grant (written.Abend code) = false
may_grant (written.Show location len) = false
may_grant (written.Put location bytes) = false
may_grant (written.Move to from len) = false

-- a statement can be granted no place
abbrev pub leaves_open : Line → Bool
leaves_open (line.Statement t (says.Request a)) = may_grant a
leaves_open (line.Statement t (says.Region below above fill residence)) = false
leaves_open (line.Statement t (says.Where name)) = false
leaves_open (line.Statement t says.ReportSubpools) = false
leaves_open (line.Statement t says.ReportMap) = false
leaves_open line.Nothing = false

-- The line is a request of a task for one area, variable or not, which sets a name.
abbrev pub AsksArea : Line → Name → Name → Bool → Type 0
AsksArea l task area variable = (form : Form) × (number : ℕ) × (ask : AskValue) × (l ≡ line.Statement task (says.Request (written.Obtain form number ask variable area)))

-- No two of the names are the same.
abbrev pub AreApart : List Name → Type 0
AreApart [] = Unit {0}
AreApart (area ∷ areas) = AllByRecursion (λ other. area ≢ other) areas × AreApart areas

-- The line is a request of a task for a list of areas, which sets a name for each of them.
abbrev pub AsksList : Line → Name → List Name → Type 0
AsksList l task areas =
    (form : Form) × (number : ℕ) × (lengths : List ℕ) × (start : ℕ)
    × (l ≡ line.Statement task (says.Request (written.ObtainList form number lengths start areas))) × (length lengths ≡ length areas) × AreApart areas

-- The line is a WHERE of the task for the name.
abbrev pub IsQuestion : List ℕ → Name → Name → Type 0
IsQuestion bytes task area = LineOf false bytes (line.Statement task (says.Where area))

-- The first of the lines are WHERE statements of the task for the names, in order.
abbrev pub AskEach : List (List ℕ) → Name → List Name → Type 0
AskEach lines task [] = Unit {0}
AskEach [] task (area ∷ areas) = ⊥
AskEach (question ∷ lines) task (area ∷ areas) = IsQuestion question task area × AskEach lines task areas

-- The line is a request for one area, and the next line is its WHERE.
abbrev pub AreaIsShown : Line → List (List ℕ) → Type 0
AreaIsShown l [] = ⊥
AreaIsShown l (question ∷ lines) = (task : Name) × (area : Name) × (variable : Bool) × AsksArea l task area variable × IsQuestion question task area

-- The line is a request for a list, and the next lines are the WHERE statements for its areas.
abbrev pub ListIsShown : Line → List (List ℕ) → Type 0
ListIsShown l lines = (task : Name) × (areas : List Name) × AsksList l task areas × AskEach lines task areas

-- The lines after a line show what it is granted.
abbrev pub GrantIsShown : Line → List (List ℕ) → Type 0
GrantIsShown l lines = AreaIsShown l lines ⊎ ListIsShown l lines

-- The line is a request for a list.
abbrev pub IsForList : Line → Type 0
IsForList l = (task : Name) × (areas : List Name) × AsksList l task areas

-- A list is answered so where it is granted, or refused for want of places.
abbrev pub AnswersList : Answer → Type 0
AnswersList answer = (answer ≡ Rc0) ⊎ ((answer ≡ Rc4) ⊎ ((f : Family) × (fallen : List Name) × (answer ≡ Abended (short f) fallen)))

-- A text begins with such an answer to a line of this number of a task.
abbrev pub BeginsAnswered : ℕ → Name → List ℕ → Type 0
BeginsAnswered number task text = (answer : Answer) × AnswersList answer × (more : List ℕ) × (text ≡ answer_text number task answer ++ more)

-- The line with this number is a request for a list for which some run has another answer than a text; and the text continues with
-- an answer that a list can have.
abbrev pub MayDiffer : ℕ → Option JobValue → List ℕ → Line → List ℕ → Type 0
MayDiffer number step bytes l rest =
    (list : IsForList l) × (events : List Event) × (new : Option JobValue) × ServesLine machine number step bytes events new × ((more : List ℕ) → rest ≡ printing events ++ more → ⊥) × BeginsAnswered number list.0 rest

-- The first of the lines, which has this number, may be granted places that the next lines do not show; or it is a list, which may
-- have another answer than a text.
abbrev pub IsOpen : ℕ → Option JobValue → List (List ℕ) → List ℕ → Type 0
IsOpen number step [] rest = ⊥
IsOpen number step (bytes ∷ lines) rest = (l : Line) × LineOf (is_first step) bytes l × (leaves_open l ≡ true) × (GrantIsShown l lines → MayDiffer number step bytes l rest)

-- For each of the first lines that may be granted places, the next line shows them, up to those that are left.
abbrev pub GrantsAreShownBefore : List (List ℕ) → List (List ℕ) → Type 0
GrantsAreShownBefore [] left = Unit {0}
GrantsAreShownBefore (bytes ∷ lines) left = ((l : Line) → LineOf false bytes l → leaves_open l ≡ true → GrantIsShown l (lines ++ left)) × GrantsAreShownBefore lines left

-- for all lines
abbrev pub GrantsAreShown : List (List ℕ) → Type 0
GrantsAreShown lines = GrantsAreShownBefore lines []

-- The line of this number is a request for a list.
abbrev pub IsListAt : List (List ℕ) → ℕ → Type 0
IsListAt lines number = (bytes : List ℕ) × (slice_get lines (number - 1) ≡ Some bytes) × (l : Line) × LineOf false bytes l × IsForList l

-- A run of the script prints what the output begins with, up to the line of this number, which is the first that is open.
abbrev pub IsOpenAt : List ℕ → List ℕ → ℕ → Type 0
IsOpenAt script output number =
    (events : List Event) × (step : Option JobValue) × (left : List (List ℕ)) × (rest : List ℕ)
    × (reached : Reaches (lines_of script) events number step left) × (output ≡ printing events ++ rest) × GrantsAreShownBefore reached.served left × IsOpen number step left rest

-- A run prints what the output begins with, up to the line of this number, the first that is open; another text begins with it too.
abbrev pub IsOpenIn : List ℕ → List ℕ → List ℕ → ℕ → Type 0
IsOpenIn script output text number = (open_at : IsOpenAt script output number) × (more : List ℕ) × (text ≡ printing open_at.0 ++ more)

-- What a finding says of an output, when it is compared with a run that prints this text and ends so: it is the printing of this run, or
-- of none, or it may depend on places that a line is granted, up to which this run prints the same.
abbrev pub IsFound : List ℕ → List ℕ → List ℕ → Outcome → Finding → Type 0
IsFound script output text outcome Accepted = IsPrinting script output outcome
IsFound script output text outcome Refused = IsNoPrinting script output
IsFound script output text outcome (Undecided number) = IsOpenIn script output text number
