-- What the first lines of a script decide of a text that a run may print from there on.
use Rattle.std.specs.Prelude.{◌≡◌, ◌≤◌, ◌<◌, ◌^◌, ℕ, ◌+◌, Bool, true, false, List, [], ◌∷◌, ◌++◌, drop, length, take, Option, Some, None, Result}
use Rattle.mvs_model.specs.declared.line.Line.{Line}
use Rattle.mvs_model.specs.declared.line.Fault.{Fault}
use Rattle.job_script.specs.LineMeaning.{filled}
use Rattle.mvs_model.specs.declared.name.Name.{Name}
use Rattle.mvs_model.specs.declared.outcome.Outcome.{Outcome}
use Rattle.mvs_model.specs.declared.outcome.Outcome.TheVariants.{ScriptFault}
use Rattle.std.specs.List.{AllByRecursion}
use Rattle.mvs_model.specs.Answers.{Answer, At, Event, Granted, Rc0}
use Rattle.mvs_laws.specs.Going.{Holds, Reaches}
use Rattle.mvs_model.specs.Job.{JobValue}
use Rattle.mvs_model.specs.Lines.{lines_of}
use Rattle.mvs_model.specs.Reading.{IsReading, LineOf}
use Rattle.mvs_model.specs.Runs.{machine, IsPrinting}
use Rattle.mvs_model.specs.Texts.{printing, reply_line, one_line_text}
use Rattle.mvs_model.specs.View.{IsBounded}
use Rattle.mvs_model.specs.Walk.{Closes, Faults, JobEnds, Leads, Walks, is_first}
use Rattle.mvs_job.specs.LineEvents.{WalkValue, closing}
use Rattle.judge.specs.declared.kinds.GrantKind.{GrantKind}
use Rattle.judge.specs.declared.kinds.GrantKind.TheVariants.{Area, Areas, Closed, Several}
use Rattle.judge.specs.declared.Finding.{Finding}
use Rattle.judge.specs.declared.Finding.TheVariants as finding
use Rattle.judge.specs.Judging.{AsksArea, AsksList, BeginsAnswered, GrantsAreShownBefore, IsNoPrinting, IsOpen, IsOpenIn, IsQuestion, leaves_open}

-- From the line of this number on a run may print this text, and end so.
abbrev pub MayPrint : ℕ → Option JobValue → List (List ℕ) → List ℕ → Outcome → Type 0
MayPrint number old lines text outcome = (events : List Event) × Walks machine (JobEnds machine outcome) number old lines events × (text ≡ printing events)

-- The line, before the first statement or after it, can be granted no place.
abbrev pub IsClosed : Option JobValue → List ℕ → Type 0
IsClosed step bytes = (l : Line) → LineOf (is_first step) bytes l → leaves_open l ≡ false

-- The line asks for an area.
abbrev pub IsGrant : Option JobValue → List ℕ → Name → Name → Bool → Type 0
IsGrant step bytes task area variable = (l : Line) × LineOf (is_first step) bytes l × AsksArea l task area variable

-- The line asks for a list of areas.
abbrev pub IsList : Option JobValue → List ℕ → Name → List Name → Type 0
IsList step bytes task areas = (l : Line) × LineOf (is_first step) bytes l × AsksList l task areas

-- What a line says may be granted places, and asks for no single area and no list with a name for each of its areas.
abbrev pub AsksOther : Line → Type 0
AsksOther l =
    (leaves_open l ≡ true) × ((task : Name) (area : Name) (variable : Bool) → AsksArea l task area variable → ⊥)
    × ((task : Name) (areas : List Name) → AsksList l task areas → ⊥)

-- the text of a line can be granted no place
abbrev pub IsOther : Option JobValue → List ℕ → Type 0
IsOther step bytes = (l : Line) × LineOf (is_first step) bytes l × AsksOther l

-- what kind a line is of that says this
abbrev pub IsKindOf : Line → GrantKind → Type 0
IsKindOf l Closed = leaves_open l ≡ false
IsKindOf l (Area task area variable) = AsksArea l task area variable
IsKindOf l (Areas task areas) = AsksList l task areas
IsKindOf l Several = AsksOther l

-- the text of a line is a request for areas
abbrev pub IsKind : Option JobValue → List ℕ → GrantKind → Type 0
IsKind step bytes Closed = IsClosed step bytes
IsKind step bytes (Area task area variable) = IsGrant step bytes task area variable
IsKind step bytes (Areas task areas) = IsList step bytes task areas
IsKind step bytes Several = IsOther step bytes

-- The first of the lines, if there is one, has no WHERE for the name.
abbrev pub HasNoQuestion : List (List ℕ) → Name → Name → Type 0
HasNoQuestion [] task area = Unit {0}
HasNoQuestion (bytes ∷ lines) task area = IsQuestion bytes task area → ⊥

-- The pages of the step are at most those of a card.
abbrev pub InBounds : Option JobValue → Type 0
InBounds step = Holds (λ st. IsBounded st.regions) step

-- the answer to a granted request for an area of no bytes, which is as long as that for any other
abbrev pub no_bytes : Bool → Answer
no_bytes true = Granted 0
no_bytes false = Rc0

-- the text, from the line with this number on, of WHERE statements of a task with these addresses
abbrev pub at_text : ℕ → Name → List ℕ → List ℕ
at_text number task [] = []
at_text number task (addr ∷ addrs) = reply_line number task (one_line_text (At addr)) ++ at_text (number + 1) task addrs

-- The addresses are those that a text shows from the line with this number on, if it shows one for each of some names.
abbrev pub ReadsEach : List ℕ → ℕ → Name → List Name → List ℕ → Type 0
ReadsEach text number task areas hints =
    (addrs : List ℕ) (rest : List ℕ) → length addrs ≡ length areas → AllByRecursion (λ addr. addr < 2 ^ 31) addrs → text ≡ at_text number task addrs ++ rest → hints ≡ addrs

-- Whether a text begins with another one.
abbrev pub BeginsBy : List ℕ → List ℕ → Bool → Type 0
BeginsBy text front b = (b ≡ true → (more : List ℕ) × (text ≡ front ++ more)) × ((more : List ℕ) → text ≡ front ++ more → b ≡ true)

-- Whether a list is undecided for a text: the text does not pass it, and continues with an answer that a list can have.
abbrev pub OpensList : ℕ → Name → List ℕ → Bool → Bool → Type 0
OpensList number task text true b = b ≡ false
OpensList number task text false b = (b ≡ true → BeginsAnswered number task text) × (BeginsAnswered number task text → b ≡ true)

-- The job has parsed a line so, and that has returned this.
abbrev pub IsParsed : WalkValue → Result (Unit {0}) Fault → List ℕ → Type 0
IsParsed w parsed bytes = IsReading (is_first w.step) bytes (filled w.read parsed)

-- Two jobs are in the same step, and come to the same line.
abbrev pub IsSameJob : WalkValue → WalkValue → Type 0
IsSameJob old new = (new.number ≡ old.number) × (new.step ≡ old.step)

-- Some lines are served, and this is printed of them: all of them, or one with a fault, which ends the job.
abbrev pub IsServed : List (List ℕ) → WalkValue → List ℕ → Bool → WalkValue → Type 0
IsServed served old text true new = (events : List Event) × Leads machine old.number old.step served events new.step × (new.number ≡ old.number + length served) × (text ≡ printing events)
IsServed served old text false new = (l : List ℕ) × (events : List Event) × (served ≡ l ∷ []) × Faults old.number (is_first old.step) l events × (text ≡ printing events)

-- What is decided at lines that print this, and after which the job continues or not. If a run can still print the rest of an
-- output, the output begins with this, and every run that prints it is after the lines in the same state.
abbrev pub Decides : List (List ℕ) → List ℕ → WalkValue → List ℕ → Bool → Bool → WalkValue → Type 0
Decides served left old text continues false new = (more : List (List ℕ)) (outcome : Outcome) → MayPrint old.number old.step (served ++ more) left outcome → ⊥
Decides served left old text false true new = left ≡ text
Decides served left old text true true new =
    (left ≡ text ++ drop (length text) left)
    × ((more : List (List ℕ)) (outcome : Outcome) → MayPrint old.number old.step (served ++ more) left outcome → MayPrint new.number new.step more (drop (length text) left) outcome)

-- Both for a line and the question after it, which ends there in the text after the line, and shows what the line is granted.
abbrev pub IsFoundShown : List ℕ → List ℕ → List ℕ → WalkValue → ℕ → List ℕ → Bool → Bool → WalkValue → Type 0
IsFoundShown bytes rest left old end text continues passes new =
    (lines_of rest ≡ take end rest ∷ lines_of (drop (end + 1) rest)) × IsServed (bytes ∷ take end rest ∷ []) old text continues new
    × Decides (bytes ∷ take end rest ∷ []) left old text continues passes new × ((more : List (List ℕ)) → GrantsAreShownBefore (bytes ∷ take end rest ∷ []) more)

-- What is decided if some lines come after them.
abbrev pub DecidesBefore : List (List ℕ) → List (List ℕ) → List ℕ → WalkValue → List ℕ → Bool → Bool → WalkValue → Type 0
DecidesBefore served more left old text continues false new = (outcome : Outcome) → MayPrint old.number old.step (served ++ more) left outcome → ⊥
DecidesBefore served more left old text false true new = left ≡ text
DecidesBefore served more left old text true true new =
    (left ≡ text ++ drop (length text) left)
    × ((outcome : Outcome) → MayPrint old.number old.step (served ++ more) left outcome → MayPrint new.number new.step more (drop (length text) left) outcome)

-- Both for the first lines of a script, given as a number of bytes.
abbrev pub DecidesFirst : List ℕ → List ℕ → WalkValue → ℕ → List ℕ → Bool → Bool → WalkValue → Type 0
DecidesFirst script left old taken text continues passes new =
    (served : List (List ℕ)) × (lines_of script ≡ served ++ lines_of (drop taken script)) × IsServed served old text continues new
    × DecidesBefore served (lines_of (drop taken script)) left old text continues passes new × (continues ≡ true → GrantsAreShownBefore served (lines_of (drop taken script)))

-- The first line of a script, given as a number of bytes, is executed, and its answer is not determined.
abbrev pub LeavesFirst : List ℕ → List ℕ → WalkValue → ℕ → List ℕ → Bool → Bool → WalkValue → Type 0
LeavesFirst script left old taken text continues passes new =
    (bytes : List ℕ) × (lines_of script ≡ bytes ∷ lines_of (drop taken script)) × IsServed (bytes ∷ []) old text true new × IsOpen old.number old.step (lines_of script) left
    × (continues ≡ true) × (passes ≡ true)

-- what is found at the first lines: they are open, or they decide
abbrev pub IsFoundFirst : List ℕ → List ℕ → WalkValue → ℕ → List ℕ → Bool → Bool → Bool → WalkValue → Type 0
IsFoundFirst script left old taken text continues passes true new = LeavesFirst script left old taken text continues passes new
IsFoundFirst script left old taken text continues passes false new = DecidesFirst script left old taken text continues passes new

-- A job that has printed this of a script is in this state, with these bytes left.
abbrev pub HasReached : List ℕ → List ℕ → WalkValue → List ℕ → Type 0
HasReached script text w left = (events : List Event) × Reaches (lines_of script) events w.number w.step (lines_of left) × (text ≡ printing events)

-- The text is the printing of the end of a job in this state that has no more lines.
abbrev pub PrintsEnd : WalkValue → List ℕ → Outcome → Type 0
PrintsEnd w text outcome = (ended : Option Bool) × Closes machine w.number w.step (closing w.number ended) outcome × (text ≡ printing (closing w.number ended))

-- A job has ended so, and has printed this, which is the output, or no run prints that.
abbrev pub HasEnded : List ℕ → List ℕ → Outcome → List ℕ → Bool → Type 0
HasEnded script output outcome text true = IsPrinting script text outcome × (text ≡ output)
HasEnded script output outcome text false = IsPrinting script text outcome × IsNoPrinting script output

-- An output and the runs of a script part, when this was printed: no run prints the output, or the line of this number is open.
abbrev pub HasParted : List ℕ → List ℕ → List ℕ → ℕ → Bool → Type 0
HasParted script output text number false = IsNoPrinting script output
HasParted script output text number true = IsOpenIn script output text number

-- how a job has ended after lines, if it does not continue: with a fault
abbrev pub end_at : Bool → Option Outcome
end_at true = None
end_at false = Some ScriptFault

-- How far an output was followed along a script, when this much is served and printed, up to a line of this number that may be open.
abbrev pub IsFollowed : List ℕ → List ℕ → WalkValue → ℕ → List ℕ → Bool → Option Outcome → ℕ → Type 0
IsFollowed script output w at text passes (Some outcome) number = HasEnded script output outcome text passes
IsFollowed script output w at text passes None number =
    HasParted script output text number passes × HasReached script text w (drop at script) × (at ≤ length script) × (w.number ≤ at + 2)

-- what is found of an output from which the runs of a script part where the next line has this number
abbrev pub finding_of : Bool → Bool → ℕ → Finding
finding_of true agrees number = finding.Refused
finding_of false true number = finding.Accepted
finding_of false false number = finding.Undecided number
