-- When no run prints an output, wherever places are.
use Rattle.std.specs.Prelude.{◌≡◌, ◌≢◌, ◌⊎◌, ◌<◌, ◌+◌, ◌^◌, ℕ, Bool, true, false, List, [], ◌∷◌, ◌++◌, drop, length, Option, Some, None}
use Rattle.std.specs.List.{AllByRecursion}
use Rattle.mvs_model.specs.declared.name.Name.{Name}
use Rattle.mvs_model.specs.declared.line.Line.TheVariants as line
use Rattle.mvs_model.specs.declared.line.Statement.{Statement}
use Rattle.mvs_model.specs.declared.outcome.Outcome.{Outcome}
use Rattle.mvs_model.specs.Answers.{Answer, Event}
use Rattle.mvs_laws.specs.Going.{Reaches}
use Rattle.mvs_model.specs.Job.{JobValue}
use Rattle.mvs_model.specs.Lines.{lines_of}
use Rattle.mvs_model.specs.Reading.{LineOf}
use Rattle.mvs_model.specs.Runs.{Any, Does, IsPrinting}
use Rattle.mvs_model.specs.Texts.{printing}
use Rattle.mvs_model.specs.declared.line.Line.{Line}
use Rattle.mvs_model.specs.declared.line.Statement.TheVariants as says
use Rattle.mvs_model.specs.declared.line.SourceRequest.TheVariants as written
use Rattle.mvs_model.specs.FullAnswers.{full_answer}
use Rattle.mvs_model.specs.State.{State}
use Rattle.mvs_job.specs.declared.walk.LineEvent.{LineEvent}
use Rattle.mvs_job.specs.declared.walk.LineEvent.TheVariants as tells
use Rattle.mvs_job.specs.LineEvents.{WalkValue}
use Rattle.judge.specs.declared.exclusion.Ruling.{Ruling}
use Rattle.judge.specs.declared.exclusion.Ruling.TheVariants as ruling
use Rattle.judge.specs.declared.exclusion.LineVerdict.{LineVerdict}
use Rattle.judge.specs.declared.exclusion.LineVerdict.TheVariants as verdict
use Rattle.judge.specs.declared.search.SearchEnd.{SearchEnd}
use Rattle.judge.specs.declared.search.SearchEnd.TheVariants as search
use Rattle.judge.specs.Judging.{IsNoPrinting}
use Rattle.judge.specs.Deciding.{IsServed, MayPrint}
use Rattle.judge.specs.Outline.{AreAlike, BeginsOneOf, BeginsOpen, head, is_settled}

-- Two jobs, between two lines, of which a step is running in both or in neither, are alike where their steps are.
abbrev pub Alike : Option JobValue → Option JobValue → Type 0
Alike None None = Unit {0}
Alike None (Some b) = ⊥
Alike (Some a) None = ⊥
Alike (Some a) (Some b) = AreAlike a b

-- The line with this number has an answer that places decide, and the text begins with an answer that its statement can have.
abbrev pub IsUndecidedAt : ℕ → Option JobValue → List ℕ → List ℕ → Type 0
IsUndecidedAt number None bytes text = ⊥
IsUndecidedAt number (Some job) bytes text =
    (t : Name) × (s : Statement) × (x : Answer) × (new : JobValue)
    × LineOf false bytes (line.Statement t s) × Does Any job t s x new × (is_settled s x ≡ false) × BeginsOpen number t s text

-- A run of the script prints what the output begins with, up to such a line.
abbrev pub PartsAt : List ℕ → List ℕ → Type 0
PartsAt script output =
    (events : List Event) × (number : ℕ) × (step : Option JobValue) × (bytes : List ℕ) × (left : List (List ℕ)) × (rest : List ℕ)
    × Reaches (lines_of script) events number step (bytes ∷ left) × (output ≡ printing events ++ rest) × IsUndecidedAt number step bytes rest

-- A line prints this of a text, and each run that prints the text and differs from the job in nothing but places still does so after
-- the line, if there are not too many lines after it.
abbrev pub Agrees : WalkValue → List ℕ → List ℕ → List ℕ → WalkValue → Type 0
Agrees old bytes left text new =
    (left ≡ text ++ drop (length text) left)
    × ((step : Option JobValue) (more : List (List ℕ)) (outcome : Outcome) → old.number + length more < 2 ^ 32 → Alike old.step step
    → MayPrint old.number step (bytes ∷ more) left outcome
    → (later : Option JobValue) × Alike new.step later × MayPrint new.number later more (drop (length text) left) outcome)

-- No run that differs from the job in nothing but places prints the text from the line on.
abbrev pub Excludes : WalkValue → List ℕ → List ℕ → Type 0
Excludes old bytes left = (step : Option JobValue) (more : List (List ℕ)) (outcome : Outcome) → Alike old.step step → MayPrint old.number step (bytes ∷ more) left outcome → ⊥

-- Whether a text continues with an answer that begins with one of these.
abbrev pub IsBegun : ℕ → Name → List (List ℕ) → List ℕ → Bool → Type 0
IsBegun number t fronts text b =
    (b ≡ true → (rest : List ℕ) × (text ≡ head number t ++ rest) × BeginsOneOf fronts rest)
    × ((rest : List ℕ) → text ≡ head number t ++ rest → BeginsOneOf fronts rest → b ≡ true)

-- whether it continues with an answer that places decide
abbrev pub IsBegunOpen : ℕ → Name → Statement → List ℕ → Bool → Type 0
IsBegunOpen number t s text b = (b ≡ true → BeginsOpen number t s text) × (BeginsOpen number t s text → b ≡ true)

-- the answer of a line, if it has one
abbrev pub answer_in : State → List Name → LineEvent → Option Answer
answer_in st fallen (tells.Answered t a) = Some (full_answer st fallen t a)
answer_in st fallen _ = None

-- Whether places do not decide what a line prints that says this and has this answer.
abbrev pub is_certain : Line → Option Answer → Bool
is_certain line.Nothing x = true
is_certain (line.Statement t (says.Region below above fill residence)) x = true
is_certain (line.Statement t s) None = true
is_certain (line.Statement t s) (Some x) = is_settled s x

-- Whether a line is a request, a WHERE or a REPORT SP: then the text that it prints shows its answer.
abbrev pub is_shown : Line → Bool
is_shown (line.Statement t (says.Request k)) = true
is_shown (line.Statement t (says.Where name)) = true
is_shown (line.Statement t says.ReportSubpools) = true
is_shown (line.Statement t (says.Region below above fill residence)) = false
is_shown (line.Statement t says.ReportMap) = false
is_shown line.Nothing = false

-- No byte of the text is this one.
abbrev pub Lacks : ℕ → List ℕ → Type 0
Lacks c text = AllByRecursion (λ b. b ≢ c) text

-- The text is empty, or a blank comes in it before a line feed.
abbrev pub BeginsWord : List ℕ → Type 0
BeginsWord text = (text ≡ []) ⊎ ((word : List ℕ) × (more : List ℕ) × Lacks 10 word × (text ≡ word ++ 32 ∷ more))

-- The text does not begin with an answer of the task to the line with this number.
abbrev pub IsPast : ℕ → Name → List ℕ → Type 0
IsPast number t text = (more : List ℕ) → text ≡ head number t ++ more → ⊥

-- The line is a REPORT MAP, and the text after its answer shows that this is whole.
abbrev pub EndsMap : ℕ → Line → List ℕ → Type 0
EndsMap number (line.Statement t says.ReportMap) text = BeginsWord text × IsPast number t text
EndsMap number (line.Statement t says.ReportSubpools) text = ⊥
EndsMap number (line.Statement t (says.Where name)) text = ⊥
EndsMap number (line.Statement t (says.Request k)) text = ⊥
EndsMap number (line.Statement t (says.Region below above fill residence)) text = ⊥
EndsMap number line.Nothing text = ⊥

-- SHOW is for some bytes.
abbrev pub ShowsSome : Statement → Type 0
ShowsSome (says.Request (written.Show location n)) = 0 < n
ShowsSome (says.Request (written.Obtain form number ask variable area)) = Unit {0}
ShowsSome (says.Request (written.ObtainList form number lengths start areas)) = Unit {0}
ShowsSome (says.Request (written.Release form number location len)) = Unit {0}
ShowsSome (says.Request (written.ReleaseArea form number area)) = Unit {0}
ShowsSome (says.Request (written.ReleaseList form number locations lengths)) = Unit {0}
ShowsSome (says.Request (written.ReleaseWhole form number)) = Unit {0}
ShowsSome (says.Request (written.Build pool number size primary secondary loc)) = Unit {0}
ShowsSome (says.Request (written.Get pool conditional cell)) = Unit {0}
ShowsSome (says.Request (written.Free pool cell)) = Unit {0}
ShowsSome (says.Request (written.Delete pool)) = Unit {0}
ShowsSome (says.Request (written.Attach name gifts residence)) = Unit {0}
ShowsSome (says.Request written.Return) = Unit {0}
ShowsSome (says.Request (written.Abend code)) = Unit {0}
ShowsSome (says.Request (written.Put location bytes)) = Unit {0}
ShowsSome (says.Request (written.Move to from len)) = Unit {0}
ShowsSome (says.Region below above fill residence) = Unit {0}
ShowsSome (says.Where name) = Unit {0}
ShowsSome says.ReportSubpools = Unit {0}
ShowsSome says.ReportMap = Unit {0}

-- A SHOW in the line is for some bytes.
abbrev pub LineShowsSome : Line → Type 0
LineShowsSome line.Nothing = Unit {0}
LineShowsSome (line.Statement t s) = ShowsSome s

-- what a line prints of a text: a number of bytes, or none, since no run prints it; all of it, where the job ends at a fault; or what places
-- decide
abbrev pub IsVerdict : WalkValue → List ℕ → List ℕ → WalkValue → LineVerdict → Type 0
IsVerdict old bytes left new (verdict.Agrees n) = (text : List ℕ) × (n ≡ length text) × Agrees old bytes left text new × IsServed (bytes ∷ []) old text true new
IsVerdict old bytes left new verdict.Excluded = Excludes old bytes left
IsVerdict old bytes left new verdict.Ends = IsServed (bytes ∷ []) old left false new
IsVerdict old bytes left new verdict.Undecided = IsUndecidedAt old.number old.step bytes left

-- whether a text continues with an answer that a line can have, where places decide it
abbrev pub IsBegunLine : ℕ → Line → List ℕ → Bool → Type 0
IsBegunLine number line.Nothing text b = Unit {0}
IsBegunLine number (line.Statement t s) text b = IsBegunOpen number t s text b

-- What is known of an output, once one run of the script was compared with it: no run prints it; that run prints it, and ends so; or they
-- part where places decide.
abbrev pub IsRuling : List ℕ → List ℕ → Ruling → Type 0
IsRuling script output ruling.Excluded = IsNoPrinting script output
IsRuling script output (ruling.Printed outcome) = IsPrinting script output outcome
IsRuling script output ruling.Undecided = PartsAt script output

-- A run that a search found prints the output.
abbrev pub IsSearchEnd : List ℕ → List ℕ → SearchEnd → Type 0
IsSearchEnd script output (search.Printed ran) = IsPrinting script ran.text.items ran.outcome × (ran.text.items ≡ output)
IsSearchEnd script output (search.Missed nearest) = Unit {0}
