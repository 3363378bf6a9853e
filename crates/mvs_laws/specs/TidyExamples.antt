-- Scripts that are tidy, and what the label machine prints for them.
use Rattle.std.specs.Prelude.{ℕ, Bool, true, false, List, [], ◌∷◌, None, codes}
use Rattle.mvs_model.specs.declared.name.Name.{Name}
use Rattle.mvs_model.specs.declared.code.Form.TheVariants as form
use Rattle.mvs_model.specs.declared.want.Loc.TheVariants as loc
use Rattle.mvs_model.specs.declared.want.Residence.TheVariants.{Below}
use Rattle.mvs_model.specs.declared.line.Line.TheVariants as line
use Rattle.mvs_model.specs.declared.line.Statement.{Statement}
use Rattle.mvs_model.specs.declared.line.Statement.TheVariants.{Region, Request, ReportSubpools}
use Rattle.mvs_model.specs.declared.line.Location.TheVariants.{Named}
use Rattle.mvs_model.specs.declared.line.SourceRequest.TheVariants.{Obtain, Attach, Return, Show, Put, Move}
use Rattle.mvs_model.specs.declared.outcome.Outcome.{Outcome}
use Rattle.mvs_model.specs.Name.{padded}
use Rattle.mvs_model.specs.Want.{AskValue}
use Rattle.mvs_model.specs.Gifts.{GiftsValue}
use Rattle.mvs_model.specs.Lines.{lines_of}
use Rattle.mvs_model.specs.Reading.{LineOf}
use Rattle.mvs_laws.specs.Labels.{IsLabelText}
use Rattle.mvs_laws.specs.Tidy.{Tidy, IsPrintingInFull}

-- The lines are read as these statements.
abbrev pub ReadsAs : Bool → List (List ℕ) → List (Name × Statement) → Type 0
ReadsAs first [] [] = Unit {0}
ReadsAs first [] (s ∷ ss) = ⊥
ReadsAs first (l ∷ ls) [] = ⊥
ReadsAs first (l ∷ ls) (s ∷ ss) = LineOf first l (line.Statement s.0 s.1) × ReadsAs false ls ss

-- Each script of these statements is tidy, and the label machine prints this text for it.
abbrev pub ShowsTidy : List (Name × Statement) → List ℕ → Type 0
ShowsTidy statements text = (script : List ℕ) → ReadsAs true (lines_of script) statements → Tidy script × IsLabelText script text

-- Each script of these statements has a run that is granted in full, and prints this text.
abbrev pub RunsInFull : List (Name × Statement) → List ℕ → Type 0
RunsInFull statements text = (script : List ℕ) → ReadsAs true (lines_of script) statements → (outcome : Outcome) × IsPrintingInFull script text outcome

-- the name of a text
abbrev pub job : Name
job = padded (codes "JOB")

abbrev pub sub : Name
sub = padded (codes "SUB")

abbrev pub area_x : Name
area_x = padded (codes "X")

-- one page
abbrev pub one_page : Statement
one_page = Region 1 0 0 Below

-- a number of bytes, with no boundary except the doubleword
abbrev pub fixed : ℕ → AskValue
fixed n = record { least = n; most = n; start = 3; within = None; loc = loc.Res }

-- subpool 0 is shared, and nothing is given
abbrev pub zero_shared : GiftsValue
zero_shared = record { given = 0; shared = 0; zero = true }

-- A task that returns with a subtask abends, and the subtask ends with it.
abbrev pub BusyReturn : Type 0
BusyReturn =
    ShowsTidy
    ((job, one_page) ∷ (job, Request (Attach sub zero_shared Below)) ∷ (job, Request Return) ∷ (sub, Request (Obtain form.Ru 0 (fixed 8) false area_x)) ∷ [])
    (codes "1 JOB REGION BELOW 1 ABOVE 0\n2 JOB ATTACHED\n3 JOB ABEND SA03\n3 SUB ENDED WITH JOB\n4 SUB NOT RUN\nSTEP ENDED RC 8\n")

abbrev pub task_a : Name
task_a = padded (codes "A")

abbrev pub task_b : Name
task_b = padded (codes "B")

abbrev pub area_y : Name
area_y = padded (codes "Y")

-- subpool 5 is shared, or given, and subpool 0 is shared
abbrev pub five_shared : GiftsValue
five_shared = record { given = 0; shared = 32; zero = true }

abbrev pub five_given : GiftsValue
five_given = record { given = 32; shared = 0; zero = true }

-- A given subpool ends while a sibling shares it.
abbrev pub GivenEnds : Type 0
GivenEnds =
    ShowsTidy
    ((job, one_page)
    ∷ (job, Request (Obtain form.Ru 5 (fixed 8) false area_x))
    ∷ (job, Request (Attach task_a five_shared Below))
    ∷ (job, Request (Attach task_b five_given Below))
    ∷ (task_a, ReportSubpools)
    ∷ (task_b, Request Return)
    ∷ (task_a, ReportSubpools)
    ∷ (task_a, Request (Obtain form.Rc 5 (fixed 4096) false area_y))
    ∷ (task_a, ReportSubpools)
    ∷ [])
    (codes "1 JOB REGION BELOW 1 ABOVE 0\n2 JOB RC 0\n3 JOB ATTACHED\n4 JOB ATTACHED\n5 A SP 0 SHARED PLAIN 0 POOL 0\n5 A SP 5 SHARED PLAIN 8 POOL 0\n6 B ENDED\n7 A SP 0 SHARED PLAIN 0 POOL 0\n8 A RC 0\n9 A SP 0 SHARED PLAIN 0 POOL 0\n9 A SP 5 OWNED PLAIN 4096 POOL 0\nSTEP ENDED RC 0\n")

-- Bytes are moved within an area, also where the two places overlap.
abbrev pub moves : List (Name × Statement)
moves =
    (job, one_page)
    ∷ (job, Request (Obtain form.Ru 0 (fixed 8) false area_x))
    ∷ (job, Request (Put (Named area_x 0) (1 ∷ 2 ∷ 3 ∷ 4 ∷ 5 ∷ 6 ∷ 7 ∷ 8 ∷ [])))
    ∷ (job, Request (Move (Named area_x 1) (Named area_x 0) 7))
    ∷ (job, Request (Show (Named area_x 0) 8))
    ∷ (job, Request (Move (Named area_x 0) (Named area_x 2) 6))
    ∷ (job, Request (Show (Named area_x 0) 8))
    ∷ []

abbrev pub moves_text : List ℕ
moves_text = codes "1 JOB REGION BELOW 1 ABOVE 0\n2 JOB RC 0\n3 JOB OK\n4 JOB OK\n5 JOB DATA +0000 0101020304050607\n6 JOB OK\n7 JOB DATA +0000 0203040506070607\nSTEP ENDED RC 0\n"

abbrev pub MovesOverlap : Type 0
MovesOverlap = ShowsTidy moves moves_text

-- It has a run that is granted in full, so the laws about such runs are not empty.
abbrev pub MovesInFull : Type 0
MovesInFull = RunsInFull moves moves_text
