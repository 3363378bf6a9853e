-- A script with a WHERE for each of its areas and cells.
use Rattle.std.specs.Prelude.{ℕ, Bool, if◌then◌else◌, ◌&&◌, List, [], ◌∷◌, ◌++◌, Option, Some, None, codes}
use Rattle.std.specs.List.{flat_map}
use Rattle.mvs_model.specs.declared.line.Line.{Line}
use Rattle.mvs_model.specs.declared.line.Line.TheVariants as line
use Rattle.mvs_model.specs.declared.line.Statement.TheVariants as says
use Rattle.mvs_model.specs.declared.line.SourceRequest.{SourceRequest}
use Rattle.mvs_model.specs.declared.line.SourceRequest.TheVariants as written
use Rattle.mvs_model.specs.declared.name.Name.{Name}
use Rattle.mvs_model.specs.Name.{trimmed}
use Rattle.mvs_model.specs.Reading.{line_meaning, is_blank_or_comment}
use Rattle.terminal_session.specs.Sessions.{is_faulty}

-- the WHERE of a task for the area or cell of a name
abbrev pub question : Name → Name → List ℕ
question t name = trimmed t ++ codes " WHERE " ++ trimmed name ++ codes "\n"

-- the questions after what a task requests: one for each name that it sets
abbrev pub questions_after : Name → SourceRequest → List ℕ
questions_after t (written.Obtain form number ask variable area) = question t area
questions_after t (written.ObtainList form number lengths start areas) = flat_map (question t) areas
questions_after t (written.Get pool conditional cell) = question t cell
questions_after t (written.Release form number location len) = []
questions_after t (written.ReleaseArea form number area) = []
questions_after t (written.ReleaseList form number locations lengths) = []
questions_after t (written.ReleaseWhole form number) = []
questions_after t (written.Build pool number size primary secondary loc) = []
questions_after t (written.Free pool cell) = []
questions_after t (written.Delete pool) = []
questions_after t (written.Attach name gifts residence) = []
questions_after t written.Return = []
questions_after t (written.Abend code) = []
questions_after t (written.Show location len) = []
questions_after t (written.Put location bytes) = []
questions_after t (written.Move to from len) = []

-- the questions after a line, by what it says
abbrev pub questions : Option Line → List ℕ
questions (Some (line.Statement t (says.Request a))) = questions_after t a
questions _ = []

-- some lines, each with its questions after it, up to the first that has a fault. `first` says whether no statement came before
abbrev pub with_queries : Bool → List (List ℕ) → List ℕ
with_queries first [] = []
with_queries first (l ∷ lines) = l ++ 10 ∷ (if is_faulty first l then [] else questions (line_meaning l) ++ with_queries (first && is_blank_or_comment l) lines)
