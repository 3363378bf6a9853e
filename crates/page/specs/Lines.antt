-- The lines of change: what a statement did to the step, in the manner of the printing. (this project's own notation)
use Rattle.std.specs.Prelude.{ℕ, List, [], ◌++◌, Option, Some, codes, decimal, if◌then◌else◌}
use Rattle.std.specs.List.{flat_map}
use Rattle.mvs_model.specs.declared.name.Name.{Name}
use Rattle.mvs_model.specs.declared.want.Residence.{Residence}
use Rattle.mvs_model.specs.declared.want.Residence.TheVariants as resides
use Rattle.mvs_model.specs.Job.{JobValue}
use Rattle.mvs_model.specs.Name.{trimmed}
use Rattle.mvs_model.specs.Place.{PlaceValue}
use Rattle.mvs_model.specs.Replies.{bytes_at}
use Rattle.mvs_model.specs.Requests.{all_granted}
use Rattle.mvs_model.specs.Texts.{hex}
use Rattle.page.specs.declared.change.Change.{Change}
use Rattle.page.specs.declared.change.Change.TheVariants as change

-- where a task resides
abbrev pub residence_text : Residence → List ℕ
residence_text resides.Below = codes " RES BELOW"
residence_text resides.Above = codes " RES ABOVE"

-- an address and a length
abbrev pub place_text : PlaceValue → List ℕ
place_text p = hex 8 p.addr ++ codes " " ++ hex 8 p.len

-- a subpool: the number under which its owner has it, and the owner
abbrev pub subpool_text_of : ℕ → Name → List ℕ
subpool_text_of number owner = decimal number ++ codes " " ++ trimmed owner

-- what a task has under a number
abbrev pub has_text : Name → ℕ → List ℕ
has_text task number = codes "HAS " ++ trimmed task ++ codes " " ++ decimal number

-- what a change says
abbrev pub change_text : Change → List ℕ
change_text (change.Step below above fill) = codes "STEP BELOW " ++ decimal below ++ codes " ABOVE " ++ decimal above ++ codes " FILL " ++ hex 2 fill
change_text (change.First name residence) = codes "TASK " ++ trimmed name ++ codes " MOTHER -" ++ residence_text residence
change_text (change.Task name mother residence) = codes "TASK " ++ trimmed name ++ codes " MOTHER " ++ trimmed mother ++ residence_text residence
change_text (change.Given task number mother) = has_text task number ++ codes " GIVEN " ++ trimmed mother
change_text (change.Shared task held number owner) = has_text task held ++ codes " SHARED " ++ subpool_text_of number owner
change_text (change.Take place number owner name) = codes "TAKE " ++ place_text place ++ codes " " ++ subpool_text_of number owner ++ codes " " ++ trimmed name
change_text (change.Free place) = codes "FREE " ++ place_text place
change_text (change.Empty number owner) = codes "EMPTY " ++ subpool_text_of number owner
change_text (change.Pool name number owner size) = codes "POOL " ++ trimmed name ++ codes " " ++ subpool_text_of number owner ++ codes " " ++ decimal size
change_text (change.Part pool place cells) = codes "PART " ++ trimmed pool ++ codes " " ++ place_text place ++ codes " " ++ decimal cells
change_text (change.Cell pool place name) = codes "CELL " ++ trimmed pool ++ codes " " ++ place_text place ++ codes " " ++ trimmed name
change_text (change.Back pool cell) = codes "BACK " ++ trimmed pool ++ codes " " ++ hex 8 cell
change_text (change.Delete pool) = codes "DROP " ++ trimmed pool
change_text (change.Read place) = codes "READ " ++ place_text place
change_text (change.Write place) = codes "WRITE " ++ place_text place ++ codes " "
change_text (change.Look place) = codes "LOOK " ++ place_text place
change_text (change.Return task) = codes "END " ++ trimmed task ++ codes " RETURN"
change_text (change.Abend task) = codes "END " ++ trimmed task ++ codes " ABEND"
change_text (change.Fall task other) = codes "END " ++ trimmed task ++ codes " WITH " ++ trimmed other

-- the bytes of a place that may be read
abbrev pub read_bytes : JobValue → PlaceValue → List ℕ
read_bytes job p = if all_granted job.state p then bytes_at job.state p.addr p.len else []

-- the bytes that the line of a change carries: what it wrote, as it is in the step after the line
abbrev pub carried : Option JobValue → Change → List ℕ
carried (Some job) (change.Write place) = read_bytes job place
carried new c = []

-- the line of it
abbrev pub change_line : Option JobValue → Change → List ℕ
change_line new c = change_text c ++ flat_map (hex 2) (carried new c) ++ codes "\n"

-- the lines of changes, one after another
abbrev pub change_lines : Option JobValue → List Change → List ℕ
change_lines new cs = flat_map (change_line new) cs
