-- What a run does not leave to places: the tasks with what they own, which names are set, and which pools there are.
use Rattle.std.specs.Prelude.{◌≡◌, ◌⊎◌, ℕ, ◌==◌, Bool, true, false, List, [], ◌∷◌, ◌++◌, Option, is_some, codes, decimal, if◌then◌else◌}
use Rattle.std.specs.Option.{option_map}
use Rattle.std.specs.FinMap.{get}
use Rattle.mvs_model.specs.declared.name.Name.{Name}
use Rattle.mvs_model.specs.declared.code.Code.{Code}
use Rattle.mvs_model.specs.declared.code.Code.TheVariants.{System, User}
use Rattle.mvs_model.specs.declared.code.Family.TheVariants.{Located}
use Rattle.mvs_model.specs.declared.code.Form.{Form}
use Rattle.mvs_model.specs.declared.line.Statement.{Statement}
use Rattle.mvs_model.specs.declared.line.Statement.TheVariants as says
use Rattle.mvs_model.specs.declared.line.SourceRequest.{SourceRequest}
use Rattle.mvs_model.specs.declared.line.SourceRequest.TheVariants as written
use Rattle.mvs_model.specs.Codes.{family, is_conditional, short, bad_address, not_held, no_access, no_such_cell, too_many_pools}
use Rattle.mvs_model.specs.Name.{trimmed}
use Rattle.mvs_model.specs.Requests.{is_invalid}
use Rattle.mvs_model.specs.Texts.{code_text}
use Rattle.mvs_model.specs.Answers.{Answer, NotRun, NoName, At, Rc0, Granted, Rc4, Cell, NoCell, Attached, Ended, Done, Data, Abended, Subpools, Map, Region}
use Rattle.mvs_model.specs.Job.{JobValue}
use Rattle.mvs_model.specs.State.{State}
use Rattle.mvs_model.specs.Runs.{Any, Does}

-- the subpool of a pool, where it is there
abbrev pub pool_at : State → Name → Option ℕ
pool_at st name = option_map (λ pool. pool.subpool) (get st.pools name)

-- Two steps differ in nothing but places: the regions, the tasks and their subpools are the same, the same names are set, there are the same pools in
-- the same subpools, and a task of both has abended or of neither.
pub record AreAlike (a b : JobValue) : Type 0 where
  pub regions : a.state.regions ≡ b.state.regions
  pub owners : a.state.owners ≡ b.state.owners
  pub named : (name : Name) → is_some (get a.names name) ≡ is_some (get b.names name)
  pub pools : (name : Name) → pool_at a.state name ≡ pool_at b.state name
  pub abended : a.abended ≡ b.abended
  pub former : a.former ≡ b.former

-- whether an answer is the abend with this user code
abbrev pub is_user : ℕ → Answer → Bool
is_user n (Abended (User m) fallen) = m == n
is_user n (Abended (System m) fallen) = false
is_user n NotRun = false
is_user n NoName = false
is_user n (At addr) = false
is_user n Rc0 = false
is_user n (Granted n_here) = false
is_user n Rc4 = false
is_user n Cell = false
is_user n NoCell = false
is_user n Attached = false
is_user n Ended = false
is_user n Done = false
is_user n (Data bytes) = false
is_user n (Subpools lines) = false
is_user n (Map runs) = false
is_user n (Region card) = false

-- Whether places do not decide that a request has this answer: its number is invalid; it is for tasks; it is for the whole of a subpool;
-- or it is for a pool that is not there, or for a new one whose name is in use.
abbrev pub request_settled : SourceRequest → Answer → Bool
request_settled (written.Obtain form n ask variable area) x = is_invalid n
request_settled (written.ObtainList form n lengths start areas) x = is_invalid n
request_settled (written.Release form n location len) x = is_invalid n
request_settled (written.ReleaseArea form n area) x = is_invalid n
request_settled (written.ReleaseList form n locations lengths) x = is_invalid n
request_settled (written.ReleaseWhole form n) x = true
request_settled (written.Build pool n size primary secondary loc) x = if is_invalid n then true else is_user 4008 x
request_settled (written.Get pool conditional cell) x = is_user 4002 x
request_settled (written.Free pool cell) x = is_user 4002 x
request_settled (written.Delete pool) x = true
request_settled (written.Attach name gifts residence) x = true
request_settled written.Return x = true
request_settled (written.Abend n) x = true
request_settled (written.Show location n) x = false
request_settled (written.Put location bytes) x = false
request_settled (written.Move to from n) x = false

-- the same of an active task's statement with all its names set
abbrev pub done_settled : Statement → Answer → Bool
done_settled (says.Request k) x = request_settled k x
done_settled (says.Region below above fill residence) x = false
done_settled (says.Where name) x = false
done_settled says.ReportSubpools x = false
done_settled says.ReportMap x = false

-- Whether places do not decide that a statement has this answer: its task is not active, a name in it is not set, or it is such a request.
abbrev pub is_settled : Statement → Answer → Bool
is_settled s NotRun = true
is_settled s NoName = true
is_settled s (At addr) = done_settled s (At addr)
is_settled s Rc0 = done_settled s Rc0
is_settled s (Granted n) = done_settled s (Granted n)
is_settled s Rc4 = done_settled s Rc4
is_settled s Cell = done_settled s Cell
is_settled s NoCell = done_settled s NoCell
is_settled s Attached = done_settled s Attached
is_settled s Ended = done_settled s Ended
is_settled s Done = done_settled s Done
is_settled s (Data bytes) = done_settled s (Data bytes)
is_settled s (Abended code fallen) = done_settled s (Abended code fallen)
is_settled s (Subpools lines) = done_settled s (Subpools lines)
is_settled s (Map runs) = done_settled s (Map runs)
is_settled s (Region card) = done_settled s (Region card)

-- how the line of an abend continues after its task
abbrev pub abend_opening : Code → List ℕ
abend_opening code = codes "ABEND " ++ code_text code ++ codes "\n"

-- the same for a request that fails: a conditional one is answered 4
abbrev pub failed : Form → Code → List ℕ
failed form code = if is_conditional form then codes "RC 4\n" else abend_opening code

-- The beginnings of the answers that places decide, after the task.
abbrev pub request_openings : SourceRequest → List (List ℕ)
request_openings (written.Obtain form n ask true area) = codes "RC 0 LENGTH " ∷ failed form (short (family form)) ∷ []
request_openings (written.Obtain form n ask false area) = codes "RC 0\n" ∷ failed form (short (family form)) ∷ []
request_openings (written.ObtainList form n lengths start areas) = codes "RC 0\n" ∷ failed form (short (family form)) ∷ []
request_openings (written.Release form n location len) = codes "RC 0\n" ∷ failed form (not_held (family form)) ∷ abend_opening (bad_address (family form)) ∷ []
request_openings (written.ReleaseArea form n area) = codes "RC 0\n" ∷ failed form (not_held (family form)) ∷ abend_opening (bad_address (family form)) ∷ []
request_openings (written.ReleaseList form n locations lengths) = codes "RC 0\n" ∷ failed form (not_held (family form)) ∷ abend_opening (bad_address (family form)) ∷ []
request_openings (written.Build pool n size primary secondary loc) = codes "RC 0\n" ∷ abend_opening (short Located) ∷ abend_opening too_many_pools ∷ []
request_openings (written.Get pool true cell) = codes "CELL\n" ∷ codes "NO CELL\n" ∷ []
request_openings (written.Get pool false cell) = codes "CELL\n" ∷ abend_opening (short Located) ∷ []
request_openings (written.Free pool cell) = codes "RC 0\n" ∷ abend_opening no_such_cell ∷ []
request_openings (written.Show location n) = codes "DATA +0000 " ∷ abend_opening no_access ∷ []
request_openings (written.Put location bytes) = codes "OK\n" ∷ abend_opening no_access ∷ []
request_openings (written.Move to from n) = codes "OK\n" ∷ abend_opening no_access ∷ []
request_openings (written.ReleaseWhole form number) = []
request_openings (written.Delete pool) = []
request_openings (written.Attach name gifts residence) = []
request_openings written.Return = []
request_openings (written.Abend code) = []

-- the same for a statement
abbrev pub openings : Statement → List (List ℕ)
openings (says.Request k) = request_openings k
openings (says.Where name) = codes "AT " ∷ []
openings says.ReportSubpools = codes "SP " ∷ []
openings says.ReportMap = []
openings (says.Region below above fill residence) = []

-- The text begins with one of these.
abbrev pub BeginsOneOf : List (List ℕ) → List ℕ → Type 0
BeginsOneOf [] text = ⊥
BeginsOneOf (front ∷ fronts) text = ((more : List ℕ) × (text ≡ front ++ more)) ⊎ BeginsOneOf fronts text

-- the number of a line and its task, as they are printed
abbrev pub head : ℕ → Name → List ℕ
head number t = decimal number ++ codes " " ++ trimmed t ++ codes " "

-- The text begins with the number, the task, and one of the beginnings for the statement.
abbrev pub BeginsReply : ℕ → Name → Statement → List ℕ → Type 0
BeginsReply number t s text = (rest : List ℕ) × (text ≡ head number t ++ rest) × BeginsOneOf (openings s) rest

-- The text begins with an answer of the task to its statement on the line with this number, one that places decide. A map of no pages has
-- no lines.
abbrev pub BeginsOpen : ℕ → Name → Statement → List ℕ → Type 0
BeginsOpen number t says.ReportMap text = Unit {0}
BeginsOpen number t (says.Request k) text = BeginsReply number t (says.Request k) text
BeginsOpen number t (says.Where name) text = BeginsReply number t (says.Where name) text
BeginsOpen number t says.ReportSubpools text = BeginsReply number t says.ReportSubpools text
BeginsOpen number t (says.Region below above fill residence) text = BeginsReply number t (says.Region below above fill residence) text

-- How a statement ends: nothing changes, its task abends, or it is done.
pub data Way : Type 0 where
  Stays : Way
  Falls : Way
  Goes : Way

-- how a statement ends that is answered so
abbrev pub way : Answer → Way
way NotRun = Stays
way NoName = Stays
way Rc4 = Stays
way NoCell = Stays
way (Abended code fallen) = Falls
way (At addr) = Goes
way Rc0 = Goes
way (Granted n) = Goes
way Cell = Goes
way Attached = Goes
way Ended = Goes
way Done = Goes
way (Data bytes) = Goes
way (Subpools lines) = Goes
way (Map runs) = Goes
way (Region card) = Goes

-- Two steps that differ in nothing but places, and in which a statement ends the same way, still differ in nothing but places.
abbrev pub StaysAlike : Type 0
StaysAlike =
    (one other : JobValue) (t : Name) (s : Statement) (x y : Answer) (a b : JobValue)
    → AreAlike one other → Does Any one t s x a → Does Any other t s y b → way x ≡ way y → AreAlike a b

-- If places do not decide that a statement has its answer in one of two such steps, it has that answer in the other one.
abbrev pub IsSettledAlike : Type 0
IsSettledAlike =
    (one other : JobValue) (t : Name) (s : Statement) (x y : Answer) (a b : JobValue)
    → AreAlike one other → Does Any one t s x a → Does Any other t s y b → is_settled s x ≡ true → x ≡ y
