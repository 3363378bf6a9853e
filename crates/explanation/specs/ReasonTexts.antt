-- What is printed of the reason for which a request is refused, with the rules of RULES.md that say so. (this project's own notation)
use Rattle.std.specs.Prelude.{ℕ, ◌*◌, ◌/◌, ◌%◌, ◌==◌, ◌||◌, List, [], ◌++◌, Option, Some, None, codes, decimal, if◌then◌else◌}
use Rattle.std.specs.List.{before_first}
use Rattle.mvs_model.specs.declared.name.Name.{Name}
use Rattle.mvs_model.specs.declared.request.Request.{Request}
use Rattle.mvs_model.specs.declared.request.Request.TheVariants.{Obtain, ObtainList, Release, ReleaseList, ReleaseWhole, Build, Get, Free, Delete, Attach, Return, Abend, Show, Put, Move}
use Rattle.mvs_model.specs.declared.reason.Holder.{Holder}
use Rattle.mvs_model.specs.declared.reason.Holder.TheVariants.{Nobody, Outside, Subpool, Unowned, Part}
use Rattle.mvs_model.specs.declared.reason.CellPosition.{CellPosition}
use Rattle.mvs_model.specs.declared.reason.CellPosition.TheVariants.{Untaken, Inside, Elsewhere}
use Rattle.mvs_model.specs.declared.reason.FreeSpace.{FreeSpace}
use Rattle.mvs_model.specs.declared.reason.Shortfall.{Shortfall}
use Rattle.mvs_model.specs.declared.reason.LineReason.{LineReason}
use Rattle.mvs_model.specs.declared.reason.LineReason.TheVariants.{NotSet, Refused}
use Rattle.mvs_model.specs.declared.reason.Reason.{Reason}
use Rattle.mvs_model.specs.declared.reason.Reason.TheVariants.{NotActive, InvalidNumber, Shortage, NoMember, NoPart, OffDoubleword, NoSubpool, NotHeld, Overlap, WholeOfZero, PoolInUse, TooManyPools, NoPool, NoFreeCell, NoTakenCell, TaskInUse, TooManyTasks, NotOwned, ActiveSubtask, Asked, NoAccess}
use Rattle.mvs_model.specs.Name.{same_name, trimmed}
use Rattle.mvs_model.specs.Subpool.{is_step_number}
use Rattle.mvs_model.specs.Reasons.{number_of}
use Rattle.mvs_model.specs.Place.{round8}
use Rattle.mvs_model.specs.Texts.{hex}

-- ---- what a request says that its reason does not

pub record Subject : Type 0 where
  -- the least length of one area, rounded up
  pub least : ℕ
  -- the cell pool, or the subtask, if it names one
  pub name : Option Name
  -- the cell
  pub cell : ℕ

abbrev pub subject_of : Request → Subject
subject_of (Obtain form number ask) = record { least = round8 ask.least; name = None; cell = 0 }
subject_of (ObtainList form number lengths start) = record { least = 0; name = None; cell = 0 }
subject_of (Release form number place) = record { least = 0; name = None; cell = 0 }
subject_of (ReleaseList form number places) = record { least = 0; name = None; cell = 0 }
subject_of (ReleaseWhole form number) = record { least = 0; name = None; cell = 0 }
subject_of (Build pool number size primary secondary loc) = record { least = 0; name = Some pool; cell = 0 }
subject_of (Get pool conditional) = record { least = 0; name = Some pool; cell = 0 }
subject_of (Free pool cell) = record { least = 0; name = Some pool; cell = cell }
subject_of (Delete pool) = record { least = 0; name = Some pool; cell = 0 }
subject_of (Attach name gifts residence) = record { least = 0; name = Some name; cell = 0 }
subject_of Return = record { least = 0; name = None; cell = 0 }
subject_of (Abend code) = record { least = 0; name = None; cell = 0 }
subject_of (Show from len) = record { least = 0; name = None; cell = 0 }
subject_of (Put to bytes) = record { least = 0; name = None; cell = 0 }
subject_of (Move to from len) = record { least = 0; name = None; cell = 0 }

abbrev pub least_of : Request → ℕ
least_of request = (subject_of request).least

abbrev pub name_of : Request → Option Name
name_of request = (subject_of request).name

-- a name, or nothing
abbrev pub name_text : Option Name → List ℕ
name_text None = []
name_text (Some name) = trimmed name

abbrev pub named : Request → List ℕ
named request = name_text (name_of request)

abbrev pub cell_of : Request → ℕ
cell_of request = (subject_of request).cell

-- ---- the texts

-- what holds a doubleword
abbrev pub holder_text : Holder → List ℕ
holder_text Nobody = codes " is free"
holder_text Outside = codes " lies in no region"
holder_text (Subpool number owner) = codes " is held by SP " ++ decimal number ++ codes " of " ++ trimmed owner
holder_text Unowned = codes " is held by a subpool of no task"
holder_text (Part name) = codes " is in pool " ++ trimmed name

-- what else there is where no place is long enough, and the begin of the rules
abbrev pub room_text : FreeSpace → List ℕ
room_text room = codes "; free runs: " ++ decimal room.runs ++ codes "; free pages: " ++ decimal room.below ++ codes " below, " ++ decimal room.above ++ codes " above. ("

-- of a length for which there is no place
abbrev pub shortage_text : Request → FreeSpace → List ℕ
shortage_text request room =
    decimal (least_of request) ++ codes " bytes requested in SP " ++ decimal (number_of request) ++ codes ", but the largest area that fits has " ++ decimal room.longest ++ codes " bytes" ++ room_text room
    ++ codes "rule 12)"

-- that other members of a list are before one
abbrev pub members_before : ℕ → List ℕ
members_before k = if k == 1 then [] else codes "after the members before it "

-- of a member of a list for which there is no place, once those before it are granted
abbrev pub no_member_text : ℕ → Shortfall → List ℕ
no_member_text k short =
    codes "Member " ++ decimal k ++ codes " of the list requests " ++ decimal short.bytes ++ codes " bytes, but " ++ members_before k ++ codes "the largest area that fits has " ++ decimal short.room.longest ++ codes " bytes"
    ++ room_text short.room ++ codes "rule 22)"

-- of a part of a pool for which there is no place
abbrev pub no_part_text : Request → ℕ → ℕ → FreeSpace → List ℕ
no_part_text request cells size room =
    codes "Pool " ++ named request ++ codes ": no room for " ++ decimal cells ++ codes " cells of " ++ decimal size ++ codes " bytes; the largest area that fits has " ++ decimal room.longest ++ codes " bytes"
    ++ room_text room ++ codes "rules 59, 61)"

-- of an address that is not on a doubleword
abbrev pub off_text : ℕ → List ℕ
off_text a = hex 8 a ++ codes " is not on a doubleword: offset " ++ decimal (a % 8) ++ codes " from " ++ hex 8 (8 * (a / 8)) ++ codes ". (rule 29)"

-- that a task shares a subpool of this number and owner: no task shares those of the numbers 131 and 132
abbrev pub sharing_text : Name → ℕ → Name → List ℕ
sharing_text t number owner = if same_name t owner || is_step_number number then [] else codes ", which " ++ trimmed t ++ codes " shares,"

-- the owner of the subpool that a task means by a number
abbrev pub owner_text : Name → ℕ → Option Name → List ℕ
owner_text t number (Some owner) = trimmed owner ++ sharing_text t number owner
owner_text t number None = codes "no task"

-- of a doubleword that the subpool of this number and owner, which a task means, does not hold
abbrev pub not_held_text : Name → ℕ → ℕ → Holder → Option Name → List ℕ
not_held_text t number a holder owner =
    hex 8 a ++ holder_text holder ++ codes "; SP " ++ decimal number ++ codes " of " ++ owner_text t number owner ++ codes " does not hold it outside cell pools. (rules 26, 66)"

-- of members of a list that overlap
abbrev pub overlap_text : ℕ → ℕ → ℕ → List ℕ
overlap_text one other a = codes "The members at " ++ hex 8 one ++ codes " and " ++ hex 8 other ++ codes " both contain the doubleword at " ++ hex 8 a ++ codes ". (rule 32)"

-- of a number under which a task has no subpool
abbrev pub no_subpool_text : Request → Name → List ℕ
no_subpool_text request effective_task = trimmed effective_task ++ codes " has no subpool " ++ decimal (number_of request) ++ codes ". (rule 26)"

-- where an address is, if no taken cell begins there
abbrev pub spot_text : CellPosition → List ℕ
spot_text Untaken = codes "that cell is free"
spot_text (Inside first) = codes "it is inside the cell at " ++ hex 8 first
spot_text Elsewhere = codes "it is in no cell of the pool"

-- of such an address
abbrev pub no_cell_text : Request → CellPosition → List ℕ
no_cell_text request spot = codes "No allocated cell of pool " ++ named request ++ codes " begins at " ++ hex 8 (cell_of request) ++ codes ": " ++ spot_text spot ++ codes ". (rule 63)"

-- of a subpool that a task only shares
abbrev pub not_owned_text : Name → ℕ → Name → List ℕ
not_owned_text t number owner = trimmed t ++ codes " shares SP " ++ decimal number ++ codes ", and only its owner " ++ trimmed owner ++ codes " can give it. (rule 48)"

-- of an active subtask
abbrev pub subtask_text : Name → Name → List ℕ
subtask_text t subtask = trimmed subtask ++ codes ", a subtask of " ++ trimmed t ++ codes ", is active. (rule 54)"

-- of a byte that may not be read and written
abbrev pub no_access_text : ℕ → Holder → List ℕ
no_access_text a holder = hex 8 a ++ holder_text holder ++ codes "; only obtained storage and allocated cells can be accessed. (rule 38)"

-- of what a request names, and of how many there can be
abbrev pub names_text : Request → Reason → List ℕ
names_text request PoolInUse = codes "A pool " ++ named request ++ codes " already exists. (rule 68)"
names_text request NoPool = codes "There is no pool " ++ named request ++ codes ". (rule 63)"
names_text request NoFreeCell = codes "No cell of pool " ++ named request ++ codes " is free, and COND does not add a part. (rule 60)"
names_text request (NoTakenCell spot) = no_cell_text request spot
names_text request (NoPart cells size room) = no_part_text request cells size room
names_text request TaskInUse = codes "A task " ++ named request ++ codes " is already active. (rule 51)"
names_text request TooManyPools = codes "64 pools exist, which is the limit. (rule 68)"
names_text request TooManyTasks = codes "32 tasks are active, which is the limit. (rule 51)"
names_text request WholeOfZero = codes "SP 0 cannot be released as a whole. (rule 35)"
names_text request NotActive = []
names_text request InvalidNumber = []
names_text request (Shortage room) = []
names_text request (NoMember k short) = []
names_text request (OffDoubleword a) = []
names_text request (NoSubpool effective_task) = []
names_text request (NotHeld a holder owner) = []
names_text request (Overlap one other a) = []
names_text request (NotOwned number owner) = []
names_text request (ActiveSubtask subtask) = []
names_text request Asked = []
names_text request (NoAccess a holder) = []

-- what a reason says of a task's request
abbrev pub reason_words : Name → Request → Reason → List ℕ
reason_words t request NotActive = trimmed t ++ codes " is not active: it has ended, or was never attached. (rule 73)"
reason_words t request InvalidNumber = codes "A program can use SP 0 to 127, 131 and 132, but not " ++ decimal (number_of request) ++ codes ". (rule 8)"
reason_words t request (Shortage room) = shortage_text request room
reason_words t request (NoMember k short) = no_member_text k short
reason_words t request (OffDoubleword a) = off_text a
reason_words t request (NoSubpool effective_task) = no_subpool_text request effective_task
reason_words t request (NotHeld a holder owner) = not_held_text t (number_of request) a holder owner
reason_words t request (Overlap one other a) = overlap_text one other a
reason_words t request (NotOwned number owner) = not_owned_text t number owner
reason_words t request (ActiveSubtask subtask) = subtask_text t subtask
reason_words t request Asked = trimmed t ++ codes " requests this abend. (rule 55)"
reason_words t request (NoAccess a holder) = no_access_text a holder
reason_words t request PoolInUse = names_text request PoolInUse
reason_words t request NoPool = names_text request NoPool
reason_words t request NoFreeCell = names_text request NoFreeCell
reason_words t request (NoTakenCell spot) = names_text request (NoTakenCell spot)
reason_words t request (NoPart cells size room) = names_text request (NoPart cells size room)
reason_words t request TaskInUse = names_text request TaskInUse
reason_words t request TooManyPools = names_text request TooManyPools
reason_words t request TooManyTasks = names_text request TooManyTasks
reason_words t request WholeOfZero = names_text request WholeOfZero

-- what the reason of a line says: a name is not set, or its task's request is refused
abbrev pub why_text : Name → Request → LineReason → List ℕ
why_text t request (NotSet name) = trimmed name ++ codes " is not set: no granted request of this step set it. (rule 74)"
why_text t request (Refused reason) = reason_words t request reason

-- a text as one line, which ends before a line feed of the text: only a name that no script has can have one
abbrev pub one_line : List ℕ → List ℕ
one_line text = before_first (λ b. b == 10) text ++ codes "\n"

-- the line of a reason, which is a comment in the language of scripts
abbrev pub reason_line : Name → Request → LineReason → List ℕ
reason_line t request reason = one_line (codes "* " ++ why_text t request reason)
