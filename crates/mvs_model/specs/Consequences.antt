-- What becomes of a request that is refused: one table.
use Rattle.std.specs.Prelude.{Bool, if◌then◌else◌}
use Rattle.mvs_model.specs.declared.name.Name.{Name}
use Rattle.mvs_model.specs.declared.code.Form.{Form}
use Rattle.mvs_model.specs.declared.code.Code.{Code}
use Rattle.mvs_model.specs.declared.code.Code.TheVariants.{User}
use Rattle.mvs_model.specs.declared.request.Request.{Request}
use Rattle.mvs_model.specs.declared.request.Reply.{Reply}
use Rattle.mvs_model.specs.declared.request.Reply.TheVariants as answer
use Rattle.mvs_model.specs.declared.refusal.Refusal.{Refusal}
use Rattle.mvs_model.specs.declared.refusal.Refusal.TheVariants.{NotActive, InvalidNumber, Shortage, Member, NoPart, OffDoubleword, NoSubpool, NotHeld, Overlap, WholeOfZero, PoolInUse, TooManyPools, NoPool, NoFreeCell, NoTakenCell, TaskInUse, TooManyTasks, NotOwned, ActiveSubtask, Asked, NoAccess}
use Rattle.mvs_model.specs.declared.refusal.Consequence.{Consequence}
use Rattle.mvs_model.specs.declared.refusal.Consequence.TheVariants.{NotRun, Rc4, NoCell, Abend}
use Rattle.mvs_model.specs.State.{State}
use Rattle.mvs_model.specs.Codes.{family, is_conditional, short, bad_subpool, bad_address, not_held, whole_of_zero, pool_in_use, too_many_pools, no_such_pool, no_such_cell, active_subtask, no_access, task_in_use, too_many_tasks, not_owned}
use Rattle.std.specs.Prelude.{◌≡◌, true, false}
use Rattle.mvs_model.specs.declared.code.Form.TheVariants.{Storage}
use Rattle.mvs_model.specs.declared.request.Request.TheVariants.{Obtain, ObtainList, Release, ReleaseList, ReleaseWhole, Build, Get}
use Rattle.mvs_model.specs.Changes.{End}

-- the form of a request: those for cells and the others have the codes of STORAGE. (this project's choice)
abbrev pub form_of : Request → Form
form_of (Obtain form number ask) = form
form_of (ObtainList form number lengths start) = form
form_of (Release form number p) = form
form_of (ReleaseList form number ps) = form
form_of (ReleaseWhole form number) = form
form_of _ = Storage

-- whether a request obtains storage
abbrev pub obtains : Request → Bool
obtains (Obtain form number ask) = true
obtains (ObtainList form number lengths start) = true
obtains (Build name number size primary secondary loc) = true
obtains (Get name conditional) = true
obtains _ = false

-- a conditional request is answered 4, and an unconditional one abends. (Assembler Services Reference, GETMAIN)
abbrev pub failure : Form → Code → Consequence
failure form code = if is_conditional form then Rc4 else Abend code

-- the same by the codes of a form and of whether storage is obtained
abbrev pub by_form : Form → Bool → Refusal → Consequence
by_form form obtaining NotActive = NotRun
by_form form obtaining InvalidNumber = Abend (bad_subpool (family form) obtaining)
by_form form obtaining Shortage = failure form (short (family form))
by_form form obtaining (Member k) = failure form (short (family form))
by_form form obtaining NoPart = failure form (short (family form))
by_form form obtaining OffDoubleword = Abend (bad_address (family form))
by_form form obtaining NoSubpool = failure form (not_held (family form))
by_form form obtaining NotHeld = failure form (not_held (family form))
by_form form obtaining Overlap = failure form (not_held (family form))
by_form form obtaining WholeOfZero = Abend whole_of_zero
by_form form obtaining PoolInUse = Abend pool_in_use
by_form form obtaining TooManyPools = Abend too_many_pools
by_form form obtaining NoPool = Abend no_such_pool
by_form form obtaining NoFreeCell = NoCell
by_form form obtaining NoTakenCell = Abend no_such_cell
by_form form obtaining TaskInUse = Abend task_in_use
by_form form obtaining TooManyTasks = Abend too_many_tasks
by_form form obtaining NotOwned = Abend not_owned
by_form form obtaining ActiveSubtask = Abend active_subtask
by_form form obtaining (Asked n) = Abend (User n)
by_form form obtaining NoAccess = Abend no_access

-- what a refusal of the request is answered
abbrev pub reply_to : Request → Refusal → Consequence
reply_to request refusal = by_form (form_of request) (obtains request) refusal

-- An abend: the task and its descendants end, and the reply names the descendants. (Assembler Services Guide, subtasking)
abbrev pub Abends : State → Name → Code → Reply → State → Type 0
Abends old t code reply new = (e : End old t new) × (reply ≡ answer.Abended code e.fallen)

-- A refusal without an abend: nothing changes.
abbrev pub Refuses : State → Reply → Reply → State → Type 0
Refuses old answer reply new = (reply ≡ answer) × (new ≡ old)

-- A refused request changes nothing, or ends its task.
abbrev pub Settles : State → Name → Consequence → Reply → State → Type 0
Settles old t NotRun reply new = Refuses old answer.NotRun reply new
Settles old t Rc4 reply new = Refuses old answer.Rc4 reply new
Settles old t NoCell reply new = Refuses old answer.NoCell reply new
Settles old t (Abend code) reply new = Abends old t code reply new
