-- Why a request was refused, for C. The numbers of the kinds, the holders and the positions are this project's choice; those of the rules
-- are the rules of RULES.md that the text of a reason names.
use Rattle.std.specs.Prelude.{refl, ℕ, List, [], replicate, Option, Some, None}
use Rattle.std.specs.Coded.{Coded, code_by, coded×, coded_list, coded_ℕ, coded_option}
use Rattle.explanation.specs.ReasonTexts.{cell_of, least_of, name_of, reason_line}
use Rattle.mvs_model.specs.declared.name.Name.{Name}
use Rattle.mvs_model.specs.declared.request.Request.{Request}
use Rattle.mvs_model.specs.declared.reason.Holder.{Holder}
use Rattle.mvs_model.specs.declared.reason.Holder.TheVariants.{Nobody, Outside, Subpool, Unowned, Part}
use Rattle.mvs_model.specs.declared.reason.CellPosition.{CellPosition}
use Rattle.mvs_model.specs.declared.reason.CellPosition.TheVariants.{Untaken, Inside, Elsewhere}
use Rattle.mvs_model.specs.declared.reason.FreeSpace.{FreeSpace}
use Rattle.mvs_model.specs.declared.reason.LineReason.TheVariants.{Refused}
use Rattle.mvs_model.specs.declared.reason.Reason.{Reason}
use Rattle.mvs_model.specs.declared.reason.Reason.TheVariants.{NotActive, InvalidNumber, Shortage, NoMember, NoPart, OffDoubleword, NoSubpool, NotHeld, Overlap, WholeOfZero, PoolInUse, TooManyPools, NoPool, NoFreeCell, NoTakenCell, TaskInUse, TooManyTasks, NotOwned, ActiveSubtask, Asked, NoAccess}
use Rattle.mvs_model.specs.Reasons.{number_of}
use Rattle.mvs_c.specs.declared.reason.ReasonFields.{ReasonFields}
use Rattle.mvs_c.specs.contracts.reason.ReasonFields.{the_row}

-- the number of bytes of a reason
abbrev pub reason_bytes : ℕ
reason_bytes = 100

-- eight blanks, which are no name
abbrev pub blank_name : Name
blank_name = replicate 8 32

-- a name, or blanks
abbrev pub name_or_blank : Option Name → Name
name_or_blank None = blank_name
name_or_blank (Some name) = name

-- the cell pool or the subtask that a request names
abbrev pub name_in : Request → Name
name_in request = name_or_blank (name_of request)

-- a reason of a kind, with its rules and no other field
abbrev pub of_rules : ℕ → ℕ → ℕ → ReasonFields
of_rules kind rule second = record {
  size = reason_bytes;
  kind = kind;
  rule = rule;
  second_rule = second;
  address = 0;
  number = 0;
  length = 0;
  member = 0;
  cells = 0;
  cell_size = 0;
  longest = 0;
  free_runs = 0;
  pages_below = 0;
  pages_above = 0;
  first_address = 0;
  second_address = 0;
  position = 0;
  holder = 0;
  holder_number = 0;
  holder_name = blank_name;
  task = blank_name;
  name = blank_name;
}

-- the kinds of reasons, and the rules
abbrev pub of_kind : Reason → ReasonFields
of_kind NotActive = of_rules 1 73 0
of_kind InvalidNumber = of_rules 2 8 0
of_kind (Shortage room) = of_rules 3 12 0
of_kind (NoMember k short) = of_rules 4 22 0
of_kind (NoPart cells size room) = of_rules 5 59 61
of_kind (OffDoubleword a) = of_rules 6 29 0
of_kind (NoSubpool task) = of_rules 7 26 0
of_kind (NotHeld a holder owner) = of_rules 8 26 66
of_kind (Overlap one other a) = of_rules 9 32 0
of_kind WholeOfZero = of_rules 10 35 0
of_kind PoolInUse = of_rules 11 68 0
of_kind TooManyPools = of_rules 12 68 0
of_kind NoPool = of_rules 13 63 0
of_kind NoFreeCell = of_rules 14 60 0
of_kind (NoTakenCell spot) = of_rules 15 63 0
of_kind TaskInUse = of_rules 16 51 0
of_kind TooManyTasks = of_rules 17 51 0
of_kind (NotOwned number owner) = of_rules 18 48 0
of_kind (ActiveSubtask task) = of_rules 19 54 0
of_kind Asked = of_rules 20 55 0
of_kind (NoAccess a holder) = of_rules 21 38 0

-- what room there is, if no place is long enough
abbrev pub with_room : ReasonFields → FreeSpace → ReasonFields
with_room f room = record f { longest = room.longest; free_runs = room.runs; pages_below = room.below; pages_above = room.above }

-- what holds the address
abbrev pub with_holder : ReasonFields → Holder → ReasonFields
with_holder f Nobody = record f { holder = 1 }
with_holder f Outside = record f { holder = 2 }
with_holder f (Subpool number owner) = record f { holder = 3; holder_number = number; holder_name = owner }
with_holder f (Part name) = record f { holder = 4; holder_name = name }
with_holder f Unowned = record f { holder = 5 }

-- where the address is, if it is not that of a taken cell: it is that of a free cell, in the cell that begins there, or in no cell
abbrev pub with_position : ReasonFields → CellPosition → ReasonFields
with_position f Untaken = record f { position = 1 }
with_position f (Inside first) = record f { position = 2; first_address = first }
with_position f Elsewhere = record f { position = 3 }

-- why a task's request was refused
abbrev pub reason_value : Name → Request → Reason → ReasonFields
reason_value t request NotActive = record (of_kind NotActive) { task = t }
reason_value t request InvalidNumber = record (of_kind InvalidNumber) { number = number_of request }
reason_value t request (Shortage room) = with_room (record (of_kind (Shortage room)) { number = number_of request; length = least_of request }) room
reason_value t request (NoMember k short) = with_room (record (of_kind (NoMember k short)) { number = number_of request; length = short.bytes; member = k }) short.room
reason_value t request (NoPart cells size room) = with_room (record (of_kind (NoPart cells size room)) { name = name_in request; cells = cells; cell_size = size }) room
reason_value t request (OffDoubleword a) = record (of_kind (OffDoubleword a)) { address = a }
reason_value t request (NoSubpool task) = record (of_kind (NoSubpool task)) { number = number_of request; task = task }
reason_value t request (NotHeld a holder owner) = with_holder (record (of_kind (NotHeld a holder owner)) { address = a; number = number_of request; task = name_or_blank owner }) holder
reason_value t request (Overlap one other a) = record (of_kind (Overlap one other a)) { address = a; first_address = one; second_address = other }
reason_value t request WholeOfZero = of_kind WholeOfZero
reason_value t request PoolInUse = record (of_kind PoolInUse) { name = name_in request }
reason_value t request TooManyPools = of_kind TooManyPools
reason_value t request NoPool = record (of_kind NoPool) { name = name_in request }
reason_value t request NoFreeCell = record (of_kind NoFreeCell) { name = name_in request }
reason_value t request (NoTakenCell spot) = with_position (record (of_kind (NoTakenCell spot)) { address = cell_of request; name = name_in request }) spot
reason_value t request TaskInUse = record (of_kind TaskInUse) { name = name_in request }
reason_value t request TooManyTasks = of_kind TooManyTasks
reason_value t request (NotOwned number owner) = record (of_kind (NotOwned number owner)) { number = number; task = owner }
reason_value t request (ActiveSubtask task) = record (of_kind (ActiveSubtask task)) { task = task }
reason_value t request Asked = record (of_kind Asked) { task = t }
reason_value t request (NoAccess a holder) = with_holder (record (of_kind (NoAccess a holder)) { address = a }) holder

-- Why the last request was refused: the line that says it, and the fields. If it was granted, the line is empty, and there are no
-- fields.
pub record WhyValue : Type 0 where
  pub text : List ℕ
  pub fields : Option ReasonFields

-- a code, for a model's value
abbrev pub why_code : Coded WhyValue
why_code = code_by (List ℕ × Option ReasonFields) (coded× (coded_list coded_ℕ) (coded_option the_row.coded)) (λ w. (w.text, w.fields)) (λ p. record { text = p.0; fields = p.1 }) (λ _. refl)

-- no reason
abbrev pub no_why : WhyValue
no_why = record { text = []; fields = None }

-- the reason of a refused request
abbrev pub why_value : Name → Request → Reason → WhyValue
why_value t request reason = record { text = reason_line t request (Refused reason); fields = Some (reason_value t request reason) }
