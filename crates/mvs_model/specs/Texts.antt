-- The printed lines. (all of this is this project's own notation)
use Rattle.std.specs.Prelude.{ℕ, Bool, zero, suc, ◌+◌, ◌-◌, ◌/◌, ◌%◌, nat_lt, List, [], ◌∷◌, ◌++◌, take, drop, length, Option, Some, None, if◌then◌else◌, codes, decimal}
use Rattle.std.specs.List.{flat_map}
use Rattle.mvs_model.specs.declared.name.Name.{Name}
use Rattle.mvs_model.specs.declared.code.Code.{Code}
use Rattle.mvs_model.specs.declared.code.Code.TheVariants.{System, User}
use Rattle.mvs_model.specs.declared.line.Fault.{Fault}
use Rattle.mvs_model.specs.declared.line.Fault.TheVariants.{TooLong, InvalidByte, UnknownOperation, InvalidOperand, MissingOperand, OutOfRange, Repeated, Conflicting, OutOfPlace}
use Rattle.mvs_model.specs.declared.report.SubpoolLine.{SubpoolLine}
use Rattle.mvs_model.specs.declared.report.MapRun.{MapRun}
use Rattle.mvs_model.specs.Name.{trimmed}
use Rattle.mvs_model.specs.Card.{CardValue}
use Rattle.mvs_model.specs.Numbers.{line_bytes}
use Rattle.mvs_model.specs.Answers.{Answer, NotRun, NoName, At, Rc0, Granted, Rc4, Cell, NoCell, Attached, Ended, Done, Data, Abended, Subpools, Map, Region, Event, AnswerTo, StepEnded, Faulted}

-- the glyph of a digit, in upper case
abbrev pub glyph : ℕ → ℕ
glyph d = if nat_lt d 10 then 48 + d else 55 + d

-- the last k digits of n in a base of at most sixteen
unfoldable pub last_digits : ℕ → ℕ → ℕ → List ℕ
last_digits base zero n = []
last_digits base (suc k) n = last_digits base k (n / base) ++ glyph (n % base) ∷ []

-- the last k digits of n in base sixteen
abbrev pub hex : ℕ → ℕ → List ℕ
hex k n = last_digits 16 k n

-- one printed line: number, task, text
abbrev pub reply_line : ℕ → Name → List ℕ → List ℕ
reply_line number t text = decimal number ++ codes " " ++ trimmed t ++ codes " " ++ text ++ codes "\n"

-- a system code in three hexadecimal digits, a user code in four decimal ones
abbrev pub code_text : Code → List ℕ
code_text (System n) = codes "S" ++ hex 3 n
code_text (User n) = codes "U" ++ last_digits 10 4 n

-- the task that abended, and those that ended with it, a line each
abbrev pub abend_lines : ℕ → Name → Code → List Name → List ℕ
abend_lines number t code fallen =
    reply_line number t (codes "ABEND " ++ code_text code) ++ flat_map (λ x. reply_line number x (codes "ENDED WITH " ++ trimmed t)) fallen

-- the number of lines for a number of bytes
abbrev pub line_count : ℕ → ℕ
line_count n = (n + (line_bytes - 1)) / line_bytes

-- bytes on lines of a fixed length, from an offset on
unfoldable pub data_lines : ℕ → Name → ℕ → ℕ → List ℕ → List ℕ
data_lines number t zero offset bytes = []
data_lines number t (suc lines) offset bytes =
    reply_line number t (codes "DATA +" ++ hex 4 offset ++ codes " " ++ flat_map (hex 2) (take line_bytes bytes)) ++ data_lines number t lines (offset + line_bytes) (drop line_bytes bytes)

-- of REPORT SP: a number, whether its subpool is owned, and the bytes that this holds outside of pools and in them
abbrev pub subpool_text : SubpoolLine → List ℕ
subpool_text l =
    codes "SP " ++ decimal l.number ++ (if l.owned then codes " OWNED PLAIN " else codes " SHARED PLAIN ") ++ decimal l.plain ++ codes " POOL " ++ decimal l.pool

-- what pages are assigned to: the number under which the owner has the subpool, and the owner
abbrev pub label_text : Option (ℕ × Name) → List ℕ
label_text None = codes "FREE"
label_text (Some label) = codes "SP " ++ decimal label.0 ++ codes " OWNER " ++ trimmed label.1

-- of REPORT MAP: an address, how many bytes follow it, and what they are assigned to
abbrev pub map_text : MapRun → List ℕ
map_text r = codes "MAP " ++ hex 8 r.addr ++ codes " " ++ hex 8 r.len ++ codes " " ++ label_text r.holder

-- of a REGION statement: the pages below and above
abbrev pub region_text : CardValue → List ℕ
region_text card = codes "REGION BELOW " ++ decimal card.below ++ codes " ABOVE " ++ decimal card.above

-- what the line of an answer says that has one line
abbrev pub one_line_text : Answer → List ℕ
one_line_text NotRun = codes "NOT RUN"
one_line_text NoName = codes "NO NAME"
one_line_text (At a) = codes "AT " ++ hex 8 a
one_line_text Rc0 = codes "RC 0"
one_line_text (Granted n) = codes "RC 0 LENGTH " ++ hex 8 n
one_line_text Rc4 = codes "RC 4"
one_line_text Cell = codes "CELL"
one_line_text NoCell = codes "NO CELL"
one_line_text Attached = codes "ATTACHED"
one_line_text Ended = codes "ENDED"
one_line_text Done = codes "OK"
one_line_text (Region card) = region_text card
one_line_text (Data bytes) = []
one_line_text (Abended code fallen) = []
one_line_text (Subpools lines) = []
one_line_text (Map runs) = []

-- what is printed for an answer to a statement of the task
abbrev pub answer_text : ℕ → Name → Answer → List ℕ
answer_text number t (Data bytes) = data_lines number t (line_count (length bytes)) 0 bytes
answer_text number t (Abended code fallen) = abend_lines number t code fallen
answer_text number t (Subpools []) = reply_line number t (codes "SP NONE")
answer_text number t (Subpools (l ∷ lines)) = flat_map (λ l. reply_line number t (subpool_text l)) (l ∷ lines)
answer_text number t (Map runs) = flat_map (λ r. reply_line number t (map_text r)) runs
answer_text number t NotRun = reply_line number t (one_line_text NotRun)
answer_text number t NoName = reply_line number t (one_line_text NoName)
answer_text number t (At addr) = reply_line number t (one_line_text (At addr))
answer_text number t Rc0 = reply_line number t (one_line_text Rc0)
answer_text number t (Granted n) = reply_line number t (one_line_text (Granted n))
answer_text number t Rc4 = reply_line number t (one_line_text Rc4)
answer_text number t Cell = reply_line number t (one_line_text Cell)
answer_text number t NoCell = reply_line number t (one_line_text NoCell)
answer_text number t Attached = reply_line number t (one_line_text Attached)
answer_text number t Ended = reply_line number t (one_line_text Ended)
answer_text number t Done = reply_line number t (one_line_text Done)
answer_text number t (Region card) = reply_line number t (one_line_text (Region card))

-- the end of a step
abbrev pub step_ended : Bool → List ℕ
step_ended abended = if abended then codes "STEP ENDED RC 8\n" else codes "STEP ENDED RC 0\n"

-- the number of a fault
abbrev pub fault_number : Fault → ℕ
fault_number TooLong = 1
fault_number InvalidByte = 2
fault_number UnknownOperation = 3
fault_number InvalidOperand = 4
fault_number MissingOperand = 5
fault_number OutOfRange = 6
fault_number Repeated = 7
fault_number Conflicting = 8
fault_number OutOfPlace = 9

-- a line's fault, which ends the job
abbrev pub fault_text : ℕ → Fault → List ℕ
fault_text number fault = decimal number ++ codes " JS0" ++ decimal (fault_number fault) ++ codes "\nJOB FAULT RC 12\n"

-- what is printed for an event
abbrev pub text_of : Event → List ℕ
text_of (AnswerTo number t answer) = answer_text number t answer
text_of (StepEnded abended) = step_ended abended
text_of (Faulted number fault) = fault_text number fault

-- what is printed for events, one after another
abbrev pub printing : List Event → List ℕ
printing events = flat_map text_of events
