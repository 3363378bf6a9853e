-- The text for what a request did, and for what is freed at the end of a task, with the rules of RULES.md. (this project's own
-- notation)
use Rattle.std.specs.Prelude.{ℕ, ◌-◌, ◌==◌, List, ◌++◌, codes, decimal, if◌then◌else◌}
use Rattle.mvs_model.specs.declared.fact.Fact.{Fact}
use Rattle.mvs_model.specs.declared.fact.Fact.TheVariants.{Obtained, NoGreater, NewSubpool, PagesTaken, PagesFreed, Emptied, CellTaken, PartAdded, Given, Shared}
use Rattle.mvs_model.specs.declared.name.Name.{Name}
use Rattle.mvs_model.specs.Name.{trimmed}
use Rattle.mvs_model.specs.Place.{PlaceValue}
use Rattle.mvs_model.specs.Texts.{hex}
use Rattle.explanation.specs.ReasonTexts.{one_line}

-- how many pages
abbrev pub pages_text : ℕ → List ℕ
pages_text n = decimal n ++ (if n == 1 then codes " page" else codes " pages")

-- for a subpool that is freed with its owner: its number, the owner, the bytes that it held, and its pages
abbrev pub freed_text_of : ℕ → Name → ℕ → ℕ → List ℕ
freed_text_of number owner bytes pages =
    codes "SP " ++ decimal number ++ codes " of " ++ trimmed owner ++ codes " is freed: " ++ decimal bytes ++ codes " bytes in " ++ pages_text pages ++ codes ". (rule 52)"

-- the line of it, which is a comment in the language of scripts
abbrev pub freed_line : ℕ → Name → ℕ → ℕ → List ℕ
freed_line number owner bytes pages = one_line (codes "* " ++ freed_text_of number owner bytes pages)

-- for a subpool that remains when a task ends that shared it
abbrev pub stays_text : ℕ → Name → Name → List ℕ
stays_text number owner task = codes "SP " ++ decimal number ++ codes " of " ++ trimmed owner ++ codes " remains: " ++ trimmed task ++ codes " shared it. (rule 53)"

-- the line of it
abbrev pub stays_line : ℕ → Name → Name → List ℕ
stays_line number owner task = one_line (codes "* " ++ stays_text number owner task)

-- ---- a request

-- of a subpool: the number under which its owner has it, and the owner
abbrev pub subpool_words : ℕ → Name → List ℕ
subpool_words number owner = codes "SP " ++ decimal number ++ codes " of " ++ trimmed owner

-- of a place
abbrev pub place_text : PlaceValue → List ℕ
place_text p = decimal p.len ++ codes " bytes at " ++ hex 8 p.addr

-- of bytes that were added
abbrev pub added_text : ℕ → List ℕ
added_text n = codes ", " ++ decimal n ++ codes " of them added by rounding. (rule 3)"

-- for the one length that was requested, after the length that was obtained
abbrev pub rounded_text : ℕ → ℕ → List ℕ
rounded_text len asked = if len == asked then codes ". (rule 24)" else added_text (len - asked)

-- of two of them
abbrev pub between_text : ℕ → ℕ → List ℕ
between_text least most = codes ", " ++ decimal least ++ codes " to " ++ decimal most ++ codes " requested. (rule 20)"

-- of the lengths that were asked for
abbrev pub requested_text : ℕ → ℕ → ℕ → List ℕ
requested_text len least most = if least == most then rounded_text len most else between_text least most

-- of an area that was obtained
abbrev pub obtained_text : Name → PlaceValue → ℕ → Name → List ℕ
obtained_text area place number owner = trimmed area ++ codes " is " ++ place_text place ++ codes " in " ++ subpool_words number owner

-- how many pages do something
abbrev pub pages_do : ℕ → List ℕ → List ℕ → List ℕ
pages_do n one more = pages_text n ++ (if n == 1 then one else more)

-- of pages that were taken
abbrev pub pages_taken_text : ℕ → List ℕ
pages_taken_text n = if n == 0 then codes "No page was newly assigned. (rule 4)" else pages_do n (codes " was newly assigned. (rule 5)") (codes " were newly assigned. (rule 5)")

-- how many cells
abbrev pub cells_text : ℕ → List ℕ
cells_text n = decimal n ++ (if n == 1 then codes " cell" else codes " cells")

-- of a cell that was taken
abbrev pub cell_text : Name → Name → PlaceValue → List ℕ
cell_text cell pool place = trimmed cell ++ codes " is a cell of pool " ++ trimmed pool ++ codes ": " ++ place_text place ++ codes ". (rule 60)"

-- of a part that a pool gets
abbrev pub part_text : Name → ℕ → ℕ → PlaceValue → List ℕ
part_text pool cells size place =
    codes "Pool " ++ trimmed pool ++ codes " has a new part for " ++ cells_text cells ++ codes " of " ++ decimal size ++ codes " bytes: " ++ place_text place ++ codes ". (rule 57)"

-- of a subpool that a subtask was given, and of one that it shares
abbrev pub given_text : Name → ℕ → Name → List ℕ
given_text subtask number mother = trimmed subtask ++ codes " now owns SP " ++ decimal number ++ codes ", given by " ++ trimmed mother ++ codes ". (rule 43)"

abbrev pub shared_text : Name → ℕ → Name → List ℕ
shared_text subtask number owner = trimmed subtask ++ codes " shares " ++ subpool_words number owner ++ codes ". (rule 44)"

-- of a length that had no place
abbrev pub no_greater_text : ℕ → ℕ → List ℕ
no_greater_text below above = codes "No greater length fits; free pages before: " ++ decimal below ++ codes " below, " ++ decimal above ++ codes " above. (rule 20)"

-- what a fact says
abbrev pub fact_text : Fact → List ℕ
fact_text (Obtained area place least most number owner) = obtained_text area place number owner ++ requested_text place.len least most
fact_text (NoGreater below above) = no_greater_text below above
fact_text (NewSubpool number owner) = subpool_words number owner ++ codes " is new. (rule 42)"
fact_text (PagesTaken n) = pages_taken_text n
fact_text (PagesFreed n) = pages_do n (codes " became free. (rule 5)") (codes " became free. (rule 5)")
fact_text (Emptied number owner) = subpool_words number owner ++ codes " is now empty. (rule 34)"
fact_text (CellTaken cell pool place) = cell_text cell pool place
fact_text (PartAdded pool cells size place) = part_text pool cells size place
fact_text (Given subtask number mother) = given_text subtask number mother
fact_text (Shared subtask number owner) = shared_text subtask number owner

-- the line of a fact, which is a comment in the language of scripts
abbrev pub fact_line : Fact → List ℕ
fact_line fact = one_line (codes "* " ++ fact_text fact)
