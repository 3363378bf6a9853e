-- The texts of the answers to a statement.
use Rattle.std.specs.Prelude.{ℕ, ◌+◌, List, take, drop, length, bytes_eq, if◌then◌else◌, codes, decimal}
use Rattle.mvs_model.specs.Name.{trimmed}
use Rattle.schedules.specs.declared.step_line.StepLine.{StepLine}

-- the number of bytes before the text of an answer: the number of the line, and the task
abbrev pub head_length : StepLine → ℕ
head_length l = length (decimal l.number) + length (trimmed l.task) + 2

-- the number of bytes of an answer that has this text after `head` bytes, without an address: of AT the word, and of MAP the word in its first line
abbrev pub bytes_before_address : ℕ → List ℕ → ℕ
bytes_before_address head text =
    if bytes_eq (take 3 (drop head text)) (codes "AT ") then head + 2 else if bytes_eq (take 4 (drop head text)) (codes "MAP ") then head + 3 else length text

-- the text of an answer by which it is compared with others
abbrev pub compared : StepLine → List ℕ → List ℕ
compared l text = if l.ignores_addresses then take (bytes_before_address (head_length l) text) text else text
