-- A remark after the operands of a statement says nothing.
use Rattle.std.proofs.Common.{◌≡◌, refl, not, true, false, Bool, ℕ, ◌<◌, ◌==◌, List, [], ◌∷◌, ◌++◌, length, ap, sym, ◌∙◌, arith, append_assoc}
use Rattle.std.specs.Prelude.{nat_lt, filter, slice_get, if◌then◌else◌}
use Rattle.std.specs.List.{list_all, before_first, slice_split, onto_first}
use Rattle.std.proofs.lemmas.List.Elements.{filter-append}
use Rattle.std.proofs.lemmas.List.Splits.{length-slice_split}
use Rattle.std.proofs.lemmas.Bool.{not-true}
use Rattle.mvs_model.specs.declared.line.Fault.{Fault}
use Rattle.mvs_model.specs.declared.line.Fault.TheVariants.{TooLong, InvalidByte}
use Rattle.mvs_model.specs.declared.line.Line.{Line}
use Rattle.mvs_model.specs.Reading.{◌when◌, LineOf, is_empty, is_name, operands_of, operation_in, is_blank_or_comment, statement_checks, task_in, words}
use Rattle.mvs_model.specs.Spelling.{IsWord}
use Rattle.mvs_model.proofs.Reading.{none_first}
use Rattle.mvs_model.proofs.ReadingWords.{only_words}
use Rattle.mvs_model.proofs.Spelling.{all_append, before_blank, blank_after, name_word, no_blank, plain, plain_word, says_something}

-- ---- the words of two texts with a blank between

onto_append : (x : ℕ) (parts more : List (List ℕ)) → 0 < length parts → onto_first x (parts ++ more) ≡ onto_first x parts ++ more
onto_append x [] more some = absurd (omega arith)
onto_append x (part ∷ parts) more some = refl

split_after : (xs rest : List ℕ) → slice_split (λ b. b == 32) (xs ++ 32 ∷ rest) ≡ slice_split (λ b. b == 32) xs ++ slice_split (λ b. b == 32) rest
split_after [] rest = refl
split_after (x ∷ xs) rest =
    elim (x == 32) as (λ c. (if c then [] ∷ slice_split (λ b. b == 32) (xs ++ 32 ∷ rest) else onto_first x (slice_split (λ b. b == 32) (xs ++ 32 ∷ rest)))
    ≡ (if c then [] ∷ slice_split (λ b. b == 32) xs else onto_first x (slice_split (λ b. b == 32) xs)) ++ slice_split (λ b. b == 32) rest) [
      | true ↦ ap (λ l. [] ∷ l) (split_after xs rest)
      | false ↦ ap (onto_first x) (split_after xs rest) ∙ onto_append x (slice_split (λ b. b == 32) xs) _ (omega (arith, length-slice_split (λ b. b == 32) xs))
    ]

words_after : (xs rest : List ℕ) → words (xs ++ 32 ∷ rest) ≡ words xs ++ words rest
words_after xs rest = ap (filter (λ word. not (is_empty word))) (split_after xs rest) ∙ filter-append (λ word. not (is_empty word)) (slice_split (λ b. b == 32) xs) (slice_split (λ b. b == 32) rest)

-- a word in front
word_beyond : (a rest : List ℕ) → IsWord a → words (a ++ (32 ∷ rest)) ≡ a ∷ words rest
word_beyond [] rest is = absurd (let f : true ≡ false = is.some in cc)
word_beyond (a ∷ az) rest is = ap (filter (λ word. not (is_empty word))) (blank_after (a ∷ az) rest is.printed)

-- a word alone
word_alone : (a : List ℕ) → IsWord a → words a ≡ a ∷ []
word_alone [] is = absurd (let f : true ≡ false = is.some in cc)
word_alone (a ∷ az) is = ap (filter (λ word. not (is_empty word))) (no_blank (a ∷ az) is.printed)

-- whether a text begins with a word
abbrev pub begins_word : List ℕ → Bool
begins_word [] = false
begins_word (b ∷ bs) = not (b == 32)

first_word : (field : List ℕ) → begins_word field ≡ true → (w : List ℕ) × (ws : List (List ℕ)) × (words field ≡ w ∷ ws)
first_word [] e = absurd (let f : false ≡ true = e in cc)
first_word (b ∷ bs) e =
    let shape = parts (slice_split (λ b. b == 32) bs) (omega (arith, length-slice_split (λ b. b == 32) bs)) in (
      b ∷ shape.0,
      filter (λ word. not (is_empty word)) shape.1,
      ap (filter (λ word. not (is_empty word))) (ap (λ c. if c then [] ∷ slice_split (λ b. b == 32) bs else onto_first b (slice_split (λ b. b == 32) bs)) (not-true (b == 32) e) ∙ ap (onto_first b) shape.2),
    )
  where
    parts : (l : List (List ℕ)) → 0 < length l → (p : List ℕ) × (ps : List (List ℕ)) × (l ≡ p ∷ ps)
    parts [] some = absurd (omega arith)
    parts (p ∷ ps) some = (p, ps, refl)

-- ---- lines

-- what is looked for after the length and the bytes of a line
abbrev further : Bool → List ℕ → List (Fault × Bool)
further first line = if is_blank_or_comment line then [] else statement_checks first (task_in line) (operation_in line) (operands_of line)

bytes_and_more : (first : Bool) (line : List ℕ) (l : Line) → LineOf first line l → (nat_lt 255 (length line) ≡ false) × (list_all plain line ≡ true)
bytes_and_more first line l is =
    let all = none_first (TooLong when nat_lt 255 (length line)) (InvalidByte when not (list_all plain line) ∷ further first line) is.no_fault in
    let bytes = none_first (InvalidByte when not (list_all plain line)) (further first line) all.1 in
    (all.0, (elim (list_all plain line) as (λ b. not b ≡ false → b ≡ true) [ true ↦ λ e. refl | false ↦ λ e. absurd (let f : true ≡ false = e in cc) ]) bytes.0)

-- what a line is that is read: short enough, and of plain bytes
is_short : (first : Bool) (line : List ℕ) (l : Line) → LineOf first line l → nat_lt 255 (length line) ≡ false
is_short first line l is = (bytes_and_more first line l is).0

is_plain : (first : Bool) (line : List ℕ) (l : Line) → LineOf first line l → list_all plain line ≡ true
is_plain first line l is = (bytes_and_more first line l is).1

-- the words of the line of a task with an operation and its operands
line_words : (task operation field : List ℕ) → is_name task ≡ true → IsWord operation → words (task ++ (32 ∷ (operation ++ (32 ∷ field)))) ≡ task ∷ operation ∷ words field
line_words task operation field named is = word_beyond task (operation ++ (32 ∷ field)) (name_word task named) ∙ ap (λ l. task ∷ l) (word_beyond operation field is)

pub with_remark : (first : Bool) (task operation field remark : List ℕ) (l : Line) → is_name task ≡ true → IsWord operation → begins_word field ≡ true → list_all plain remark ≡ true
    → nat_lt 255 (length ((task ++ (32 ∷ (operation ++ (32 ∷ field)))) ++ (32 ∷ remark))) ≡ false
    → LineOf first (task ++ (32 ∷ (operation ++ (32 ∷ field)))) l → LineOf first ((task ++ (32 ∷ (operation ++ (32 ∷ field)))) ++ (32 ∷ remark)) l
with_remark first task operation field remark l named is_word begins are_plain short is =
    let text : List ℕ = task ++ (32 ∷ (operation ++ (32 ∷ field))) in
    let w = first_word field begins in
    let one : words text ≡ task ∷ operation ∷ w.0 ∷ w.1 = line_words task operation field named is_word ∙ ap (λ l. task ∷ operation ∷ l) w.2 in
    let both : words (text ++ (32 ∷ remark)) ≡ (task ∷ operation ∷ w.0 ∷ w.1) ++ words remark = words_after text remark ∙ ap (λ l. l ++ words remark) one in
    let apart : text ++ (32 ∷ remark) ≡ task ++ (32 ∷ ((operation ++ (32 ∷ field)) ++ (32 ∷ remark))) = append_assoc task (32 ∷ (operation ++ (32 ∷ field))) (32 ∷ remark) in
    let front : before_first (λ b. b == 32) text ≡ task = before_blank task _ (name_word task named).printed in
    let front_too : before_first (λ b. b == 32) (text ++ (32 ∷ remark)) ≡ task = ap (before_first (λ b. b == 32)) apart ∙ before_blank task _ (name_word task named).printed in
    (only_words first text (text ++ (32 ∷ remark)) (record {
      length_same = is_short first text l is ∙ sym short;
      bytes_same = is_plain first text l is ∙ sym (all_append plain text (32 ∷ remark) (is_plain first text l is) are_plain);
      nothing_same = says_something task _ named ∙ sym (ap is_blank_or_comment apart ∙ says_something task _ named);
      task_same = front ∙ sym front_too;
      operation_same = (λ i. slice_get (one i) 1) ∙ sym (λ i. slice_get (both i) 1);
      field_same = (λ i. slice_get (one i) 2) ∙ sym (λ i. slice_get (both i) 2);
    })).0 l is

-- the line of a statement without operands, with and without the blank after it
pub without_blank : (first : Bool) (task operation : List ℕ) (l : Line) → is_name task ≡ true → IsWord operation → nat_lt 255 (length (task ++ (32 ∷ operation))) ≡ false
    → LineOf first (task ++ (32 ∷ (operation ++ (32 ∷ [])))) l → LineOf first (task ++ (32 ∷ operation)) l
without_blank first task operation l named is_word short is =
    let is_task = name_word task named in
    let one : words (task ++ (32 ∷ (operation ++ (32 ∷ [])))) ≡ task ∷ operation ∷ [] = line_words task operation [] named is_word in
    let other : words (task ++ (32 ∷ operation)) ≡ task ∷ operation ∷ [] = word_beyond task operation is_task ∙ ap (λ l. task ∷ l) (word_alone operation is_word) in
    (only_words first (task ++ (32 ∷ (operation ++ (32 ∷ [])))) (task ++ (32 ∷ operation)) (record {
      length_same = is_short first _ l is ∙ sym short;
      bytes_same = is_plain first _ l is ∙ sym (all_append plain task (32 ∷ operation) (plain_word task is_task) (plain_word operation is_word));
      nothing_same = says_something task _ named ∙ sym (says_something task _ named);
      task_same = before_blank task _ is_task.printed ∙ sym (before_blank task _ is_task.printed);
      operation_same = (λ i. slice_get (one i) 1) ∙ sym (λ i. slice_get (other i) 1);
      field_same = (λ i. slice_get (one i) 2) ∙ sym (λ i. slice_get (other i) 2);
    })).0 l is
