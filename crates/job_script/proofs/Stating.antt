-- The words of a line and its statement.
use Rattle.std.proofs.Common.{◌≡◌, ◌⊎◌, inl, inr, ℕ, List, [], ◌∷◌, drop, refl, sym, ap, ◌∙◌, true, false, Bool, Option, Some, Result, Ok, Err}
use Rattle.std.specs.Prelude.{◌==◌, ◌&&◌, not, filter, slice_get, unwrap_or, bytes_eq, codes, if◌then◌else◌}
use Rattle.std.specs.List.{list_any, slice_split}
use Rattle.std.proofs.lemmas.Bool.{not-true}
use Rattle.mvs_model.specs.declared.line.Fault.{Fault}
use Rattle.mvs_model.specs.declared.line.Fault.TheVariants.{UnknownOperation, OutOfPlace}
use Rattle.mvs_model.specs.declared.line.Line.{Line}
use Rattle.mvs_model.specs.Name.{padded}
use Rattle.mvs_model.specs.Reading.{first_of, statement_checks, task_in, operation_in, operands_of, words, is_empty, is_name, rows_of, operands_in}
use Rattle.job_script.specs.declared.operations.Operation.{Operation}
use Rattle.job_script.specs.declared.operations.Operation.TheVariants as operation
use Rattle.job_script.specs.Operations.{operation_text}
use Rattle.job_script.specs.Rowed.{FormReading, form_checks, operation_meaning, as_field}
use Rattle.job_script.specs.Stated.{is_in_place, field_of, StatementReading}

-- a name is a word
name_some : (text : List ℕ) → is_name text ≡ true → is_empty text ≡ false
name_some [] e = absurd (let f : false ≡ true = e in cc)
name_some (b ∷ bs) e = refl

-- the words of a line that begins with a name
pub task_words : (line task rest : List ℕ) → is_name task ≡ true → slice_split (λ b. b == 32) line ≡ task ∷ slice_split (λ b. b == 32) rest → words line ≡ task ∷ words rest
task_words line task rest n e =
    ap (filter (λ word. not (is_empty word))) e ∙ ap (λ b. if not b then (task ∷ words rest) else words rest) (name_some task n)

-- a word is not empty
kept_some : (ws : List (List ℕ)) → operands_in (slice_get (filter (λ word. not (is_empty word)) ws) 0) ≡ operands_in (as_field (unwrap_or (slice_get (filter (λ word. not (is_empty word)) ws) 0) []))
kept_some [] = refl
kept_some ([] ∷ ws) = kept_some ws
kept_some ((b ∷ bs) ∷ ws) = refl

pub first_field : (text : List ℕ) → operands_in (slice_get (words text) 0) ≡ operands_in (as_field (unwrap_or (slice_get (words text) 0) []))
first_field text = kept_some (slice_split (λ b. b == 32) text)

beyond_first : (ws : List (List ℕ)) → slice_get ws 1 ≡ slice_get (drop 1 ws) 0
beyond_first [] = refl
beyond_first (w ∷ ws) = refl

-- the operands of a line by its operation
pub operands_by : (o : Operation) (field : Option (List ℕ)) (rest : List ℕ) → operands_in field ≡ operands_in (as_field (unwrap_or (slice_get (words rest) 0) []))
    → (if list_any (λ row. row.has_field) (rows_of (operation_text o)) then operands_in field else []) ≡ operands_in (as_field (field_of o rest))
operands_by operation.Region field rest e = e
operands_by operation.Getmain field rest e = e
operands_by operation.Freemain field rest e = e
operands_by operation.Storage field rest e = e
operands_by operation.Cpool field rest e = e
operands_by operation.Attach field rest e = e
operands_by operation.Return field rest e = refl
operands_by operation.Abend field rest e = e
operands_by operation.Put field rest e = e
operands_by operation.Show field rest e = e
operands_by operation.Move field rest e = e
operands_by operation.Where field rest e = e
operands_by operation.Report field rest e = e

-- the field after an operation that has one
pub field_after : (o : Operation) (rest : List ℕ) → (o ≡ operation.Return → ⊥) → field_of o rest ≡ unwrap_or (slice_get (words rest) 0) []
field_after operation.Region rest other = refl
field_after operation.Getmain rest other = refl
field_after operation.Freemain rest other = refl
field_after operation.Storage rest other = refl
field_after operation.Cpool rest other = refl
field_after operation.Attach rest other = refl
field_after operation.Return rest other = absurd (other refl)
field_after operation.Abend rest other = refl
field_after operation.Put rest other = refl
field_after operation.Show rest other = refl
field_after operation.Move rest other = refl
field_after operation.Where rest other = refl
field_after operation.Report rest other = refl

abbrev is_return : Operation → Bool
is_return operation.Return = true
is_return operation.Region = false
is_return operation.Getmain = false
is_return operation.Freemain = false
is_return operation.Storage = false
is_return operation.Cpool = false
is_return operation.Attach = false
is_return operation.Abend = false
is_return operation.Put = false
is_return operation.Show = false
is_return operation.Move = false
is_return operation.Where = false
is_return operation.Report = false

-- an operation that is one of the others is not RETURN
pub not_return : (o : Operation) → ((o ≡ operation.Region) ⊎ ((o ≡ operation.Getmain) ⊎ ((o ≡ operation.Freemain) ⊎ ((o ≡ operation.Storage) ⊎ ((o ≡ operation.Cpool) ⊎ ((o ≡ operation.Attach) ⊎ ((o ≡ operation.Abend) ⊎ ((o ≡ operation.Put) ⊎ ((o ≡ operation.Show) ⊎ ((o ≡ operation.Move) ⊎ ((o ≡ operation.Where) ⊎ (o ≡ operation.Report)))))))))))) → o ≡ operation.Return → ⊥
not_return o h r = absurd (let f : true ≡ false = sym (ap is_return r) ∙ others h in cc) where
  others : ((o ≡ operation.Region) ⊎ ((o ≡ operation.Getmain) ⊎ ((o ≡ operation.Freemain) ⊎ ((o ≡ operation.Storage) ⊎ ((o ≡ operation.Cpool) ⊎ ((o ≡ operation.Attach) ⊎ ((o ≡ operation.Abend) ⊎ ((o ≡ operation.Put) ⊎ ((o ≡ operation.Show) ⊎ ((o ≡ operation.Move) ⊎ ((o ≡ operation.Where) ⊎ (o ≡ operation.Report)))))))))))) → is_return o ≡ false
  others (inl e) = ap is_return e
  others (inr (inl e)) = ap is_return e
  others (inr (inr (inl e))) = ap is_return e
  others (inr (inr (inr (inl e)))) = ap is_return e
  others (inr (inr (inr (inr (inl e))))) = ap is_return e
  others (inr (inr (inr (inr (inr (inl e)))))) = ap is_return e
  others (inr (inr (inr (inr (inr (inr (inl e))))))) = ap is_return e
  others (inr (inr (inr (inr (inr (inr (inr (inl e)))))))) = ap is_return e
  others (inr (inr (inr (inr (inr (inr (inr (inr (inl e))))))))) = ap is_return e
  others (inr (inr (inr (inr (inr (inr (inr (inr (inr (inl e)))))))))) = ap is_return e
  others (inr (inr (inr (inr (inr (inr (inr (inr (inr (inr (inl e))))))))))) = ap is_return e
  others (inr (inr (inr (inr (inr (inr (inr (inr (inr (inr (inr e))))))))))) = ap is_return e

-- what is known of a line when its operation is known
pub record Split (line task : List ℕ) (o : Operation) (field : List ℕ) : Type 0 where
  pub task_is : task_in line ≡ task
  pub operation_is : operation_in line ≡ operation_text o
  pub operands_are : operands_of line ≡ operands_in (as_field field)

pub split_line : (line task rest word trailing : List ℕ) (o : Operation) → task ≡ task_in line → is_name task ≡ true → slice_split (λ b. b == 32) line ≡ task ∷ slice_split (λ b. b == 32) rest
    → word ≡ unwrap_or (slice_get (words rest) 0) [] → words trailing ≡ drop 1 (words rest) → word ≡ operation_text o → Split line task o (field_of o trailing)
split_line line task rest word trailing o t n parts w ws is =
    let all = task_words line task rest n parts in
    let op : operation_in line ≡ operation_text o = ap (λ xs. unwrap_or (slice_get xs 1) []) all ∙ sym w ∙ is in
    let field : slice_get (words line) 2 ≡ slice_get (words trailing) 0 = ap (λ xs. slice_get xs 2) all ∙ beyond_first (words rest) ∙ ap (λ xs. slice_get xs 0) (sym ws) in
    record {
      task_is = sym t;
      operation_is = op;
      operands_are = ap (λ op. if list_any (λ row. row.has_field) (rows_of op) then operands_in (slice_get (words line) 2) else []) op
          ∙ operands_by o (slice_get (words line) 2) trailing (ap operands_in field ∙ first_field trailing);
    }

-- an operation that the table does not have
pub unknown_operation : (first : Bool) (line task rest word : List ℕ) → task ≡ task_in line → is_name task ≡ true → slice_split (λ b. b == 32) line ≡ task ∷ slice_split (λ b. b == 32) rest
    → word ≡ unwrap_or (slice_get (words rest) 0) [] → rows_of word ≡ [] → StatementReading first line (Err UnknownOperation)
unknown_operation first line task rest word t n parts w none =
    let all = task_words line task rest n parts in
    let op : operation_in line ≡ word = ap (λ xs. unwrap_or (slice_get xs 1) []) all ∙ sym w in
    let named : is_name (task_in line) ≡ true = ap is_name (sym t) ∙ n in
    let rows : rows_of (operation_in line) ≡ [] = ap rows_of op ∙ none in
    ap (λ b. if not b then Some UnknownOperation else first_of (drop 1 (statement_checks first (task_in line) (operation_in line) (operands_of line)))) named
    ∙ ap (λ rs. if is_empty rs then Some UnknownOperation else first_of (drop 2 (statement_checks first (task_in line) (operation_in line) (operands_of line)))) rows

-- each operation has rows
some_rows : (o : Operation) → is_empty (rows_of (operation_text o)) ≡ false
some_rows operation.Region = refl
some_rows operation.Getmain = refl
some_rows operation.Freemain = refl
some_rows operation.Storage = refl
some_rows operation.Cpool = refl
some_rows operation.Attach = refl
some_rows operation.Return = refl
some_rows operation.Abend = refl
some_rows operation.Put = refl
some_rows operation.Show = refl
some_rows operation.Move = refl
some_rows operation.Where = refl
some_rows operation.Report = refl

-- what its operation makes of a statement that stands in its place
to_form : (first : Bool) (task : List ℕ) (o : Operation) (os : List (List ℕ)) → is_name task ≡ true → is_in_place first (operation_text o) ≡ true → first_of (statement_checks first task (operation_text o) os) ≡ first_of (form_checks (operation_text o) os)
to_form first task o os n p =
    ap (λ b. if not b then Some UnknownOperation else first_of (drop 1 (statement_checks first task (operation_text o) os))) n
    ∙ ap (λ b. if b then Some UnknownOperation else first_of (drop 2 (statement_checks first task (operation_text o) os))) (some_rows o)
    ∙ ap (λ b. if b then Some OutOfPlace else first_of (form_checks (operation_text o) os)) (not-true (first && not (bytes_eq (operation_text o) (codes "REGION"))) p)

pub statement_read : (first : Bool) (line task : List ℕ) (o : Operation) (field : List ℕ) (result : Result Line Fault) → Split line task o field → is_name task ≡ true → is_in_place first (operation_text o) ≡ true
    → FormReading (operation_text o) (padded task) (operands_in (as_field field)) result → StatementReading first line result
statement_read first line task o field (Ok l) s n p reading = (
  (λ i. first_of (statement_checks first (s.task_is i) (s.operation_is i) (s.operands_are i))) ∙ to_form first task o (operands_in (as_field field)) n p ∙ reading.0,
  (λ i. operation_meaning (s.operation_is i) (padded (s.task_is i)) (s.operands_are i)) ∙ reading.1,
)
statement_read first line task o field (Err fault) s n p reading =
    (λ i. first_of (statement_checks first (s.task_is i) (s.operation_is i) (s.operands_are i))) ∙ to_form first task o (operands_in (as_field field)) n p ∙ reading
