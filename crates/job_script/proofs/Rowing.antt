-- Operands, read by their row.
use Rattle.std.proofs.Common.{◌≡◌, ℕ, List, [], ◌∷◌, drop, refl, sym, ap, subst, ◌∙◌, true, false, Bool, Option, Some, None, Result, Ok, Err}
use Rattle.std.specs.Prelude.{◌&&◌, ◌||◌, not, is_some, MatchOption, flat_map, if◌then◌else◌}
use Rattle.std.specs.Option.{option_map}
use Rattle.std.specs.List.{list_any}
use denote.Bor.{Bor}
use Rattle.mvs_model.specs.declared.name.Name.{Name}
use Rattle.mvs_model.specs.declared.line.Fault.{Fault}
use Rattle.mvs_model.specs.declared.line.Fault.TheVariants.{MissingOperand, Conflicting, UnknownOperation}
use Rattle.mvs_model.specs.declared.line.Line.{Line}
use Rattle.mvs_model.specs.declared.line.Line.TheVariants as line
use Rattle.mvs_model.specs.declared.line.Statement.{Statement}
use Rattle.mvs_model.specs.Grammar as grammar
use Rattle.mvs_model.specs.Reading.{ByKey, by_key, first_of, operand_checks, with_left, lacks_positional, lacks_keyword, is_half, is_conflict, statement_of, ◌when◌, ◌>>=◌, is_empty, has_key, takes_form, form_in, row_of, operands_after_form, row_checks, operands_in, parts_within}
use Rattle.mvs_model.proofs.Reading.{IsEnough, all_enough, none_first, or_false}
use Rattle.job_script.specs.declared.given.GivenOperands.{GivenOperands}
use Rattle.job_script.specs.declared.rows.Row.{Row}
use Rattle.job_script.specs.declared.rows.Row.TheVariants as row
use Rattle.job_script.specs.declared.operations.Operation.{Operation}
use Rattle.job_script.specs.declared.operations.Operation.TheVariants as operation
use Rattle.job_script.specs.Rows.{row_at}
use Rattle.job_script.specs.GivenOperands.{IsGiven, by_place, field_now}
use Rattle.job_script.specs.Parted.{field_in}
use Rattle.job_script.specs.Operations.{operation_text, row_with}
use Rattle.job_script.specs.Rowed.{RowReading, FormReading, checks_after_form, form_checks, as_field}
use Rattle.job_script.specs.LineMeaning.{line_of_task}
use Rattle.job_script.proofs.Taking.{is_first_after, first_front}
use Rattle.std.proofs.lemmas.Bool.{and_right}

-- each row requires what its statement needs
row_enough : (r : Row) → IsEnough (row_at r)
row_enough row.Region = all_enough.0
row_enough row.GetmainFixed = all_enough.1.0
row_enough row.GetmainFixedPlaced = all_enough.1.1.0
row_enough row.GetmainVariable = all_enough.1.1.1.0
row_enough row.GetmainVariablePlaced = all_enough.1.1.1.1.0
row_enough row.GetmainList = all_enough.1.1.1.1.1.0
row_enough row.StorageObtain = all_enough.1.1.1.1.1.1.0
row_enough row.FreemainOrWhole = all_enough.1.1.1.1.1.1.1.0
row_enough row.FreemainPlace = all_enough.1.1.1.1.1.1.1.1.0
row_enough row.FreemainArea = all_enough.1.1.1.1.1.1.1.1.1.0
row_enough row.FreemainList = all_enough.1.1.1.1.1.1.1.1.1.1.0
row_enough row.StorageRelease = all_enough.1.1.1.1.1.1.1.1.1.1.1.0
row_enough row.CpoolBuild = all_enough.1.1.1.1.1.1.1.1.1.1.1.1.0
row_enough row.CpoolGet = all_enough.1.1.1.1.1.1.1.1.1.1.1.1.1.0
row_enough row.CpoolFree = all_enough.1.1.1.1.1.1.1.1.1.1.1.1.1.1.0
row_enough row.CpoolDelete = all_enough.1.1.1.1.1.1.1.1.1.1.1.1.1.1.1.0
row_enough row.Attach = all_enough.1.1.1.1.1.1.1.1.1.1.1.1.1.1.1.1.0
row_enough row.Return = all_enough.1.1.1.1.1.1.1.1.1.1.1.1.1.1.1.1.1.0
row_enough row.Abend = all_enough.1.1.1.1.1.1.1.1.1.1.1.1.1.1.1.1.1.1.0
row_enough row.Put = all_enough.1.1.1.1.1.1.1.1.1.1.1.1.1.1.1.1.1.1.1.0
row_enough row.Show = all_enough.1.1.1.1.1.1.1.1.1.1.1.1.1.1.1.1.1.1.1.1.0
row_enough row.Move = all_enough.1.1.1.1.1.1.1.1.1.1.1.1.1.1.1.1.1.1.1.1.1.0
row_enough row.Where = all_enough.1.1.1.1.1.1.1.1.1.1.1.1.1.1.1.1.1.1.1.1.1.1.0
row_enough row.Report = all_enough.1.1.1.1.1.1.1.1.1.1.1.1.1.1.1.1.1.1.1.1.1.1.1.0

-- what may be wrong with operands that are all taken
abbrev rest_checks : grammar.Row → ByKey → List (Fault × Bool)
rest_checks row os =
    MissingOperand when (lacks_positional row os || lacks_keyword row os || list_any (is_half os) row.rules)
    ∷ Conflicting when list_any (is_conflict os) row.rules
    ∷ []

-- an operand that is not taken
pub row_not_taken : (row : grammar.Row) (task : Name) (form : List ℕ) (os : List (List ℕ)) (fault : Fault) → first_of (flat_map (operand_checks row) (with_left os)) ≡ Some fault → RowReading row task form os (Err fault)
row_not_taken row task form os fault e = first_front (flat_map (operand_checks row) (with_left os)) (rest_checks row (by_key os)) fault e

-- the operands of a row, as they were given
moved : (g : GivenOperands) (r : Row) (os : List (List ℕ)) → IsGiven g os → g.row ≡ r → (o : Option Fault) → first_of (rest_checks (row_at g.row) (by_place g)) ≡ o → first_of (checks_after_form (row_at r) os) ≡ o
moved g r os given is o e =
    is_first_after (flat_map (operand_checks (row_at r)) (with_left os)) (rest_checks (row_at r) (by_key os)) (ap (λ r. first_of (flat_map (operand_checks (row_at r)) (with_left os))) (sym is) ∙ given.taken)
    ∙ (λ i. first_of (rest_checks (row_at (sym is i)) (sym given.same i)))
    ∙ e

pub row_lacks : (g : GivenOperands) (r : Row) (task : Name) (form : List ℕ) (os : List (List ℕ)) (fault : Fault) → IsGiven g os → g.row ≡ r → first_of (rest_checks (row_at g.row) (by_place g)) ≡ Some fault → RowReading (row_at r) task form os (Err fault)
row_lacks g r task form os fault given is e = moved g r os given is (Some fault) e

said_some : (task : Name) (o : Option Statement) (result : Result Line Fault) (row : grammar.Row) (form : List ℕ) (os : List (List ℕ)) → is_some o ≡ true → o ≡ statement_of row.meaning form (by_key os)
    → first_of (checks_after_form row os) ≡ None → result ≡ line_of_task task o → RowReading row task form os result
said_some task None result row form os there is none e = absurd (let f : false ≡ true = there in cc)
said_some task (Some s) result row form os there is none e = subst (RowReading row task form os) (sym e) (none, ap (option_map (line.Statement task)) (sym is))

pub row_said : (g : GivenOperands) (r : Row) (task : Name) (form : List ℕ) (os : List (List ℕ)) (result : Result Line Fault) → IsGiven g os → g.row ≡ r → first_of (rest_checks (row_at g.row) (by_place g)) ≡ None
    → result ≡ line_of_task task (statement_of (row_at g.row).meaning form (by_place g)) → RowReading (row_at r) task form os result
row_said g r task form os result given is none e =
    let row = row_at r in
    let here : first_of (rest_checks row (by_key os)) ≡ None = (λ i. first_of (rest_checks (row_at (sym is i)) (sym given.same i))) ∙ none in
    let a = none_first (MissingOperand when (lacks_positional row (by_key os) || lacks_keyword row (by_key os) || list_any (is_half (by_key os)) row.rules)) (Conflicting when list_any (is_conflict (by_key os)) row.rules ∷ []) here in
    let b = or_false (lacks_positional row (by_key os) || lacks_keyword row (by_key os)) (list_any (is_half (by_key os)) row.rules) a.0 in
    let c = or_false (lacks_positional row (by_key os)) (lacks_keyword row (by_key os)) b.0 in
    said_some task (statement_of row.meaning form (by_key os)) result row form os (row_enough r form os c.0 c.1 b.1) refl (moved g r os given is None none)
    (e ∙ (λ i. line_of_task task (statement_of (row_at (is i)).meaning form (given.same i))))

-- ---- forms

-- the form may be missing no more
not_missing : (operation : List ℕ) (os : List (List ℕ)) → (takes_form operation && (is_empty os || has_key (form_in operation os))) ≡ false
    → first_of (form_checks operation os) ≡ first_of (UnknownOperation when not (is_some (row_of operation os)) ∷ row_checks os (row_of operation os))
not_missing operation os e = ap (λ b. if b then Some MissingOperand else first_of (UnknownOperation when not (is_some (row_of operation os)) ∷ row_checks os (row_of operation os))) e

pub form_unknown : (operation : List ℕ) (task : Name) (os : List (List ℕ)) → (takes_form operation && (is_empty os || has_key (form_in operation os))) ≡ false → row_of operation os ≡ None → FormReading operation task os (Err UnknownOperation)
form_unknown operation task os e none = not_missing operation os e ∙ ap (λ o. first_of (UnknownOperation when not (is_some o) ∷ row_checks os o)) none

-- what a row makes of the operands after the form is what the operation makes of all
pub form_known : (operation : List ℕ) (task : Name) (os trailing : List (List ℕ)) (form : List ℕ) (r : grammar.Row) (result : Result Line Fault)
    → (takes_form operation && (is_empty os || has_key (form_in operation os))) ≡ false → row_of operation os ≡ Some r → operands_after_form r os ≡ trailing
    → statement_of r.meaning (form_in operation os) (by_key trailing) ≡ statement_of r.meaning form (by_key trailing) → RowReading r task form trailing result → FormReading operation task os result
form_known operation task os trailing form r (Ok l) e is b f reading = (
  not_missing operation os e ∙ ap (λ o. first_of (UnknownOperation when not (is_some o) ∷ row_checks os o)) is ∙ ap (λ xs. first_of (checks_after_form r xs)) b ∙ reading.0,
  ap (λ o. o >>= λ row. statement_of row.meaning (form_in operation os) (by_key (operands_after_form row os)) >>= λ statement. Some (line.Statement task statement)) is
      ∙ ap (λ xs. statement_of r.meaning (form_in operation os) (by_key xs) >>= λ statement. Some (line.Statement task statement)) b
      ∙ ap (λ o. o >>= λ statement. Some (line.Statement task statement)) f ∙ mapped (statement_of r.meaning form (by_key trailing)) ∙ reading.1,
) where
  mapped : (o : Option Statement) → (o >>= λ statement. Some (line.Statement task statement)) ≡ option_map (line.Statement task) o
  mapped None = refl
  mapped (Some s) = refl
form_known operation task os trailing form r (Err fault) e is b f reading =
    not_missing operation os e ∙ ap (λ o. first_of (UnknownOperation when not (is_some o) ∷ row_checks os o)) is ∙ ap (λ xs. first_of (checks_after_form r xs)) b ∙ reading

-- the operands after a form
pub after_one : (r : grammar.Row) (form : List ℕ) (trailing : List (List ℕ)) → is_empty r.forms ≡ false → operands_after_form r (form ∷ trailing) ≡ trailing
after_one r form trailing e = ap (λ b. if b then form ∷ trailing else trailing) e

pub beyond_none : (r : grammar.Row) (os : List (List ℕ)) → is_empty r.forms ≡ true → operands_after_form r os ≡ os
beyond_none r os e = ap (λ b. if b then os else drop 1 os) e

-- an operation that takes no form has one row, whatever its operands are
pub row_alone : (o : Operation) → takes_form (operation_text o) ≡ false → (os : List (List ℕ)) → row_of (operation_text o) os ≡ row_with o []
row_alone operation.Region e os = refl
row_alone operation.Getmain e os = absurd (let f : true ≡ false = e in cc)
row_alone operation.Freemain e os = absurd (let f : true ≡ false = e in cc)
row_alone operation.Storage e os = absurd (let f : true ≡ false = e in cc)
row_alone operation.Cpool e os = absurd (let f : true ≡ false = e in cc)
row_alone operation.Attach e os = refl
row_alone operation.Return e os = refl
row_alone operation.Abend e os = refl
row_alone operation.Put e os = refl
row_alone operation.Show e os = refl
row_alone operation.Move e os = refl
row_alone operation.Where e os = refl
row_alone operation.Report e os = absurd (let f : true ≡ false = e in cc)

-- and its statement has no form
pub formless : (r : Row) → is_empty (row_at r).forms ≡ true → (one other : List ℕ) (os : ByKey) → statement_of (row_at r).meaning one os ≡ statement_of (row_at r).meaning other os
formless row.Region e one other os = refl
formless row.GetmainFixed e one other os = absurd (let f : false ≡ true = e in cc)
formless row.GetmainFixedPlaced e one other os = absurd (let f : false ≡ true = e in cc)
formless row.GetmainVariable e one other os = absurd (let f : false ≡ true = e in cc)
formless row.GetmainVariablePlaced e one other os = absurd (let f : false ≡ true = e in cc)
formless row.GetmainList e one other os = absurd (let f : false ≡ true = e in cc)
formless row.StorageObtain e one other os = absurd (let f : false ≡ true = e in cc)
formless row.FreemainOrWhole e one other os = absurd (let f : false ≡ true = e in cc)
formless row.FreemainPlace e one other os = absurd (let f : false ≡ true = e in cc)
formless row.FreemainArea e one other os = absurd (let f : false ≡ true = e in cc)
formless row.FreemainList e one other os = absurd (let f : false ≡ true = e in cc)
formless row.StorageRelease e one other os = absurd (let f : false ≡ true = e in cc)
formless row.CpoolBuild e one other os = absurd (let f : false ≡ true = e in cc)
formless row.CpoolGet e one other os = absurd (let f : false ≡ true = e in cc)
formless row.CpoolFree e one other os = absurd (let f : false ≡ true = e in cc)
formless row.CpoolDelete e one other os = absurd (let f : false ≡ true = e in cc)
formless row.Attach e one other os = refl
formless row.Return e one other os = refl
formless row.Abend e one other os = refl
formless row.Put e one other os = refl
formless row.Show e one other os = refl
formless row.Move e one other os = refl
formless row.Where e one other os = refl
formless row.Report e one other os = absurd (let f : false ≡ true = e in cc)

-- where no form is taken, none is missing
pub none_missing : (operation : List ℕ) (os : List (List ℕ)) → takes_form operation ≡ false → (takes_form operation && (is_empty os || has_key (form_in operation os))) ≡ false
none_missing operation os e = ap (λ b. b && (is_empty os || has_key (form_in operation os))) e

pub form_there : (operation form : List ℕ) (trailing : List (List ℕ)) → has_key form ≡ false → (takes_form operation && (is_empty (form ∷ trailing) || has_key (form_in operation (form ∷ trailing)))) ≡ false
form_there operation form trailing e = ap (λ b. takes_form operation && b) e ∙ and_right (takes_form operation) false refl

-- the operands of a field that is not empty: its form and those after it
pub form_parts : (field form : List ℕ) (more : Option (Bor (List ℕ))) → is_empty field ≡ false → MatchOption more (parts_within 0 field ≡ form ∷ []) (λ rest. parts_within 0 field ≡ form ∷ parts_within 0 (field_in rest.now))
    → operands_in (as_field field) ≡ form ∷ operands_in (field_now more)
form_parts [] form more e parts = absurd (let f : true ≡ false = e in cc)
form_parts (b ∷ bs) form None e parts = parts
form_parts (b ∷ bs) form (Some rest) e parts = parts

-- where none is missing and none excludes another
pub none_conflict : (lacks conflict : Bool) → first_of (MissingOperand when lacks ∷ Conflicting when conflict ∷ []) ≡ None → conflict ≡ false
none_conflict lacks conflict e =
    let a = none_first (MissingOperand when lacks) (Conflicting when conflict ∷ []) e in
    (none_first (Conflicting when conflict) [] a.1).0
