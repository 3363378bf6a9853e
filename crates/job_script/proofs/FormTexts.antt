-- Forms of operations.
use Rattle.std.proofs.Common.{◌≡◌, ℕ, List, [], ◌∷◌, Bool, true, false, Some, None, refl, sym, ap, ◌∙◌}
use Rattle.std.specs.Prelude.{◌||◌, ◌&&◌, not, is_some, Err, bytes_eq, find, if◌then◌else◌}
use Rattle.std.specs.List.{list_any}
use Rattle.mvs_model.specs.Reading.{has_key, is_empty, is_one_of, rows_of, row_of, row_checks, takes_form, first_of, ◌when◌}
use Rattle.mvs_model.specs.declared.name.Name.{Name}
use Rattle.mvs_model.specs.declared.line.Fault.TheVariants.{MissingOperand, UnknownOperation}
use Rattle.job_script.specs.Rowed.{FormReading}
use Rattle.mvs_model.proofs.Reading.{or_false}
use Rattle.mvs_model.proofs.ReadingTaken.{bytes_same}
use Rattle.job_script.specs.declared.operations.Operation.{Operation}
use Rattle.job_script.specs.declared.rows.Row.{Row}
use Rattle.job_script.specs.declared.rows.Row.TheVariants as row
use Rattle.job_script.specs.Operations.{operation_text, row_with}
use Rattle.job_script.specs.Rows.{row_at}

-- what is found passes
found_passes : {X : Type 0} (p : X → Bool) (xs : List X) (y : X) → find p xs ≡ Some y → p y ≡ true
found_passes p [] y e = absurd (let f : None ≡ Some y = e in cc)
found_passes p (x ∷ xs) y e =
    (elim (p x) as (λ b. p x ≡ b → (if b then Some x else find p xs) ≡ Some y → p y ≡ true) [
      | true ↦ λ t e. ap p (sym (let same : x ≡ y = (let f : Some x ≡ Some y = e in cc) in same)) ∙ t
      | false ↦ λ t e. found_passes p xs y e
    ]) refl e

-- no form has an equals sign
no_keys : (r : Row) → list_any has_key (row_at r).forms ≡ false
no_keys row.Region = refl
no_keys row.GetmainFixed = refl
no_keys row.GetmainFixedPlaced = refl
no_keys row.GetmainVariable = refl
no_keys row.GetmainVariablePlaced = refl
no_keys row.GetmainList = refl
no_keys row.StorageObtain = refl
no_keys row.FreemainOrWhole = refl
no_keys row.FreemainPlace = refl
no_keys row.FreemainArea = refl
no_keys row.FreemainList = refl
no_keys row.StorageRelease = refl
no_keys row.CpoolBuild = refl
no_keys row.CpoolGet = refl
no_keys row.CpoolFree = refl
no_keys row.CpoolDelete = refl
no_keys row.Attach = refl
no_keys row.Return = refl
no_keys row.Abend = refl
no_keys row.Put = refl
no_keys row.Show = refl
no_keys row.Move = refl
no_keys row.Where = refl
no_keys row.Report = refl

one_plain : (form : List ℕ) (forms : List (List ℕ)) → list_any has_key forms ≡ false → is_one_of forms form ≡ true → has_key form ≡ false
one_plain form [] none one = absurd (let f : false ≡ true = one in cc)
one_plain form (f ∷ fs) none one =
    let plain = or_false (has_key f) (list_any has_key fs) none in
    (elim (bytes_eq form f) as (λ b. bytes_eq form f ≡ b → (b || is_one_of fs form) ≡ true → has_key form ≡ false) [
      | true ↦ λ t _. ap has_key (bytes_same form f t) ∙ plain.0
      | false ↦ λ _ one. one_plain form fs plain.1 one
    ]) refl one

-- what is the form of a row has no equals sign
pub form_plain : (o : Operation) (form : List ℕ) (r : Row) → row_with o form ≡ Some (row_at r) → is_empty (row_at r).forms ≡ false → has_key form ≡ false
form_plain o form r found formed =
    let passes = found_passes (λ row. is_empty row.forms || is_one_of row.forms form) (rows_of (operation_text o)) (row_at r) found in
    one_plain form (row_at r).forms (no_keys r) (ap (λ b. b || is_one_of (row_at r).forms form) (sym formed) ∙ passes)

-- an operand with a key is no form
pub form_keyed : (op : List ℕ) (task : Name) (form : List ℕ) (trailing : List (List ℕ)) → takes_form op ≡ true → has_key form ≡ true → FormReading op task (form ∷ trailing) (Err MissingOperand)
form_keyed op task form trailing takes keyed =
    ap (λ b. first_of (MissingOperand when b ∷ UnknownOperation when not (is_some (row_of op (form ∷ trailing))) ∷ row_checks (form ∷ trailing) (row_of op (form ∷ trailing)))) (λ i. takes i && keyed i)
