-- The words of a line, and the operands after the form of a row.
use Rattle.std.proofs.Common.{◌≡◌, ℕ, ◌+◌, ◌-◌, List, [], ◌∷◌, length, drop, take, arith, refl, sym, ap, subst, ◌∙◌, true, false, Option, Some, None, length-append}
use Rattle.std.specs.Prelude.{◌==◌, flat_map, slice_get, unwrap_or, MatchOption, if◌then◌else◌}
use Rattle.std.specs.List.{list_any}
use Rattle.std.proofs.lemmas.Bool.{not-true}
use Rattle.mvs_model.specs.declared.line.Fault.{Fault}
use Rattle.mvs_model.specs.Grammar as grammar
use Rattle.mvs_model.specs.Reading.{operands_in, operands_of, operation_in, parts_within, is_empty, row_of, rows_of, words, operands_after_form, first_of, operand_checks, with_left}
use Rattle.job_script.specs.declared.operations.Operation.{Operation}
use Rattle.job_script.specs.declared.operations.Operation.TheVariants as operation
use Rattle.job_script.specs.Operations.{operation_text}
use Rattle.job_script.specs.Parted.{IsEnd, field_in, starts_word}
use Rattle.job_script.specs.Rowed.{as_field}
use Rattle.job_script.specs.Stated.{field_of}
use Rattle.job_script.proofs.Cut.{field_first}
use Rattle.job_script.proofs.Taking.{fault_at}
use Rattle.job_script.proofs.Stating.{operands_by, first_field, field_after}
use Rattle.job_script.specs.Rows.{row_at}
use Rattle.diagnosis.specs.declared.operands.FormOperands.{FormOperands}
use Rattle.diagnosis.specs.AfterForm.{AreOperands, AreAfterForm}
use Rattle.diagnosis.specs.Blame.{IsField, IsOperandBlamed, IsRefused, before, columns_of, form_before, part_of}
use Rattle.diagnosis.specs.declared.columns.Columns.{Columns}

third : (ws : List (List ℕ)) → slice_get ws 2 ≡ slice_get (drop 2 ws) 0
third [] = refl
third (v ∷ []) = refl
third (v ∷ w ∷ ws) = refl

-- a field that begins with no blank is not empty where its text is not
some_field : (text : List ℕ) → starts_word text ≡ true → is_empty text ≡ false → operands_in (as_field (field_in text)) ≡ parts_within 0 (field_in text)
some_field [] s e = absurd (let f : true ≡ false = e in cc)
some_field (b ∷ bs) s e =
    let plain : (b == 32) ≡ false = not-true (b == 32) s in
    ap (λ c. operands_in (as_field (if c then [] else b ∷ field_in bs))) plain ∙ ap (λ c. parts_within 0 (if c then [] else b ∷ field_in bs)) (sym plain)

-- the operands of a line whose operation has a field
pub line_operands : (line rest text : List ℕ) (o : Operation) → (o ≡ operation.Return → ⊥) → operation_in line ≡ operation_text o → words rest ≡ drop 2 (words line) → words text ≡ words rest → starts_word text ≡ true → is_empty text ≡ false
    → operands_of line ≡ parts_within 0 (field_in text)
line_operands line rest text o other op trailing same s some =
    let word : slice_get (words line) 2 ≡ slice_get (words rest) 0 = third (words line) ∙ ap (λ ws. slice_get ws 0) (sym trailing) in
    let field : field_of o rest ≡ field_in text = field_after o rest other ∙ sym (field_first text s ∙ ap (λ ws. unwrap_or (slice_get ws 0) []) same) in
    ap (λ op. if list_any (λ row. row.has_field) (rows_of op) then operands_in (slice_get (words line) 2) else []) op
    ∙ operands_by o (slice_get (words line) 2) rest (ap operands_in word ∙ first_field rest)
    ∙ ap (λ f. operands_in (as_field f)) field
    ∙ some_field text s some

pub some_text : (text : List ℕ) → (length text == 0) ≡ false → is_empty text ≡ false
some_text [] e = e
some_text (b ∷ bs) e = refl

-- where the field begins
pub field_at : (line rest text : List ℕ) → IsEnd line text → words rest ≡ drop 2 (words line) → words text ≡ words rest → starts_word text ≡ true → IsField line (length line - length text) text
field_at line rest text (front, parts) trailing same s =
    let long : length line ≡ length front + length text = ap length parts ∙ length-append front text in
    record { front = front; place = omega (arith, long); parts = parts; words = same ∙ trailing; start = s }

-- ---- after a form

-- the row is that of the form alone
pub same_row : (op form : List ℕ) (xs : List (List ℕ)) → row_of op (form ∷ xs) ≡ row_of op (form ∷ [])
same_row op form xs = refl

pub one_form : (row : grammar.Row) (form : List ℕ) (os trailing : List (List ℕ)) → is_empty row.forms ≡ false → os ≡ form ∷ trailing → before (form_before row os) ≡ length form + 1
one_form row form os trailing formed parts =
    ap (λ b. before (if b then [] else take 1 os)) formed ∙ ap (λ os. before (take 1 os)) parts ∙ at where
      at : length form + 1 + 0 ≡ length form + 1
      at = omega arith

pub no_form : (row : grammar.Row) (os : List (List ℕ)) → is_empty row.forms ≡ true → before (form_before row os) ≡ 0
no_form row os formed = ap (λ b. before (if b then [] else take 1 os)) formed

-- the row of a line, and where its operands begin
pub row_line : (line op : List ℕ) (os : List (List ℕ)) (row : grammar.Row) → operation_in line ≡ op → operands_of line ≡ os → row_of (operation_in line) (operands_of line) ≡ Some row → row_of op os ≡ Some row
row_line line op os row e f is = (λ i. row_of (sym e i) (sym f i)) ∙ is

pub line_after : (row : grammar.Row) (line : List ℕ) (o : Option FormOperands) (at : ℕ) (text : List ℕ) (os : List (List ℕ)) → IsField line at text → operands_of line ≡ os
    → MatchOption o (operands_after_form row os ≡ []) (λ o. (row_at o.row ≡ row) × AreAfterForm row at os o.at o.text.now)
    → MatchOption o (operands_after_form row (operands_of line) ≡ []) (λ o. (row_at o.row ≡ row) × AreOperands row line o.at o.text.now)
line_after row line None at text os field e none = ap (operands_after_form row) e ∙ none
line_after row line (Some o) at text os field e (same, trailing) = (same, record { start = at; field = text; is_field = field; form = subst (λ os. AreAfterForm row at os o.at o.text.now) (sym e) trailing })

-- the columns of the first operand that is refused
pub operand_blamed : (row : grammar.Row) (line : List ℕ) (fault : Fault) (at : ℕ) (text operand : List ℕ) (trailing : ℕ) (reported : Fault) (columns : Columns)
    → AreOperands row line at text → IsRefused row (parts_within 0 (field_in text)) trailing operand reported
    → columns ≡ columns_of (length line) (at + trailing + (part_of row reported operand).0) (part_of row reported operand).1
    → first_of (flat_map (operand_checks row) (with_left (operands_after_form row (operands_of line)))) ≡ Some fault
    → (reported ≡ fault) × IsOperandBlamed row line fault columns
operand_blamed row line fault at text operand trailing reported columns operands refused is first =
    let parts = operands.form.parts ∙ refused.parts in
    let here : Some reported ≡ Some fault = sym (fault_at row refused.left operand refused.right reported refused.taken refused.refused) ∙ ap (λ os. first_of (flat_map (operand_checks row) (with_left os))) (sym parts) ∙ first in
    let same : reported ≡ fault = cc in (
      same,
      subst (λ f. IsOperandBlamed row line f columns) same (record {
        start = operands.start;
        field = operands.field;
        at = trailing;
        operand = operand;
        is_field = operands.is_field;
        refused = record { left = refused.left; right = refused.right; parts = parts; taken = refused.taken; refused = refused.refused; place = refused.place };
        columns = is ∙ ap (λ n. columns_of (length line) (n + trailing + (part_of row reported operand).0) (part_of row reported operand).1) operands.form.place;
      }),
    )
