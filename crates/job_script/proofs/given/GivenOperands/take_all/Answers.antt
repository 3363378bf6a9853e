use Rattle.std.proofs.Common.{◌≡◌, [], ◌∷◌, ◌++◌, sym, ap, ◌∙◌, append_assoc}
use Rattle.std.proofs.lemmas.Result.{err_from_is_err_and}
use Rattle.std.specs.Prelude.{flat_map}
use Rattle.mvs_model.specs.Reading.{parts_within, first_of, operand_checks, with_left}
use Rattle.job_script.specs.Parted.{field_in}
use Rattle.job_script.specs.Rows.{row_at}
use Rattle.job_script.proofs.Taking.{fault_at, some_operand}
use Rattle.job_script.proofs.given.GivenOperands.take_all.Goals as goal

pub returns-in_err-take : goal.returns-in_err-take
returns-in_err-take c =
    let p = err_from_is_err_and c.from_residual.result c.from_residual.ensures.1 in
    let inv = c.operands.invariant in
    let operand = c.next_operand.result.0.now in
    let more = some_operand (parts_within 0 (field_in c.operands.rest.now)) operand c.next_operand.result.1 c.next_operand.ensures.parts in
    let parts : parts_within 0 (field_in c.args.field.now) ≡ inv.left ++ operand ∷ more.0 = inv.parts ∙ ap (λ ps. inv.left ++ ps) more.1 in
    let fault = fault_at (row_at c.operands.self.row) inv.left operand more.0 _ inv.given.taken (c.in_err-take.ensures inv.left inv.given) in
    rw (p.1, p.2) (ap (λ row. first_of (flat_map (operand_checks (row_at row)) (with_left (parts_within 0 (field_in c.args.field.now))))) (sym inv.row) ∙ ap (λ ps. first_of (flat_map (operand_checks (row_at c.operands.self.row)) (with_left ps))) parts ∙ fault)

pub operands-preserved : goal.operands-preserved
operands-preserved c =
    let inv = c.operands.invariant in
    let operand = c.next_operand.result.0.now in
    let rest : parts_within 0 (field_in c.operands.rest.now) ≡ operand ∷ parts_within 0 (field_in c.in-Some.next.now) = rw c.in-Some.is at c.next_operand.ensures.parts in
    let taken = c.in_ok-take.ensures inv.left inv.given in
    record {
      left = inv.left ++ operand ∷ [];
      parts = inv.parts ∙ ap (λ ps. inv.left ++ ps) rest ∙ sym (append_assoc inv.left (operand ∷ []) (parts_within 0 (field_in c.in-Some.next.now)));
      given = taken.0;
      row = taken.1 ∙ inv.row;
    }
