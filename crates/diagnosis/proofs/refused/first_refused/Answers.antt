use Rattle.std.proofs.Common.{◌≡◌, [], ◌∷◌, ◌++◌, ◌+◌, length, arith, refl, sym, ap, ◌∙◌, append_assoc, length-append}
use Rattle.std.specs.Prelude.{flat_map}
use Rattle.mvs_model.specs.Reading.{first_of, operand_checks, parts_within, with_left}
use Rattle.job_script.specs.Parted.{field_in}
use Rattle.job_script.specs.Rows.{row_at}
use Rattle.job_script.proofs.Taking.{some_operand}
use Rattle.diagnosis.proofs.Places.{before_more}
use Rattle.diagnosis.proofs.refused.first_refused.Goals as goal

pub operands-init : goal.operands-init
operands-init c = record {
  on = record { left = []; parts = refl; given = c.none-given.ensures.given; row = refl };
  place = refl;
  within = omega arith;
}

pub returns-in-Err-clause-refused : goal.returns-in-Err-clause-refused
returns-in-Err-clause-refused c =
    let on = c.operands.invariant.on in
    let operand = c.next_operand.result.0.now in
    let more = some_operand (parts_within 0 (field_in c.operands.rest.now)) operand c.next_operand.result.1 c.next_operand.ensures.parts in
    let row : c.operands.given.row ≡ c.args.row = on.row ∙ c.none-given.ensures.row in
    record {
      left = on.left;
      right = more.0;
      parts = on.parts ∙ ap (λ ps. on.left ++ ps) more.1;
      taken = ap (λ row. first_of (flat_map (operand_checks (row_at row)) (with_left on.left))) (sym row) ∙ on.given.taken;
      refused = ap (λ row. first_of (operand_checks (row_at row) (on.left, operand))) (sym row) ∙ c.in-Err.ensures on.left on.given;
      place = c.operands.invariant.place;
    }

pub operands-preserved : goal.operands-preserved
operands-preserved c =
    let on = c.operands.invariant.on in
    let operand = c.next_operand.result.0.now in
    let next = c.in_ok-rest.rest.now in
    let rest : parts_within 0 (field_in c.operands.rest.now) ≡ operand ∷ parts_within 0 (field_in next) = rw c.in_ok-rest.was at c.next_operand.ensures.parts in
    let cut : c.operands.rest.now ≡ operand ++ 44 ∷ next = rw c.in_ok-rest.was at c.next_operand.ensures.cut in
    let long : length c.operands.rest.now ≡ length operand + (length next + 1) = ap length cut ∙ length-append operand (44 ∷ next) ∙ ap (λ n. length operand + n) (omega arith) in
    let taken = c.in_default.ensures on.left on.given in
    let place : c.operands.at + (length operand + 1) ≡ _ = ap (λ n. n + (length operand + 1)) c.operands.invariant.place ∙ sym (before_more on.left operand) in
    record {
      on = record {
        left = on.left ++ operand ∷ [];
        parts = on.parts ∙ ap (λ ps. on.left ++ ps) rest ∙ sym (append_assoc on.left (operand ∷ []) (parts_within 0 (field_in next)));
        given = taken.0;
        row = taken.1 ∙ on.row;
      };
      place = place;
      within = let within = c.operands.invariant.within in omega (arith, within, long);
    }
