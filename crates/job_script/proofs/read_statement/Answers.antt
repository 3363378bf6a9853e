use Rattle.std.proofs.Common.{◌≡◌, sym, subst, ◌∙◌, true}
use Rattle.mvs_model.specs.Reading.{is_name, operands_in}
use Rattle.job_script.specs.Operations.{operation_text}
use Rattle.job_script.specs.Rowed.{FormReading, as_field}
use Rattle.job_script.specs.LineMeaning.{filled}
use Rattle.job_script.specs.Stated.{is_in_place, field_of}
use Rattle.job_script.proofs.Stating.{split_line, unknown_operation, statement_read}
use Rattle.job_script.proofs.read_statement.Goals as goal

pub returns-in_default-read_operation : goal.returns-in_default-read_operation
returns-in_default-read_operation c =
    let parts = rw c.in-Some.is at c.split_once.ensures.parts in
    let named : is_name c.split_once.result.0.now ≡ true = sym c.is_name.ensures ∙ c.if-not-is_name.false in
    unknown_operation c.args.first c.args.line.now c.split_once.result.0.now c.in-Some.rest.now c.next_word.result.0.now c.split_once.ensures.before named parts c.next_word.ensures.word c.in_default-read_operation.ensures

pub returns : goal.returns
returns c =
    let task = c.split_once.result.0.now in
    let o = c.in-Some-read_operation.operation in
    let trailing = c.next_word.result.1.now in
    let parts = rw c.in-Some.is at c.split_once.ensures.parts in
    let named : is_name task ≡ true = sym c.is_name.ensures ∙ c.if-not-is_name.false in
    let place : is_in_place c.args.first (operation_text o) ≡ true = sym c.is_in_place.ensures ∙ c.if-not-is_in_place.false in
    let split = split_line c.args.line.now task c.in-Some.rest.now c.next_word.result.0.now trailing o c.split_once.ensures.before named parts c.next_word.ensures.word c.next_word.ensures.rest c.in-Some-read_operation.ensures in
    let with_field = subst (λ f. FormReading (operation_text o) c.name.result (operands_in (as_field f)) (filled c.read_operands.new.line c.read_operands.result)) c.field_of.ensures c.read_operands.ensures in
    let reading = subst (λ t. FormReading (operation_text o) t (operands_in (as_field (field_of o trailing))) (filled c.read_operands.new.line c.read_operands.result)) c.name.ensures with_field in
    statement_read c.args.first c.args.line.now task o (field_of o trailing) (filled c.read_operands.new.line c.read_operands.result) split named place reading
