use Rattle.std.proofs.Common.{◌≡◌, true, false, inl, sym, ap, ◌∙◌}
use Rattle.mvs_model.specs.Reading.{rows_of, operation_in}
use Rattle.job_script.specs.declared.operations.Operation.TheVariants.{Return}
use Rattle.job_script.specs.Operations.{operation_text}
use Rattle.job_script.proofs.Cut.{end_of_end}
use Rattle.diagnosis.proofs.Lines.{field_at, line_operands, some_text}
use Rattle.diagnosis.proofs.operands.field_of.Goals.{in-Return, in_default-matches}
use Rattle.diagnosis.proofs.operands.field_of.Goals as goal

pub returns-in_default-clause-field : goal.returns-in_default-clause-field
returns-in_default-clause-field c = inl (ap rows_of (sym c.second_word.ensures.word) ∙ c.in_default.ensures)

pub returns-clause-field : goal.returns-clause-field
returns-clause-field c =
    let line = c.args.line.now in
    let rest = c.second_word.result.1.now in
    let text = c.skip_blanks-text.result.now in
    let other : c.in-Some.operation ≡ Return → ⊥ = λ e. elim c.match-matches.branch [
      | in-Return w ↦ absurd (let f : true ≡ false = sym w.matches-is ∙ c.if-matches.false in cc)
      | in_default-matches w ↦ w.in_default-matches.not-Return e
    ] in
    let op : operation_in line ≡ operation_text c.in-Some.operation = sym c.second_word.ensures.word ∙ c.in-Some.ensures in
    let some = some_text text (sym c.is_empty.ensures ∙ c.if-is_empty.false) in
    let same = c.skip_blanks-text.ensures.words in
    let start = c.skip_blanks-text.ensures.start in
    let trailing = c.second_word.ensures.rest in
    let end = end_of_end line rest text c.second_word.ensures.end c.skip_blanks-text.ensures.end in
    (op, field_at line rest text end trailing same start, line_operands line rest text c.in-Some.operation other op trailing same start some)
