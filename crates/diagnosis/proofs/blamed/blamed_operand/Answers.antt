use Rattle.std.proofs.Common.{◌+◌, ap, subst, ◌∙◌, length}
use Rattle.mvs_model.specs.Reading.{parts_within}
use Rattle.job_script.specs.Parted.{field_in}
use Rattle.diagnosis.specs.Blame.{IsRefused, columns_of, part_of}
use Rattle.diagnosis.proofs.Lines.{operand_blamed}
use Rattle.diagnosis.proofs.blamed.blamed_operand.Goals as goal

pub returns-clause-blamed : goal.returns-clause-blamed
returns-clause-blamed c row fault is first =
    let line = c.args.line.now in
    let text = c.in-Some.operands.text.now in
    let at = c.in-Some.operands.at in
    let r = c.in-Some-first_refused.refused in
    let here = c.in-Some.ensures.operands row is in
    let refused = subst (λ row. IsRefused row (parts_within 0 (field_in text)) r.at r.operand.now r.fault) here.0 c.in-Some-first_refused.ensures.refused in
    let part = c.part_of-from.ensures.part ∙ ap (λ row. part_of row r.fault r.operand.now) here.0 in
    let columns = c.of.ensures.exact ∙ ap (λ p. columns_of (length line) (at + r.at + p.0) p.1) part in
    let blamed = operand_blamed row line fault at text r.operand.now r.at r.fault c.of.result here.1 refused columns first in
    (here.0, blamed.0, blamed.1)
