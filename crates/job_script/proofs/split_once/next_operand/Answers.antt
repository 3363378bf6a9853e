use Rattle.std.proofs.Common.{◌≡◌, ◌+◌, ◌<◌, length, get_or, arith, add-one, sym, ap, ◌∙◌, true, false}
use Rattle.std.specs.Prelude.{◌==◌}
use Rattle.std.proofs.lemmas.List.{take_rest}
use Rattle.job_script.specs.Parted.{end_from}
use Rattle.job_script.proofs.Parts.{parts_end, parts_all, is_comma, no_comma}
use Rattle.job_script.proofs.split_once.next_operand.Goals.{else-end-text-via-then-end-text+else-text-end-eq44, else-end-text-via-else-end-text}
use Rattle.job_script.proofs.split_once.next_operand.Goals as goal

pub returns-then-text-end-eq44-clause-parts : goal.returns-then-text-end-eq44-clause-parts
returns-then-text-end-eq44-clause-parts c =
    let text = c.args.text.now in
    let end = c.operand_end-end.ensures.end in
    let h : end_from 0 text < length text = (let within = c.if-end-text.true in omega arith) in
    let comma : (get_or text (end_from 0 text) 0 == 44) ≡ true = ap (λ n. get_or text n 0 == 44) (sym end) ∙ is_comma _ c.if-text-end-eq44.true in
    rw (take_rest text (c.operand_end-end.result + 1), add-one, end) (parts_end text 0 h comma)

pub returns-else-end-text-clause-parts : goal.returns-else-end-text-clause-parts
returns-else-end-text-clause-parts c =
    let text = c.args.text.now in
    let end = c.operand_end-end.ensures.end in
    let other : end_from 0 text < length text → (get_or text (end_from 0 text) 0 == 44) ≡ false = elim c.else-end-text.branch [
      | else-end-text-via-then-end-text+else-text-end-eq44 w ↦ λ h. ap (λ n. get_or text n 0 == 44) (sym end) ∙ no_comma _ w.if-text-end-eq44.false
      | else-end-text-via-else-end-text w ↦ λ h. absurd (let all = w.if-end-text.false in omega arith)
    ] in
    rw end (parts_all text 0 other)
