use Rattle.std.proofs.Common.{◌++◌, codes, ◌∙◌}
use Rattle.std.proofs.lemmas.Result.{err_from_is_err_and}
use Rattle.mvs_model.specs.Name.{trimmed}
use Rattle.mvs_model.specs.Texts.{reply_line, code_text}
use Rattle.line_text.proofs.Appending.{front_longer, lines_more, lines_front}
use Rattle.job_script.proofs.answers.print_abend.Goals as goal

pub returns-in_err-print_code : goal.returns-in_err-print_code
returns-in_err-print_code g c =
    let p = err_from_is_err_and c.from_residual.result c.from_residual.ensures.1 in
    rw (p.1) (record { bytes = front_longer _ _ _ _ c.in_err-print_code.ensures.bytes; ok = tt; err = c.in_err-print_code.ensures.err })

pub returns-in_err-print_ended_with : goal.returns-in_err-print_ended_with
returns-in_err-print_ended_with g c =
    let p = err_from_is_err_and c.from_residual-in_err-print_ended_with.result c.from_residual-in_err-print_ended_with.ensures.1 in
    rw (p.1) (record { bytes = lines_front (λ x. reply_line c.args.line_number x (codes "ENDED WITH " ++ trimmed c.args.task.now)) (reply_line c.args.line_number c.args.task.now (codes "ABEND " ++ code_text c.args.code)) c.args.fallen.now _ _ _ c.loop-name.name-index c.name-item.result c.loop-name-test.true c.name-item.is c.loop-name.invariant.so_far c.in_err-print_ended_with.ensures.bytes; ok = tt; err = c.in_err-print_ended_with.ensures.err })

pub loop-name-preserved : goal.loop-name-preserved
loop-name-preserved g c = record {
  so_far = lines_more (λ x. reply_line c.args.line_number x (codes "ENDED WITH " ++ trimmed c.args.task.now)) (reply_line c.args.line_number c.args.task.now (codes "ABEND " ++ code_text c.args.code)) c.args.fallen.now _ _ _ c.loop-name.name-index c.name-item.result c.loop-name-test.true c.name-item.is c.loop-name.invariant.so_far c.in_ok-print_ended_with.ensures.bytes;
  same = c.in_ok-print_ended_with.ensures.ok ∙ c.loop-name.invariant.same;
}
