use Rattle.std.proofs.Common.{[], ◌++◌, length, ap, ◌∙◌}
use Rattle.mvs_model.specs.Determined.{one_page}
use Rattle.mvs_model.specs.FullAnswers.{full_answer}
use Rattle.mvs_model.specs.Texts.{answer_text}
use Rattle.judge.proofs.deciding.granted_len.Goals as goal

pub returns : goal.returns
returns c =
    let st = one_page c.args.task.now in
    ap length (c.as_slice.ensures.value ∙ c.in_ok-text.ensures st ∙ ap (λ x. x ++ answer_text c.args.line_number c.args.task.now (full_answer st [] c.args.task.now c.no_bytes-granted.result)) c.new.ensures.items ∙ ap (answer_text c.args.line_number c.args.task.now) (c.no_bytes-granted.ensures.answer st c.args.task.now))
