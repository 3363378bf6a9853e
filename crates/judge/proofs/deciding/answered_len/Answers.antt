use Rattle.std.proofs.Common.{[], ◌+◌, ◌++◌, length-append, length, ap, ◌∙◌}
use Rattle.mvs_model.specs.Answers.{At}
use Rattle.mvs_model.specs.Determined.{one_page}
use Rattle.mvs_model.specs.FullAnswers.{full_answer}
use Rattle.mvs_model.specs.Texts.{answer_text, reply_line, one_line_text}
use Rattle.judge.proofs.deciding.answered_len.Goals as goal

pub returns-clause-len : goal.returns-clause-len
returns-clause-len c =
    let st = one_page c.args.asked.now.task in
    let granted = c.in_ok-text.ensures st ∙ ap (λ x. x ++ answer_text c.args.line_number c.args.asked.now.task (full_answer st [] c.args.asked.now.task c.no_bytes-granted.result)) c.requires.empty ∙ ap (answer_text c.args.line_number c.args.asked.now.task) (c.no_bytes-granted.ensures.answer st c.args.asked.now.task) in
    let both = c.in_ok-both.ensures st ∙ ap (λ a. c.in_ok-text.text.items ++ reply_line (c.args.line_number + 1) c.args.asked.now.task (one_line_text (At a))) c.new.ensures ∙ ap (λ x. x ++ reply_line (c.args.line_number + 1) c.args.asked.now.task (one_line_text (At 0))) granted in
    ap length (c.as_slice-len.ensures.value ∙ both) ∙ length-append _ _
