use Rattle.std.proofs.Common.{[], ◌++◌, ap, ◌∙◌}
use Rattle.mvs_model.specs.FullAnswers.{full_answer}
use Rattle.mvs_model.specs.Texts.{answer_text}
use Rattle.judge.proofs.Answering.{begun}
use Rattle.judge.proofs.list_answers.begins_so.Goals as goal

pub returns : goal.returns
returns c = λ st. begun _ _ _ c.begins.result (c.as_slice.ensures.value ∙ c.in_ok-printed.ensures st ∙ ap (λ x. x ++ answer_text c.args.line_number c.args.task.now (full_answer st [] c.args.task.now c.args.answer.now)) c.new.ensures.items) c.begins.ensures.yes c.begins.ensures.no
