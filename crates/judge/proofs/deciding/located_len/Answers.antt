use Rattle.std.proofs.Common.{◌++◌, length, ap, ◌∙◌}
use Rattle.mvs_model.specs.Answers.{At}
use Rattle.mvs_model.specs.Determined.{one_page}
use Rattle.mvs_model.specs.Texts.{reply_line, one_line_text}
use Rattle.judge.proofs.deciding.located_len.Goals as goal

pub returns : goal.returns
returns c =
    let st = one_page c.args.task.now in
    ap length (c.as_slice.ensures.value ∙ c.in_ok-text.ensures st ∙ ap (λ x. x ++ reply_line c.args.line_number c.args.task.now (one_line_text (At c.new.result))) c.new-2.ensures.items ∙ ap (λ a. reply_line c.args.line_number c.args.task.now (one_line_text (At a))) c.new.ensures)
