use Rattle.std.proofs.Common.{◌++◌, ◌∙◌, ap}
use Rattle.mvs_model.specs.Answers.{Done}
use Rattle.mvs_model.specs.Determined.{one_page}
use Rattle.mvs_model.specs.Texts.{answer_text}
use Rattle.judge.proofs.Begun.{head_cut}
use Rattle.judge.proofs.openings.print_head.Goals as goal

pub returns : goal.returns
returns c =
    let is = c.in_ok-line.ensures (one_page c.args.task.now) ∙ ap (λ x. x ++ answer_text c.args.line_number c.args.task.now Done) c.new.ensures.items in
    c.shortened.ensures ∙ head_cut c.args.line_number c.args.task.now c.in_ok-line.line.items is
