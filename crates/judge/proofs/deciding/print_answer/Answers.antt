use Rattle.std.proofs.Common.{[], ◌++◌, ap, ◌∙◌}
use Rattle.mvs_model.specs.FullAnswers.{full_answer}
use Rattle.mvs_model.specs.Texts.{answer_text}
use Rattle.job_script.proofs.Named.{mapped_ok}
use Rattle.judge.proofs.deciding.print_answer.Goals as goal

pub returns : goal.returns
returns c = λ st.
    let said = answer_text c.args.line_number c.args.task.now (full_answer st [] c.args.task.now c.args.answer.now) in
    let prints = c.print_short_answer.ensures st [] in
    let written = rw (mapped_ok c.print_short_answer.result c.map_err.result _ _ c.map_err.ensures.cases c.in_ok-map_err.was) at prints.bytes in
    ap (λ v. v.items) c.into_inner.ensures ∙ written ∙ ap (λ v. v.items ++ said) c.new-writer.ensures.inner
