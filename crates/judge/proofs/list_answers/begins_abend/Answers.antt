use Rattle.std.proofs.Common.{[], ◌++◌, ap, ◌∙◌}
use Rattle.mvs_model.specs.Texts.{abend_lines}
use Rattle.judge.proofs.Answering.{begun}
use Rattle.job_script.proofs.Named.{mapped_ok}
use Rattle.judge.proofs.list_answers.begins_abend.Goals as goal

pub returns : goal.returns
returns c =
    let lines = abend_lines c.args.line_number c.args.task.now c.args.code [] in
    let written = rw (mapped_ok c.print_abend.result c.map_err.result _ _ c.map_err.ensures.cases c.in_ok-map_err.was) at c.print_abend.ensures.bytes in
    begun _ _ lines c.begins.result (c.as_slice.ensures.value ∙ ap (λ v. v.items) c.into_inner-printed.ensures ∙ written ∙ ap (λ v. v.items ++ lines) c.new-writer.ensures.inner ∙ ap (λ x. x ++ lines) c.new.ensures.items) c.begins.ensures.yes c.begins.ensures.no
