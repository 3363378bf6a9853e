use Rattle.std.proofs.Common.{ap, sym, subst, ◌∙◌, ◌++◌, Some}
use Rattle.mvs_model.specs.Runs.{IsPrinting}
use Rattle.mvs_job.proofs.Printed.{lines_printed, ok_so}
use Rattle.mvsjob.proofs.answers.printing_of.Goals as goal

pub returns : goal.returns
returns c =
    let none = ap (λ v. v.items) c.new-writer.ensures.inner ∙ c.new.ensures.items in
    let p = lines_printed (Some c.new-writer.result.inner.items) (Some c.run_lines-ran.new.writer.inner.items) c.args.script.now _ c.run_lines-ran.new.consumer c.run_lines-ran.result c.run_lines-ran.ensures.written in
    ok_so c.run_lines-ran.result _ _ p (λ outcome h. subst (λ x. IsPrinting c.args.script.now x outcome) (sym (ap (λ v. v.items) c.into_inner.ensures ∙ h.1 ∙ ap (λ x. x ++ h.0) none)) h.2)
