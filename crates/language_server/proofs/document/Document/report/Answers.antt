use Rattle.std.proofs.Common.{◌≡◌, ◌+◌, arith, length, take, ap, subst, ◌∙◌}
use Rattle.std.specs.Prelude.{IfOk}
use Rattle.std.proofs.lemmas.List.{length-take}
use Rattle.language_server.specs.Reports.{IsAnswerOf, front_of_script, report_script}
use Rattle.language_server.proofs.document.Document.report.Goals as goal

pub answer_of_run-requires : goal.answer_of_run-requires
answer_of_run-requires c = let e = ap length c.front.ensures in let t = length-take 1048576 c.deref.result.now in omega (arith, e, t)

pub returns : goal.returns
returns c =
    let e : c.front.result.now ≡ front_of_script 1048576 (report_script c.args.self.now c.args.line c.args.task.now) = c.front.ensures ∙ ap (take 1048576) (c.deref.ensures.value ∙ c.in_ok-script.ensures) in
    subst (λ s. IfOk c.answer_of_run.result (λ answer. IsAnswerOf s (c.args.line + 1) answer.items)) e c.answer_of_run.ensures
