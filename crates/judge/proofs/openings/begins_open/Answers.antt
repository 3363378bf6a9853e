use Rattle.std.proofs.Common.{[], ◌∷◌, codes, subst, sym}
use Rattle.std.specs.Prelude.{IfOk}
use Rattle.judge.specs.Excluding.{IsBegunOpen}
use Rattle.judge.proofs.Begun.{open_ok}
use Rattle.judge.proofs.openings.begins_open.Goals as goal

pub returns-in-Request : goal.returns-in-Request
returns-in-Request c = subst (λ s. IfOk c.begins_request.result (IsBegunOpen c.args.continued.now.line_number c.args.continued.now.task s c.args.continued.now.text.now)) (sym c.in-Request.is) (open_ok c.args.continued.now.line_number c.args.continued.now.task c.args.continued.now.text.now _ c.begins_request.result c.begins_request.ensures)

pub returns-in-Where : goal.returns-in-Where
returns-in-Where c = subst (λ s. IfOk c.begins_with.result (IsBegunOpen c.args.continued.now.line_number c.args.continued.now.task s c.args.continued.now.text.now)) (sym c.in-Where.is) (open_ok c.args.continued.now.line_number c.args.continued.now.task c.args.continued.now.text.now (codes "AT " ∷ []) c.begins_with.result c.begins_with.ensures)

pub returns-in-ReportSubpools : goal.returns-in-ReportSubpools
returns-in-ReportSubpools c = subst (λ s. IfOk c.begins_with-in-ReportSubpools.result (IsBegunOpen c.args.continued.now.line_number c.args.continued.now.task s c.args.continued.now.text.now)) (sym c.in-ReportSubpools.is) (open_ok c.args.continued.now.line_number c.args.continued.now.task c.args.continued.now.text.now (codes "SP " ∷ []) c.begins_with-in-ReportSubpools.result c.begins_with-in-ReportSubpools.ensures)
