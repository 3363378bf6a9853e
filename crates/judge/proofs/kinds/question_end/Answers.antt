use Rattle.std.proofs.Common.{sym, subst, ◌∙◌}
use Rattle.mvs_model.proofs.Tests.{false_true}
use Rattle.judge.specs.Deciding.{HasNoQuestion}
use Rattle.judge.proofs.kinds.question_end.Goals as goal

pub returns-else-asks_where : goal.returns-else-asks_where
returns-else-asks_where c =
    subst (λ lines. HasNoQuestion lines c.args.asked.now.task c.args.asked.now.area) (sym c.line_end-end.ensures.lines) (λ is. false_true (sym c.if-asks_where.false ∙ c.asks_where.ensures.no is))
