use Rattle.std.proofs.Common.{subst, sym}
use Rattle.std.specs.Prelude.{IfOk}
use Rattle.judge.specs.Excluding.{IsBegunLine}
use Rattle.judge.proofs.exclusion.begins_line.Goals as goal

pub returns-in-Statement : goal.returns-in-Statement
returns-in-Statement c = subst (λ l. IfOk c.begins_open.result (IsBegunLine c.args.line_number l c.args.left.now)) (sym c.in-Statement.is) c.begins_open.ensures
