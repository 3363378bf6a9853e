use Rattle.std.proofs.Common.{sym}
use Rattle.job_script.specs.Rows.{row_at}
use Rattle.job_script.specs.GivenOperands.{by_place, IsPlaced}
use Rattle.job_script.proofs.Taking.{kept_at, each_now, said_now}
use Rattle.job_script.proofs.given.GivenOperands.positional.Goals as goal

pub returns-clause-text : goal.returns-clause-text
returns-clause-text c = sym (kept_at c.args.self.now.places c.args.place)

pub returns-clause-taken : goal.returns-clause-taken
returns-clause-taken c =
    each_now (IsPlaced (row_at c.args.self.now.row) c.args.place) _ ((by_place c.args.self.now).at c.args.place) (sym (kept_at c.args.self.now.places c.args.place))
    (λ text e. c.requires.read.1.placed c.args.place text e)

pub returns-clause-said : goal.returns-clause-said
returns-clause-said c = said_now _ ((by_place c.args.self.now).at c.args.place) (sym (kept_at c.args.self.now.places c.args.place))
