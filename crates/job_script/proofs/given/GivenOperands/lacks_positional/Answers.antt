use Rattle.std.proofs.Common.{refl, ◌∙◌}
use Rattle.job_script.specs.Rows.{row_at}
use Rattle.job_script.specs.GivenOperands.{by_place}
use Rattle.job_script.proofs.Conflicts.{positional_lacks}
use Rattle.job_script.proofs.given.GivenOperands.lacks_positional.Goals as goal

pub returns : goal.returns
returns c = c.lacks.ensures ∙ positional_lacks c.positional.result.now (row_at c.args.self.now.row) (by_place c.args.self.now) c.args.self.now.count c.positional.ensures.row refl
