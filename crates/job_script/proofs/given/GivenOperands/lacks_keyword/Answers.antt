use Rattle.job_script.specs.Rows.{row_at}
use Rattle.job_script.specs.GivenOperands.{by_place}
use Rattle.job_script.proofs.Conflicts.{keyword_lacks}
use Rattle.job_script.proofs.given.GivenOperands.lacks_keyword.Goals as goal

pub loop-keyword-init : goal.loop-keyword-init
loop-keyword-init c = keyword_lacks c.args.self.now.keywords.now (row_at c.args.self.now.row) (by_place c.args.self.now) c.requires.1.table
