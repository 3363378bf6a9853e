use Rattle.job_script.proofs.InRanges.{reading_ranged}
use Rattle.job_script.proofs.read_line.Goals as goal

pub returns-then-is_blank_or_comment-clause-in_range : goal.returns-then-is_blank_or_comment-clause-in_range
returns-then-is_blank_or_comment-clause-in_range c = reading_ranged c.args.first c.args.line.now _ c.read_nothing.ensures

pub returns-else-is_blank_or_comment-clause-in_range : goal.returns-else-is_blank_or_comment-clause-in_range
returns-else-is_blank_or_comment-clause-in_range c = reading_ranged c.args.first c.args.line.now _ c.read_something.ensures
