use Rattle.std.proofs.Common.{arith, ◌≤◌, ◌<◌, length}
use Rattle.area_history.proofs.Printings.{first_line, whole_line}
use Rattle.area_history.proofs.reporter.first_line_len.Goals as goal

pub returns-then-len-text-clause-cut : goal.returns-then-len-text-clause-cut
returns-then-len-text-clause-cut c more = first_line more c.args.text.now c.line_len-len.result c.line_len-len.ensures.len c.if-len-text.true

pub returns-else-len-text-clause-cut : goal.returns-else-len-text-clause-cut
returns-else-len-text-clause-cut c more = whole_line more c.args.text.now c.line_len-len.result c.line_len-len.ensures.len c.if-len-text.false c.line_len-len.ensures.within
