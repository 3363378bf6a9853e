use Rattle.std.proofs.Common.{◌≤◌, length}
use Rattle.shell.proofs.command.without_end_blanks.Given as goal

abbrev pub invariant-blanks : goal.invariant-blanks
invariant-blanks l = l.end ≤ length l.text

abbrev pub decreases-blanks : goal.decreases-blanks
decreases-blanks l = l.end
