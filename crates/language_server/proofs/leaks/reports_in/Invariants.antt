use Rattle.std.proofs.Common.{◌≡◌, ◌++◌, length}
use Rattle.mvs_model.specs.Lines.{lines_of}
use Rattle.language_server.specs.Leaks.{report_lines}
use Rattle.language_server.proofs.leaks.reports_in.Given as goal

abbrev pub invariant-lines : goal.invariant-lines
invariant-lines l = l.reports.items ++ report_lines (lines_of l.rest) ≡ report_lines (lines_of l.printed)

abbrev pub decreases-lines : goal.decreases-lines
decreases-lines l = length l.rest
