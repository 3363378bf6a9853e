use Rattle.std.proofs.Common.{◌≡◌, ◌==◌, ◌++◌, length}
use Rattle.std.specs.Prelude.{string_bytes}
use Rattle.std.specs.List.{slice_split}
use Rattle.language_server.specs.Hovers.{report_lines}
use Rattle.language_server.proofs.hover.push_report_lines.Given as goal

abbrev pub invariant-texts : goal.invariant-texts
invariant-texts l = string_bytes l.text ++ report_lines (slice_split (λ b. b == 47) l.rest) ≡ string_bytes l.initial.text ++ report_lines (slice_split (λ b. b == 47) l.answer)

abbrev pub decreases-texts : goal.decreases-texts
decreases-texts l = length l.rest
