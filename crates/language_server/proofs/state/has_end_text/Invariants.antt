use Rattle.std.proofs.Common.{◌≡◌, ◌==◌, length}
use Rattle.std.specs.List.{list_any, slice_split}
use Rattle.language_server.specs.Known.{is_end_text}
use Rattle.language_server.proofs.state.has_end_text.Given as goal

abbrev pub invariant-texts : goal.invariant-texts
invariant-texts l = list_any (is_end_text l.task) (slice_split (λ b. b == 47) l.rest) ≡ list_any (is_end_text l.task) (slice_split (λ b. b == 47) l.answer)

abbrev pub decreases-texts : goal.decreases-texts
decreases-texts l = length l.rest
