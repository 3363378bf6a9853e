use Rattle.std.proofs.Common.{◌≡◌, ◌++◌, length}
use Rattle.page.specs.Markup.{escaped}
use Rattle.page.proofs.markup.push_escaped.Given as goal

abbrev pub invariant-runs : goal.invariant-runs
invariant-runs l = l.item.items ++ escaped l.rest ≡ l.initial.item.items ++ escaped l.text

abbrev pub decreases-runs : goal.decreases-runs
decreases-runs l = length l.rest
