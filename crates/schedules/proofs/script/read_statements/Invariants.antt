use Rattle.std.proofs.Common.{◌≡◌, ◌+◌, ◌-◌, ◌≤◌, length, true}
use Rattle.std.specs.Prelude.{IfSome, slice_get}
use Rattle.std.specs.List.{AllByRecursion}
use Rattle.schedules.proofs.Statements.{IsReadTo}
use Rattle.schedules.proofs.script.read_statements.Given as goal

abbrev pub invariant-lines : goal.invariant-lines
invariant-lines l = record {
  read : IsReadTo l.script l.found.items l.number l.at;
  region : IfSome (slice_get l.found.items 0) (λ x. x.is_region ≡ true);
  within : l.at ≤ length l.script + 1;
  number : l.number ≤ l.at + 1;
  count : length l.found.items ≤ l.at;
  addresses : AllByRecursion (λ x. x.ignores_addresses ≡ l.ignores_addresses) l.found.items;
}

abbrev pub decreases-lines : goal.decreases-lines
decreases-lines l = length l.script - l.at
