use Rattle.std.proofs.Common.{◌≡◌, ◌≤◌, ◌-◌, take, length}
use Rattle.page.specs.Markup.{escaped}
use Rattle.page.proofs.markup.unchanged_len.Given as goal

abbrev pub invariant-bytes : goal.invariant-bytes
invariant-bytes l = record {
  within : l.len ≤ length l.text;
  unchanged : escaped (take l.len l.text) ≡ take l.len l.text;
}

abbrev pub decreases-bytes : goal.decreases-bytes
decreases-bytes l = length l.text - l.len
