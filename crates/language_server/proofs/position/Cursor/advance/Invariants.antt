use Rattle.std.proofs.Common.{◌-◌, ◌≡◌, ◌≤◌}
use Rattle.language_server.specs.Positions.{position_of}
use Rattle.language_server.proofs.position.Cursor.advance.Given as goal

abbrev pub invariant-bytes : goal.invariant-bytes
invariant-bytes l = record {
  on : l.self.position ≡ position_of l.text l.self.at;
  at : l.initial.self.at ≤ l.place → l.self.at ≤ l.place;
}

abbrev pub decreases-bytes : goal.decreases-bytes
decreases-bytes l = l.place - l.self.at
