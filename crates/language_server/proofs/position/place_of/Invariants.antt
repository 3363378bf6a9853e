use Rattle.std.proofs.Common.{◌≡◌, ◌≤◌, ℕ, ◌<◌}
use Rattle.language_server.specs.Positions.{IsBoundary, IsNotAfter, position_of}
use Rattle.language_server.proofs.position.place_of.Given as goal

abbrev pub invariant-loop-byte : goal.invariant-loop-byte
invariant-loop-byte l = record {
  at : l.cursor.at ≡ l.byte-index;
  on : l.cursor.position ≡ position_of l.text l.cursor.at;
  order : l.found ≤ l.byte-index;
  boundary : IsBoundary l.text l.found;
  before : IsNotAfter (position_of l.text l.found) l.position;
  last : (other : ℕ) → other < l.byte-index → IsBoundary l.text other → IsNotAfter (position_of l.text other) l.position → other ≤ l.found;
}
