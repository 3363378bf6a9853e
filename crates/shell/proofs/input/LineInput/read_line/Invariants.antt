use Rattle.std.proofs.Common.{◌≡◌, ◌≤◌, ◌<◌, ◌-◌, length, true}
use Rattle.shell.specs.Inputs.{Begins}
use Rattle.std.specs.Io.KnownBytes.{IsAtEnd}
use Rattle.shell.proofs.input.LineInput.read_line.Given as goal

abbrev pub invariant-bytes : goal.invariant-bytes
invariant-bytes g l = record {
  begun : Begins (g.R.Read.remaining l.initial.self.inner.inner) (g.R.Read.remaining l.self.inner.inner) l.initial.self.ended l.line;
  ended : l.self.ended ≡ l.initial.self.ended;
  count : l.initial.self.count ≤ l.self.count;
  some : 0 < length l.line → l.initial.self.count < l.self.count;
  at_end : (l.initial.self.ended ≡ true → IsAtEnd (g.R.Read.remaining l.initial.self.inner.inner)) → l.self.ended ≡ true → IsAtEnd (g.R.Read.remaining l.self.inner.inner);
  failed : l.self.inner.failed ≡ l.initial.self.inner.failed;
}

-- the bytes that may still be read
abbrev pub decreases-bytes : goal.decreases-bytes
decreases-bytes g l = 16777216 - l.self.count
