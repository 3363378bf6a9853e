use Rattle.std.proofs.Common.{◌≡◌, ◌-◌, ℕ, List, Option, true}
use Rattle.std.specs.Io.KnownBytes.{IsAtEnd}
use Rattle.terminal_session.specs.Sessions.{IsUnderWay}
use Rattle.terminal_session.proofs.session.TerminalSession.run_typed.Given as goal

abbrev pub invariant-typed : goal.invariant-typed
invariant-typed g l = record {
  job : (first : g.row.C.Denot) (unread before : Option (List ℕ)) (lines : List (List ℕ)) → IsUnderWay g.C.Consumer.piece (g.C.Consumer.knows first) l.fn.self.cleans unread (g.R.Read.remaining l.fn.self.input.inner.inner) before (g.W.Write.contents l.fn.writer.inner) l.fn.self.input.ended lines l.fn.self.script l.fn.walk l.fn.consumer → IsUnderWay g.C.Consumer.piece (g.C.Consumer.knows first) l.fn.self.cleans unread (g.R.Read.remaining l.self.input.inner.inner) before (g.W.Write.contents l.writer.inner) l.self.input.ended lines l.self.script l.walk l.consumer;
  at_end : (l.fn.self.input.ended ≡ true → IsAtEnd (g.R.Read.remaining l.fn.self.input.inner.inner)) → l.self.input.ended ≡ true → IsAtEnd (g.R.Read.remaining l.self.input.inner.inner);
  cleans : l.self.cleans ≡ l.fn.self.cleans;
  input : l.self.input.inner.failed ≡ l.fn.self.input.inner.failed;
  writer : l.writer.failed ≡ l.fn.writer.failed;
}

-- the bytes that may still be read
abbrev pub decreases-typed : goal.decreases-typed
decreases-typed g l = 16777217 - l.self.input.count
