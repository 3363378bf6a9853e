use Rattle.std.proofs.Common.{◌≡◌, ◌++◌, drop}
use Rattle.std.specs.Prelude.{map}
use Rattle.language_server.specs.RefusalNotes.{refusal_note}
use Rattle.language_server.proofs.document.Document.push_each_refusal.Given as goal

abbrev pub invariant-loop-number : goal.invariant-loop-number
invariant-loop-number l = l.notes.items ++ map (refusal_note l.self) (drop l.number-index l.lines) ≡ l.fn.notes.items ++ map (refusal_note l.self) l.lines
