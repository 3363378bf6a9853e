use Rattle.std.proofs.Common.{◌≡◌, ◌++◌, length}
use Rattle.std.specs.Prelude.{flat_map}
use Rattle.mvs_model.specs.Lines.{lines_of}
use Rattle.language_server.specs.LeakNotes.{leak_in, leak_note_by, leak_notes}
use Rattle.language_server.proofs.document.Document.push_leaks.Given as goal

abbrev pub invariant-lines : goal.invariant-lines
invariant-lines l = l.notes.items ++ flat_map (λ line. leak_note_by l.self (leak_in line)) (lines_of l.rest) ≡ l.initial.notes.items ++ leak_notes l.self

abbrev pub decreases-lines : goal.decreases-lines
decreases-lines l = length l.rest
