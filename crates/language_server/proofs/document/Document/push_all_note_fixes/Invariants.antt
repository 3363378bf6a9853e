use Rattle.std.proofs.Common.{◌≡◌, ◌++◌, drop}
use Rattle.std.specs.Prelude.{flat_map}
use Rattle.language_server.specs.Fixes.{note_fixes}
use Rattle.language_server.proofs.document.Document.push_all_note_fixes.Given as goal

abbrev pub invariant-loop-note : goal.invariant-loop-note
invariant-loop-note l =
    l.actions.items ++ flat_map (note_fixes l.self l.first l.last) (drop l.note-index l.notes) ≡ l.fn.actions.items ++ flat_map (note_fixes l.self l.first l.last) l.notes
