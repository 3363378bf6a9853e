use Rattle.std.proofs.Common.{◌++◌, List, drop}
use Rattle.language_server.specs.FaultNotes.{AreFaultNotes}
use Rattle.language_server.specs.NoteValues.{NoteValue}
use Rattle.language_server.proofs.document.Document.notes_of_faults.Given as goal

abbrev pub invariant-loop-found : goal.invariant-loop-found
invariant-loop-found l = (rest : List NoteValue) → AreFaultNotes l.self (drop l.found-index l.faults) rest → AreFaultNotes l.self l.faults (l.notes.items ++ rest)
