-- The diagnostics of a document, in the order of their places: the faults of lines, requests that were refused, areas that were never
-- released, and answers that differ from those that the text expects.
use Rattle.std.specs.Prelude.{ℕ, List, ◌++◌, IsPermutation}
use Rattle.std.specs.List.Sorted.{IsNonDecreasingBy, IsStableByKey}
use Rattle.std.specs.Ordering.{nat_cmp}
use Rattle.language_server.specs.Differences.{differences}
use Rattle.language_server.specs.Documents.{DocumentValue}
use Rattle.language_server.specs.FaultNotes.{AreFaultNotes, reported_faults}
use Rattle.language_server.specs.LeakNotes.{leak_notes}
use Rattle.language_server.specs.NoteValues.{NoteValue}
use Rattle.language_server.specs.RefusalNotes.{refusal_notes}

abbrev pub start_of : NoteValue → ℕ
start_of note = note.span.start

-- The diagnostics are these, in the order of their places; those at one place are in the order that they have here.
pub record AreInOrder (all notes : List NoteValue) : Type 0 where
  pub same : IsPermutation all notes
  pub order : IsNonDecreasingBy start_of notes
  pub stable : IsStableByKey start_of nat_cmp all notes

-- The diagnostics are one for each fault that is reported, and those of refusals, of leaks and of differences.
pub record AreNotes (d : DocumentValue) (notes : List NoteValue) : Type 0 where
  pub faults : List NoteValue
  pub are_faults : AreFaultNotes d (reported_faults d.faults) faults
  pub order : AreInOrder (faults ++ (refusal_notes d ++ (leak_notes d ++ differences d))) notes
