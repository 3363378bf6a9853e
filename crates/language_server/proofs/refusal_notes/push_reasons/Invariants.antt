use Rattle.std.proofs.Common.{◌≡◌, ◌++◌, length, true}
use Rattle.std.specs.Prelude.{string_bytes}
use Rattle.mvs_model.specs.Lines.{lines_of}
use Rattle.language_server.specs.RefusalNotes.{reasons_in, spaced}
use Rattle.language_server.proofs.refusal_notes.push_reasons.Given as goal

abbrev pub invariant-lines : goal.invariant-lines
invariant-lines l =
    string_bytes l.text ++ spaced l.is_first (reasons_in l.left (lines_of l.rest)) ≡ string_bytes l.initial.text ++ spaced true (reasons_in l.most (lines_of l.others))

abbrev pub decreases-lines : goal.decreases-lines
decreases-lines l = length l.rest
