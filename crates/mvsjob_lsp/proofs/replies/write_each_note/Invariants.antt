use Rattle.std.proofs.Common.{◌≡◌, ◌++◌, drop}
use Rattle.mvsjob_lsp.specs.Tokens.{each}
use Rattle.mvsjob_lsp.specs.Values.{note_value}
use Rattle.mvsjob_lsp.proofs.replies.write_each_note.Given as goal

abbrev pub invariant-loop-note : goal.invariant-loop-note
invariant-loop-note l = record {
  text : l.places ≡ l.fn.places;
  tokens : l.objects ++ each (note_value l.fn.places) (drop l.note-index l.notes) ≡ l.fn.objects ++ each (note_value l.fn.places) l.notes;
}
