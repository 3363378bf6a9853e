use Rattle.std.proofs.Common.{ap, refl, ◌∙◌}
use Rattle.language_server.specs.NoteValues.{line_span}
use Rattle.language_server.proofs.document.Document.fault_note.Goals as goal

pub returns : goal.returns
returns c = record {
  columns = c.diagnose-diagnosis.result.columns;
  blame = record {
    within = rw c.line.ensures.line at c.diagnose-diagnosis.ensures.within;
    operand = rw c.line.ensures.line at c.diagnose-diagnosis.ensures.operand;
  };
  span = c.within_line.ensures ∙ ap (line_span c.args.self.now.text c.args.found.line) c.columns_span.ensures;
  severity = refl;
  code = c.in_ok-fault_code.ensures;
}
