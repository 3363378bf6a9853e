use Rattle.language_server.proofs.Hovering.{on_ok, subject_added}
use Rattle.language_server.proofs.document.Document.push_subject.Goals as goal

pub returns-in-Operation : goal.returns-in-Operation
returns-in-Operation c =
    on_ok c.push_word_syntax.result
    (subject_added c.args.self.now c.args.spot c.args.report.now c.args.found.now.items c.push_word_syntax.new.found.items c.in-Operation.span c.of-in-Operation.result.now c.line-line.result.now
    c.of-in-Operation.ensures c.line-line.ensures.line c.in-Operation.is)
    c.push_word_syntax.ensures
