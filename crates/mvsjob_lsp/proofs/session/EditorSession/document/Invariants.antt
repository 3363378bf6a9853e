use Rattle.std.proofs.Common.{◌≡◌, drop}
use Rattle.mvsjob_lsp.specs.Sessions.{document_of}
use Rattle.mvsjob_lsp.proofs.session.EditorSession.document.Given as goal

abbrev pub invariant-loop-entry : goal.invariant-loop-entry
invariant-loop-entry l = document_of l.uri (drop l.entry-index l.self.documents) ≡ document_of l.uri l.self.documents
