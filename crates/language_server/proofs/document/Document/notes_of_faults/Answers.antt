use Rattle.language_server.proofs.Noting.{faults_done}
use Rattle.language_server.proofs.document.Document.notes_of_faults.Goals as goal

pub returns : goal.returns
returns c = faults_done c.args.self.now c.args.faults.now c.loop-found.found-index c.loop-found.notes.items c.loop-found-test.false c.loop-found.invariant
