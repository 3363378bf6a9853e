use Rattle.language_server.proofs.Hovering.{known_most}
use Rattle.language_server.proofs.document.Document.known_name.Goals as goal

pub returns-clause-bound : goal.returns-clause-bound
returns-clause-bound c = known_most c.args.self.now c.args.names.now c.args.before c.args.kind c.args.bytes.now c.known_at.result (rw c.moment_before.ensures at c.known_at.ensures)
