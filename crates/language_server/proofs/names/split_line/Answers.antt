use Rattle.language_server.proofs.Naming.{line_cut}
use Rattle.language_server.proofs.names.split_line.Goals as goal

pub returns-clause-lines : goal.returns-clause-lines
returns-clause-lines c = line_cut c.args.text.now c.split_byte.result.0.now c.split_byte.result.1 c.split_byte.ensures.before c.split_byte.ensures.after c.requires
