-- The name is behind the operation.
use Rattle.std.proofs.Common.{codes}
use Rattle.mvs_c.specs.Asks.{name_text}
use Rattle.mvs_c.proofs.Pieces.{trailing}
use Rattle.mvs_c.proofs.statement.push_delete.Goals as goal

pub returns-clause-text : goal.returns-clause-text
returns-clause-text c =
    trailing c.args.text.now c.push_str.new.self c.push_name.new.text (codes "CPOOL DELETE,CPID=") (name_text c.args.ask.now.name) c.push_str.ensures.text c.push_name.ensures.text
