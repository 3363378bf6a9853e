use Rattle.language_server.proofs.Naming.{operand_whole}
use Rattle.language_server.proofs.names.split_operand.Goals as goal

pub returns-clause-whole : goal.returns-clause-whole
returns-clause-whole c = operand_whole c.args.text.now c.next_operand.result.0.now c.next_operand.result.1 c.next_operand.ensures.parts c.next_operand.ensures.cut
