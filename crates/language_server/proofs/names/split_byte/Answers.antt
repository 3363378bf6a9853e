use Rattle.std.proofs.Common.{◌==◌}
use Rattle.language_server.proofs.Naming.{byte_whole}
use Rattle.language_server.proofs.names.split_byte.Goals as goal

pub returns-clause-whole : goal.returns-clause-whole
returns-clause-whole c = byte_whole (λ b. b == c.args.byte) c.args.text.now c.split_once.result.0.now c.split_once.result.1 c.split_once.ensures.before c.split_once.ensures.after
