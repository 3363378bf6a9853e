use Rattle.std.specs.Option.{option_map}
use Rattle.language_server.proofs.Parted.{parted_length}
use Rattle.language_server.proofs.actions.statement_length.Goals as goal

pub returns : goal.returns
returns c = parted_length c.args.line.now c.parted_at.result.0.now (option_map (λ text. text.now) c.parted_at.result.1) c.parted_at.ensures
