use Rattle.std.specs.Option.{option_map}
use Rattle.language_server.proofs.Parted.{parted_after}
use Rattle.language_server.proofs.cuts.after.Goals as goal

pub returns : goal.returns
returns c = parted_after c.args.separator.now c.args.text.now c.parted_at.result.0.now (option_map (λ rest. rest.now) c.parted_at.result.1) c.parted_at.ensures
