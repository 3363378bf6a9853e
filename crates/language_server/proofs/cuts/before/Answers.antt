use Rattle.std.specs.Option.{option_map}
use Rattle.language_server.proofs.Hovering.{parted_before}
use Rattle.language_server.proofs.cuts.before.Goals as goal

pub returns : goal.returns
returns c = parted_before c.args.separator.now c.args.text.now c.parted_at.result.0.now (option_map (λ rest. rest.now) c.parted_at.result.1) c.parted_at.ensures
