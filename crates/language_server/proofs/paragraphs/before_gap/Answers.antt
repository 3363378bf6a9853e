use Rattle.std.specs.Option.{option_map}
use Rattle.std.specs.Prelude.{codes}
use Rattle.language_server.proofs.Hovering.{parted_before}
use Rattle.language_server.proofs.paragraphs.before_gap.Goals as goal

pub returns : goal.returns
returns c = parted_before (codes "\n\n") c.args.text.now c.parted_at.result.0.now (option_map (λ after. after.now) c.parted_at.result.1) (rw c.as_bytes.ensures.value at c.parted_at.ensures)
