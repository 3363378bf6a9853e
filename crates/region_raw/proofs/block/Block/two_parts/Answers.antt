use Rattle.std.proofs.Common.{◌∙◌, take}
use Rattle.region_raw.proofs.Overlays.{length-overlaid}
use Rattle.region_raw.proofs.block.Block.two_parts.Goals as goal

-- a loan leaves the block as long as it was
pub invariant_of-self-lent : goal.invariant_of-self-lent
invariant_of-self-lent c = λ w. (c.self.invariant.0, c.self.invariant.1, c.self.invariant.2, length-overlaid c.self.inside.bytes.bytes c.args.to (take c.args.n w) ∙ c.self.invariant.3)
