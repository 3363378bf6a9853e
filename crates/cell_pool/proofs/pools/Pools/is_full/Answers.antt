use Rattle.std.proofs.Common.{nat_le, sym, ap, ◌∙◌}
use Rattle.cell_pool.proofs.Pooled.{len-pools_of}
use Rattle.cell_pool.proofs.pools.Pools.is_full.Goals as goal

pub returns : goal.returns
returns c st = ap (nat_le 64) (c.len.ensures ∙ sym (len-pools_of c.args.self.now st))
