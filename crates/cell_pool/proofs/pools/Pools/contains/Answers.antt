use Rattle.std.proofs.Common.{sym, ap, ◌∙◌, is_some}
use Rattle.cell_pool.proofs.Pooled.{contains-pools_of}
use Rattle.cell_pool.proofs.pools.Pools.contains.Goals as goal

pub returns : goal.returns
returns c st = c.is_some.ensures ∙ ap is_some c.find.ensures ∙ sym (contains-pools_of c.args.self.now st c.args.name.now)
