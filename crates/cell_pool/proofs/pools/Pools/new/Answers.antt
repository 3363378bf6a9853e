use Rattle.std.proofs.Common.{◌≡◌, [], ap, rules}
use Rattle.cell_pool.specs.Entries.{roots_of}
use Rattle.cell_pool.proofs.pools.Pools.new.Goals as goal

pub returns : goal.returns
unfolding roots_of
returns c =
    let empty : c.in_ok-entries.entries.slots ≡ [] = search rules in
    ap roots_of empty
