use Rattle.std.proofs.Common.{None, refl}
use Rattle.page_map.proofs.Decoding.{decoded_none, owner_set}
use Rattle.page_map.proofs.PageMap.unassign.Goals as goal

pub returns : goal.returns
returns c = owner_set c.self.inside.owners.items c.args.self.now c.args.page 65535 None c.self.view_is (decoded_none 65535 refl)
