use Rattle.std.proofs.Common.{◌≤◌, arith}
use Rattle.mvs_model.specs.Storage.{holder}
use Rattle.mvs_model.proofs.StorageLaws.{none_chosen}
use Rattle.request_forms.proofs.obtain_list.shortfall.Goals as goal

pub unreachable-requires : goal.unreachable-requires
unreachable-requires c =
    let st = c.args.store.now.storage in
    let least = c.least-bytes.ensures.wanted.some in
    let some : 1 ≤ c.args.want.now.least = omega (arith, least) in
    none_chosen st.regions (holder st) c.args.subpool c.args.want.now c.in-None.ensures.0 some c.requires c.in-None.ensures.1
