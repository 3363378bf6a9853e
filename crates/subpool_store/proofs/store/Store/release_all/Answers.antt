use Rattle.std.proofs.Common.{◌∙◌}
use Rattle.mvs_model.proofs.SubpoolSets.{alone}
use Rattle.subpool_store.proofs.Both.{released_alone}
use Rattle.subpool_store.proofs.store.Store.release_all.Goals as goal

pub returns-clause-released : goal.returns-clause-released
returns-clause-released c = released_alone _ c.args.subpool _ c.insert.new.self (λ t. c.insert.ensures.members t ∙ alone t c.args.subpool c.empty-subpools.result c.empty-subpools.ensures) c.release_each.ensures.released
