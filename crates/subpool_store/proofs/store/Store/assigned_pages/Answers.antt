use Rattle.std.proofs.Common.{ap, ◌∙◌}
use Rattle.mvs_model.specs.Storage.{holder}
use Rattle.subpool_store.specs.SubpoolCounts.{assigned_pages}
use Rattle.subpool_store.proofs.Value.{stored}
use Rattle.subpool_store.proofs.store.Store.assigned_pages.Goals as goal

pub returns : goal.returns
returns c = ap (λ t. t.pages) c.get.ensures ∙ c.self.invariant.1.pages c.args.subpool ∙ ap (λ st. assigned_pages st.regions (holder st) c.args.subpool) (stored c.self.view_is)
