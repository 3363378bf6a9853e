use Rattle.std.proofs.Common.{subst}
use Rattle.std.specs.FinMap.{get}
use Rattle.mvs_model.specs.NextName.{IsNextName}
use Rattle.request_forms.specs.Machine.{MachineValue}
use Rattle.request_forms.proofs.machine.Machine.next_pool.Goals as goal

pub returns : goal.returns
returns c = subst (λ (m : MachineValue). IsNextName (get m.state.pools) c.args.given.now c.next_pool.result) c.self.view_is (c.next_pool.ensures c.self.inside.store.storage)
