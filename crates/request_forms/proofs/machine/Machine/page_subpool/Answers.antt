use Rattle.std.proofs.Common.{◌/◌, refl}
use Rattle.subpool_store.proofs.FreePages.{page_owned}
use Rattle.request_forms.proofs.Pooling.{step_storage}
use Rattle.request_forms.proofs.Reporting.{page_label}
use Rattle.request_forms.proofs.machine.Machine.page_subpool.Goals as goal

pub returns : goal.returns
returns c =
    let st = c.self.inside.store.storage in
    let is = step_storage c.self.inside.pools st c.self.invariant in
    rw (← c.self.view_is) (page_label c.self.inside.pools st c.self.inside.tasks.owners (c.args.addr / 4096) c.page_owner.result c.holder.result is.storage (page_owned st c.args.addr (c.args.addr / 4096) c.page_owner.result is.storage refl c.page_owner.ensures) c.holder.ensures)
