use Rattle.std.proofs.Common.{◌+◌, ◌/◌, ap}
use Rattle.request_forms.proofs.Pooling.{step_storage}
use Rattle.request_forms.proofs.Reporting.{run_below, run_above, no_run}
use Rattle.request_forms.proofs.machine.Machine.map_run.Goals as goal

pub returns-in-Some : goal.returns-in-Some
returns-in-Some c =
    let first = ap (λ n. (n + 4095) / 4096) c.get.ensures.value in
    let found = c.in-Some.ensures in
    rw (← c.self.view_is) (run_below c.self.inside.pools c.self.inside.store.storage c.self.inside.tasks.owners (step_storage c.self.inside.pools c.self.inside.store.storage c.self.invariant) c.args.from ((c.get.result + 4095) / 4096) c.pages_below.result first c.pages_below.ensures _ _ _ found.0 found.1 found.2 c.map_line.ensures.addr c.map_line.ensures.len c.map_line.ensures.holder)

pub returns-in_err-pages : goal.returns-in_err-pages
returns-in_err-pages c =
    let first = ap (λ n. (n + 4095) / 4096) c.get.ensures.value in
    rw (c.from_residual.ensures, ← c.self.view_is) (no_run c.self.inside.pools c.self.inside.store.storage c.self.inside.tasks.owners (step_storage c.self.inside.pools c.self.inside.store.storage c.self.invariant) c.args.from ((c.get.result + 4095) / 4096) c.pages_below.result first c.pages_below.ensures c.pages_above.result c.pages_above.ensures c.in_default.ensures c.in_err-pages.ensures)

pub returns : goal.returns
returns c =
    let first = ap (λ n. (n + 4095) / 4096) c.get.ensures.value in
    let found = c.in_ok-pages.ensures in
    rw (← c.self.view_is) (run_above c.self.inside.pools c.self.inside.store.storage c.self.inside.tasks.owners (step_storage c.self.inside.pools c.self.inside.store.storage c.self.invariant) c.args.from ((c.get.result + 4095) / 4096) c.pages_below.result first c.pages_below.ensures c.pages_above.result _ _ _ c.pages_above.ensures c.in_default.ensures found.0 found.1 found.2 c.map_line-2.ensures.addr c.map_line-2.ensures.len c.map_line-2.ensures.holder)
