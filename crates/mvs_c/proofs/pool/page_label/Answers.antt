-- A page is in the run of the map that does not end before it.
use Rattle.std.proofs.Common.{◌≤◌, arith}
use Rattle.mvs_c.proofs.Labels.{later_run, no_run}
use Rattle.mvs_c.proofs.pool.page_label.Goals as goal

pub returns-in_default : goal.returns-in_default
returns-in_default c =
    let low : 6 ≤ c.loop-i.next = omega (arith, c.loop-i.invariant.least) in
    no_run c.args.machine.now.state c.new.result c.loop-i.next c.args.page c.new.ensures c.loop-i.invariant.starts low c.loop-i.invariant.before c.in_default.ensures

pub returns-then-page-first : goal.returns-then-page-first
returns-then-page-first c =
    let low : 6 ≤ c.loop-i.next = omega (arith, c.loop-i.invariant.least) in
    later_run c.args.machine.now.state c.new.result c.loop-i.next c.args.page c.get-first.result c.in-Some.pages c.new.ensures c.requires c.loop-i.invariant.starts low c.loop-i.invariant.before c.in-Some.ensures c.get-first.ensures.value c.if-page-first.true
