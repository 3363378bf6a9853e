-- The runs of the map follow one another, and each is looked at.
use Rattle.std.proofs.Common.{◌≡◌, ℕ, ◌+◌, ◌/◌, ◌≤◌, arith, ap}
use Rattle.mvs_c.proofs.Mapped.{Scanned, none_after, none_before, scans_on}
use Rattle.mvs_c.proofs.held.first_on_map.Goals as goal

pub returns-in_default : goal.returns-in_default
returns-in_default c =
    let low : 6 ≤ c.loop-i.page = omega (arith, c.loop-i.invariant.least) in
    none_after c.args.machine.now.state c.args.from c.new.result c.loop-i.page c.new.ensures c.loop-i.invariant.starts low c.in_default.ensures c.loop-i.invariant.none

pub returns-in-Some-first_on_pages : goal.returns-in-Some-first_on_pages
returns-in-Some-first_on_pages c =
    let h = c.in-Some-first_on_pages.ensures in
    let r = c.in-Some.ensures in
    let low : 6 ≤ c.loop-i.page = omega (arith, c.loop-i.invariant.least) in
    (h.0, omega (arith, h.1, r.end), h.2, none_before c.args.machine.now.state c.args.from c.new.result c.loop-i.page c.in-Some-first_on_pages.found.0 c.in-Some.pages c.new.ensures c.requires c.loop-i.invariant.starts low r c.loop-i.invariant.none h.3)

pub loop-i-preserved : goal.loop-i-preserved
loop-i-preserved c =
    let scanned : Scanned c.args.machine.now.state c.args.from c.loop-i.i c.loop-i.page = record { least = c.loop-i.invariant.least; most = c.loop-i.invariant.most; starts = c.loop-i.invariant.starts; none = c.loop-i.invariant.none } in
    let end : (c.get.result + c.in-Some.pages.len) / 4096 ≡ (c.in-Some.pages.addr + c.in-Some.pages.len) / 4096 = ap (λ (n : ℕ). (n + c.in-Some.pages.len) / 4096) c.get.ensures.value in
    let next : Scanned c.args.machine.now.state c.args.from (c.loop-i.i + 1) ((c.get.result + c.in-Some.pages.len) / 4096)
    = scans_on c.args.machine.now.state c.args.from c.loop-i.i c.new.result c.loop-i.page _ c.in-Some.pages c.new.ensures c.requires scanned c.in-Some.ensures end c.in_default-first_on_pages.ensures in
    record { least = next.least; most = next.most; starts = next.starts; none = next.none }
