-- The runs of the map follow one another, and the flags of each are set.
use Rattle.std.proofs.Common.{◌≡◌, ℕ, ◌+◌, ◌/◌, ◌≤◌, arith, ap}
use Rattle.mvs_c.proofs.Flags.{Flagged, flags_at_end, flags_on_run}
use Rattle.mvs_c.proofs.pages.PageFlags.fill.Goals as goal

pub returns-in_default : goal.returns-in_default
returns-in_default c =
    let low : 6 ≤ c.loop-i.next = omega (arith, c.loop-i.invariant.least) in
    flags_at_end c.args.machine.now.state c.new.result c.loop-i.next c.loop-i.self c.set-in_default.new.self c.new.ensures c.loop-i.invariant.starts low c.in_default.ensures
    c.loop-i.invariant.flags c.set-in_default.ensures.before c.set-in_default.ensures.set

pub loop-i-preserved : goal.loop-i-preserved
loop-i-preserved c =
    let known : Flagged c.args.machine.now.state c.loop-i.i c.loop-i.next c.loop-i.self
    = record { least = c.loop-i.invariant.least; most = c.loop-i.invariant.most; starts = c.loop-i.invariant.starts; flags = c.loop-i.invariant.flags } in
    let first : c.get-first.result / 4096 ≡ c.in-Some.pages.addr / 4096 = ap (λ (n : ℕ). n / 4096) c.get-first.ensures.value in
    let end : (c.get.result + c.in-Some.pages.len) / 4096 ≡ (c.in-Some.pages.addr + c.in-Some.pages.len) / 4096 = ap (λ (n : ℕ). (n + c.in-Some.pages.len) / 4096) c.get.ensures.value in
    let next = flags_on_run c.args.machine.now.state c.new.result c.loop-i.i c.loop-i.next (c.get-first.result / 4096) ((c.get.result + c.in-Some.pages.len) / 4096) c.in-Some.pages
    c.loop-i.self c.set-in-loop-i.new.self c.set-in-loop-i-2.new.self c.is_some.result c.new.ensures c.requires known c.in-Some.ensures first end c.is_some.ensures
    c.set-in-loop-i.ensures.before c.set-in-loop-i.ensures.set c.set-in-loop-i-2.ensures.before c.set-in-loop-i-2.ensures.set in
    record { least = next.least; most = next.most; starts = next.starts; flags = next.flags }
