use Rattle.std.proofs.Common.{◌≡◌, ◌+◌, ◌^◌, ◌∙◌, ap, refl, arith}
use Rattle.boundary_loc.proofs.Deciding.{starts_decide}
use Rattle.boundary_loc.proofs.starts_in.Goals as goal

pub returns : goal.returns
returns c =
    let start : c.start.result ≡ c.args.want.now.start = c.start.ensures.start in
    let start_2 : c.start-2.result ≡ c.args.want.now.start = c.start-2.ensures.start in
    let within : c.within.result ≡ c.args.want.now.within = c.within.ensures.within in
    let within_2 : c.within-2.result ≡ c.args.want.now.within = c.within-2.ensures.within in
    let within_3 : c.within-3.result ≡ c.args.want.now.within = c.within-3.ensures.within in
    let side : c.side.result ≡ c.args.want.now.side = c.side.ensures in
    let begin : c.get-from.result ≡ c.args.run.addr = c.get-from.ensures.value ∙ c.addr.ensures in
    let from : c.from-from.result ≡ c.args.run.addr = c.from-from.ensures ∙ begin in
    let unit : c.power.result ≡ 2 ^ c.args.want.now.start = c.power.ensures.is ∙ ap (λ k. 2 ^ k) start in
    let end : c.from-from.result + c.from.result ≡ c.args.run.addr + c.args.run.len = omega (arith, c.from.ensures, c.len.ensures.len) in
    starts_decide c.args.run c.args.want.now _ _ _ _ c.requires c.start.ensures.wanted
    (rw (← side, ← begin) (c.if-not-allows.ensures.0 refl))
    (rw (← unit, ← from) c.round_up-first.ensures.least)
    (rw (← start_2, ← within) c.next_start-next.ensures.next)
    (rw (← within_2, ← end) c.room.ensures)
    (rw (← within_3, ← end) c.room-2.ensures)
