use Rattle.std.proofs.Common.{◌≡◌, ◌+◌, ◌-◌, ◌^◌, subst, sym, ap, ◌∙◌, refl, arith}
use Rattle.mvs_model.specs.Place.{place_at}
use Rattle.boundary_loc.proofs.Deciding.{IsHighest, highest_at_last}
use Rattle.boundary_loc.proofs.last_in.Goals as goal

pub returns : goal.returns
returns c =
    let start : c.start.result ≡ c.args.want.now.start = c.start.ensures.start in
    let start_2 : c.start-2.result ≡ c.args.want.now.start = c.start-2.ensures.start in
    let within : c.within-2.result ≡ c.args.want.now.within = c.within-2.ensures.within in
    let side : c.side.result ≡ c.args.want.now.side = c.side.ensures in
    let begin : c.get-2.result ≡ c.args.run.addr = c.get-2.ensures.value ∙ c.addr-2.ensures in
    let unit : c.power.result ≡ 2 ^ c.args.want.now.start = c.power.ensures.is ∙ ap (λ k. 2 ^ k) start in
    let last : c.from-from.result + (c.from-room.result - c.from-len.result) ≡ c.args.run.addr + (c.args.run.len - c.args.len) =
    omega (arith, c.from-from.ensures, c.get.ensures.value, c.addr.ensures, c.from-room.ensures, c.len.ensures.len, c.from-len.ensures) in
    subst (IsHighest c.args.run c.args.want.now c.args.len) (sym (c.place.ensures ∙ ap (place_at c.last_start-at.result) c.from-len.ensures))
    (highest_at_last c.args.run c.args.want.now c.args.len c.round_down-last.result c.last_start-at.result c.requires.run c.start.ensures.wanted
    (rw (← side, ← begin) (c.if-not-allows.ensures.0 refl)) c.requires.some (omega arith)
    (rw (← unit, ← last) c.round_down-last.ensures)
    (rw (← start_2, ← within, ← c.from-len.ensures) c.last_start-at.ensures) (omega arith))
