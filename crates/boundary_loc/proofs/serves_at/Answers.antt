use Rattle.std.proofs.Common.{◌≡◌, ◌+◌, ◌%◌, ◌^◌, ◌≤◌, ◌<◌, ◌↔◌, ◌∙◌, ap, refl, arith}
use Rattle.std.proofs.lemmas.Bool.Decides.{nat_tests}
use Rattle.mvs_model.specs.Place.{place_at}
use Rattle.boundary_loc.specs.Boundary.{Fits, Allows}
use Rattle.boundary_loc.specs.Starts.{Serves}
use Rattle.boundary_loc.proofs.Deciding.{serving}
use Rattle.boundary_loc.proofs.serves_at.Goals as goal

pub returns-then-at-power-eq0 : goal.returns-then-at-power-eq0
returns-then-at-power-eq0 c =
    let start : c.start.result ≡ c.args.want.now.start = c.start.ensures.start in
    let within : c.within.result ≡ c.args.want.now.within = c.within.ensures.within in
    let side : c.side.result ≡ c.args.want.now.side = c.side.ensures in
    let begin : c.get-from.result ≡ c.args.run.addr = c.get-from.ensures.value ∙ c.addr.ensures in
    let unit : c.power.result ≡ 2 ^ c.args.want.now.start = c.power.ensures.is ∙ ap (λ k. 2 ^ k) start in
    let at : c.from-at.result ≡ c.args.addr = c.from-at.ensures ∙ c.get-2.ensures.value in
    let end : c.from.result + c.from-2.result ≡ c.args.run.addr + c.args.run.len = omega (arith, c.from.ensures, c.from-2.ensures, c.len.ensures.len) in
    let len : c.from-then-at-power-eq0.result ≡ c.args.len = c.from-then-at-power-eq0.ensures in
    let some : 0 < c.args.len = omega (arith, c.requires.some) in
    let allowed : Allows c.args.want.now.side c.args.run.addr = rw (← side, ← begin) (c.if-not-allows.ensures.0 refl) in
    let on : c.args.addr % 2 ^ c.args.want.now.start ≡ 0 = rw (← unit, ← at) c.if-at-power-eq0.true in
    let fits : (c.args.len ≤ c.room.result) ↔ Fits c.args.want.now.within (c.args.run.addr + c.args.run.len) c.args.len c.args.addr = rw (← within, ← end, ← at) (c.room.ensures c.args.len some) in
    let serves : Fits c.args.want.now.within (c.args.run.addr + c.args.run.len) c.args.len c.args.addr ↔ Serves c.args.run c.args.want.now (place_at c.args.addr c.args.len) = serving c.args.run c.args.want.now c.args.addr c.args.len c.requires.run c.start.ensures.wanted allowed (omega arith) on some in (
      λ h. serves.0 (fits.0 (grind (arith, nat_tests))),
      λ s. let m : c.args.len ≤ c.room.result = fits.1 (serves.1 s) in grind (arith, nat_tests),
    )
