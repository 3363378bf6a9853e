use Rattle.std.proofs.Common.{◌≡◌, ◌<◌, ◌≤◌, ◌-◌, ◌∷◌, drop, length, get_or, sym, ap, ◌∙◌, arith, rules}
use Rattle.std.specs.Prelude.{unwrap_or}
use Rattle.area_history.proofs.Dating.{attached_last}
use Rattle.area_history.proofs.Tallying.{from_here}
use Rattle.area_history.proofs.events.StorageEvents.start_of.Goals as goal

pub returns-in-Some : goal.returns-in-Some
returns-in-Some c =
    let events = c.args.self.now in
    let x = c.index.result.now in
    let some : 0 < c.events.rest = c.events-test.true in
    let within : c.events.rest ≤ length events = c.events.invariant.within in
    let is : x ≡ get_or events (c.events.rest - 1) x = search rules in
    let cut : drop (c.events.rest - 1) events ≡ x ∷ drop c.events.rest events = from_here events (c.events.rest - 1) c.events.rest x (omega (arith, some, within)) (omega (arith, some)) is in
    ap (λ o. unwrap_or o (record { line = 0; areas = 0 })) (sym (attached_last c.args.task.now events (c.events.rest - 1) x (drop c.events.rest events) c.in-Some.start cut (sym c.in-Some.ensures) c.events.invariant.none))
