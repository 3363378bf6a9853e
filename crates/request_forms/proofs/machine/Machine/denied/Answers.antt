use Rattle.std.proofs.Common.{sym}
use Rattle.mvs_model.specs.Place.{place_at}
use Rattle.request_forms.proofs.Firsts.{is_none}
use Rattle.request_forms.proofs.Refused.{denied_one, denied_second}
use Rattle.request_forms.proofs.machine.Machine.denied.Goals as goal

pub returns-in-Show : goal.returns-in-Show
returns-in-Show c = rw (c.in-Show.is) (denied_one c.args.self.now.state (place_at c.in-Show.from c.in-Show.len) c.denied_in.result (rw (c.new.ensures, c.get.ensures.value) at c.denied_in.ensures))

pub returns-in-Put : goal.returns-in-Put
returns-in-Put c = rw (c.in-Put.is) (denied_one c.args.self.now.state _ c.denied_in-in-Put.result (rw (c.new-in-Put.ensures, c.len.ensures.len) at c.denied_in-in-Put.ensures))

pub returns-else-is_some : goal.returns-else-is_some
returns-else-is_some c =
    let st = c.args.self.now.state in
    let none = is_none c.denied_in-denied.result (sym c.if-is_some.ensures) in
    let first = rw (c.new-in-Move.ensures, c.get-in-Move.ensures.value, none) at c.denied_in-denied.ensures in
    rw (c.in-Move.is) (denied_second st (place_at c.in-Move.to c.in-Move.len) (place_at c.in-Move.from c.in-Move.len) c.denied_in-in-Move.result first (rw (c.new-in-Move-2.ensures, c.get-in-Move-2.ensures.value) at c.denied_in-in-Move.ensures))
