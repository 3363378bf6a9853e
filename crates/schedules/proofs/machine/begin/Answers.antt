use Rattle.std.proofs.Common.{subst}
use Rattle.mvs_job.specs.LineEvents.{ServesAs, new_walk}
use Rattle.mvs_job.proofs.Serving.{serves_unconditionally}
use Rattle.schedules.proofs.machine.begin.Goals as goal

pub returns-in-Ok-clause-begins : goal.returns-in-Ok-clause-begins
returns-in-Ok-clause-begins c =
    let new = c.line.new.self in
    let line_event = c.in-Ok.field-0 in
    let serves = serves_unconditionally _ c.new-walk.result new c.deref.result.now line_event c.in-Ok.ensures.executed in
    (line_event, subst (λ bytes. ServesAs new_walk bytes line_event new) c.deref.ensures.value (subst (λ walk. ServesAs walk c.deref.result.now line_event new) c.new-walk.ensures serves))
