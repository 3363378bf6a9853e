use Rattle.std.proofs.Common.{◌∷◌, ◌++◌, [], sym, subst}
use Rattle.area_history.specs.ReleaseIndex.{IsAscending, IsReleaseIndex}
use Rattle.area_history.specs.Histories.{event_of}
use Rattle.area_history.proofs.Releasing.{events_more}
use Rattle.area_history.proofs.events.StorageEvents.push.Goals as goal

pub invariant_of-self-2 : goal.invariant_of-self-2
invariant_of-self-2 c =
    let events = c.self.inside.events.items in
    let e = event_of c.args.line c.args.task.now c.args.change in (
      (λ made. subst IsAscending (sym c.in-Ok.ensures.items) (subst (λ l. IsAscending (l ++ e ∷ [])) c.as_slice.ensures.value (c.stays_ascending-stays.ensures made))),
      subst (λ l. IsReleaseIndex c.self.inside.index l) (sym c.in-Ok.ensures.items) (events_more events (e ∷ []) c.self.inside.index c.self.invariant.1),
    )
