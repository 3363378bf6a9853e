use Rattle.area_history.proofs.Releasing.{skip_early}
use Rattle.area_history.proofs.events.StorageEvents.fate.Goals as goal

pub fate_among-requires-clause-known : goal.fate_among-requires-clause-known
fate_among-requires-clause-known c = c.quiet_end-end.ensures.most c.as_slice-events.result.now c.add_rest.ensures

pub fate_among-requires-clause-among : goal.fate_among-requires-clause-among
fate_among-requires-clause-among c =
    let d = c.args.doubleword in
    let g = c.args.grant.now in
    let events = c.as_slice-events.result.now in
    record {
      order = c.quiet_end-end.ensures.from;
      quiet = c.quiet_end-end.ensures.quiet events c.add_rest.ensures;
      same = skip_early d g g.owner events c.first_after-first.result c.first_after-first.ensures.within c.first_after-first.ensures.early;
    }
