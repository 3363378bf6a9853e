use Rattle.area_history.proofs.Releasing.{ascends_more}
use Rattle.area_history.proofs.events.stays_ascending.Goals as goal

pub returns : goal.returns
returns c made = ascends_more c.args.events.now c.args.event.now (c.requires c.if-not-is_ascending.false) (c.ends_by.ensures made)
