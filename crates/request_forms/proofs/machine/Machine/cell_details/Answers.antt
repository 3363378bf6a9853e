use Rattle.std.proofs.Common.{subst}
use Rattle.request_forms.specs.Refused.{Untaken}
use Rattle.request_forms.proofs.machine.Machine.cell_details.Goals as goal

pub spot-requires-clause-untaken : goal.spot-requires-clause-untaken
spot-requires-clause-untaken c = rw (← c.self.view_is) at (subst (Untaken c.args.self.now.state) c.in-Free.is c.requires.short)
