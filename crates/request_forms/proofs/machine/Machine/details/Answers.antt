use Rattle.std.proofs.Common.{subst}
use Rattle.request_forms.specs.Machine.{task_name}
use Rattle.request_forms.specs.Refused.{Concerns}
use Rattle.request_forms.proofs.Refused.{concerns}
use Rattle.request_forms.proofs.machine.Machine.details.Goals as goal

pub unheld_details-requires-clause-short : goal.unheld_details-requires-clause-short
unheld_details-requires-clause-short c = subst (Concerns c.args.self.now.state (task_name c.args.self.now c.args.t) c.args.request.now) c.in-NotHeld.is (concerns c.args.self.now.state (task_name c.args.self.now c.args.t) c.args.request.now c.args.refusal c.requires.refused)

pub cell_details-requires-clause-short : goal.cell_details-requires-clause-short
cell_details-requires-clause-short c = subst (Concerns c.args.self.now.state (task_name c.args.self.now c.args.t) c.args.request.now) c.in-NoTakenCell.is (concerns c.args.self.now.state (task_name c.args.self.now c.args.t) c.args.request.now c.args.refusal c.requires.refused)

pub returns-in-OffDoubleword : goal.returns-in-OffDoubleword
returns-in-OffDoubleword c = rw (c.in-OffDoubleword.is) (c.off_details.ensures c.args.self.now.state (task_name c.args.self.now c.args.t))

pub returns-in-Overlap : goal.returns-in-Overlap
returns-in-Overlap c = rw (c.in-Overlap.is) (c.overlap_details.ensures c.args.self.now.state (task_name c.args.self.now c.args.t))
