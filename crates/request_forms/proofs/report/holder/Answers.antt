use Rattle.request_forms.proofs.Reporting.{label_is}
use Rattle.request_forms.proofs.report.holder.Goals as goal

pub returns : goal.returns
returns c = label_is c.args.tasks.now.owners c.args.owner c.in_ok-subpool.subpool c.label.result c.label.ensures.kept c.in_ok-subpool.was c.label.ensures.label
