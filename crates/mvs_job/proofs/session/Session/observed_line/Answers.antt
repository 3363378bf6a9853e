use Rattle.std.proofs.Common.{[]}
use Rattle.request_forms.specs.Taking.{Takes}
use Rattle.mvs_job.proofs.Serving.{each_serves}
use Rattle.mvs_job.proofs.session.Session.observed_line.Goals as goal

pub returns-clause-executed : goal.returns-clause-executed
returns-clause-executed g c = rw (← c.self.view_is) (each_serves (Takes []) c.self.inside.walk c.observed_line-line_event.new.self c.args.line.now c.observed_line-line_event.result _ c.observed_line-line_event.ensures.executed)
