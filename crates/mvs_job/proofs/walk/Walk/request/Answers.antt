use Rattle.mvs_job.proofs.Valuing.{observed, requested}
use Rattle.mvs_job.proofs.walk.Walk.request.Goals as goal

pub returns-in-Some-clause-requests : goal.returns-in-Some-clause-requests
returns-in-Some-clause-requests g c = rw (← c.self.view_is)
    (requested c.self.inside.job c.self.inside.number c.self.inside.read c.self.inside.request c.self.inside.reply c.args.task.now c.args.request.now c.request.new.reply c.in-Some.job c.request.new.self c.in-Some.is c.request.ensures.requests)

pub returns-in-Some-clause-observed : goal.returns-in-Some-clause-observed
returns-in-Some-clause-observed g c = rw (← c.self.view_is)
    (observed c.self.inside.job c.self.inside.number c.self.inside.read c.self.inside.request c.self.inside.reply g.O.Observer.heard c.args.observer.now c.request.new.observer c.args.task.now c.args.request.now c.request.new.reply c.in-Some.job c.request.new.self c.in-Some.is c.request.ensures.observed)
