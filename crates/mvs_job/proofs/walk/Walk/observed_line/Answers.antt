use Rattle.std.proofs.Common.{ap, subst}
use Rattle.std.specs.Prelude.{IfOk}
use Rattle.request_forms.specs.Taking.{Takes}
use Rattle.mvs_job.specs.Observing.{ObservesLine}
use Rattle.mvs_job.proofs.Serving.{each_before, reply_before}
use Rattle.mvs_job.proofs.walk.Walk.observed_line.Goals as goal

pub returns-clause-executed : goal.returns-clause-executed
returns-clause-executed g c =
    each_before (Takes c.args.hints.now) c.args.self.now c.parse-parsed.new.self c.execute.new.self c.args.line.now c.parse-parsed.ensures.rest c.execute.result (c.execute.ensures.executed c.args.line.now c.parse-parsed.ensures.reading)

pub returns-clause-reply : goal.returns-clause-reply
returns-clause-reply g c =
    reply_before (Takes c.args.hints.now) c.args.self.now c.parse-parsed.new.self c.execute.new.self c.args.line.now c.parse-parsed.ensures.rest c.execute.result (c.execute.ensures.reply c.args.line.now c.parse-parsed.ensures.reading)

pub returns-clause-observed : goal.returns-clause-observed
returns-clause-observed g c =
    subst (λ o. IfOk c.execute.result (λ answered. ObservesLine g.O.Observer.heard c.args.observer.now o c.args.line.now answered c.execute.new.self c.execute.new.observer)) (ap (λ m. m.step) c.parse-parsed.ensures.rest) (c.execute.ensures.observed c.args.line.now c.parse-parsed.ensures.reading)
