use Rattle.std.proofs.Common.{Option, [], ap, subst}
use Rattle.std.specs.Option.{unwrap_or}
use Rattle.mvs_model.specs.declared.name.Name.{Name}
use Rattle.mvs_model.specs.declared.request.Reply.TheVariants.{Abended}
use Rattle.mvs_model.specs.Consequences.{Abends}
use Rattle.job_step.proofs.step.Step.abend.Goals as goal

pub returns-clause-abends : goal.returns-clause-abends
returns-clause-abends c = rw (← c.self.view_is) (
    let m = c.self.inside.machine in
    subst (λ (n : Name). Abends m.state n c.args.code (Abended c.args.code c.abend.result) c.abend.new.self.state) (ap (λ (v : Option Name). unwrap_or v []) c.in-Some.ensures.named)
    (c.abend.ensures.0, ap (Abended c.args.code) c.abend.ensures.1))
