use Rattle.std.proofs.Common.{◌∙◌, ℕ, List, ap, subst}
use Rattle.mvs_job.specs.LineEvents.{ServesAs}
use Rattle.mvs_job.proofs.Serving.{serves_unconditionally}
use Rattle.schedules.specs.Answered.{AnsweredValue}
use Rattle.schedules.specs.Texts.{compared}
use Rattle.schedules.proofs.machine.run_line.Goals as goal

abbrev made : ℕ → List ℕ → AnsweredValue
made number text = record { line = number; text = text }

pub returns-clause-runs : goal.returns-clause-runs
returns-clause-runs c =
    let old = c.args.walk.now in
    let new = c.line.new.self in
    let line_event = c.in-Ok.line_event in
    record {
      line_event = line_event;
      serves = subst (λ bytes. ServesAs old bytes line_event new) c.deref.ensures.value (serves_unconditionally _ old new c.deref.result.now line_event c.in-Ok.ensures.executed);
      answer = c.new.ensures ∙ ap (made c.args.line.now.number) (c.compared.ensures ∙ ap (compared c.args.line.now) c.in_ok-text.ensures);
    }
