use Rattle.mvs_job.specs.LineEvents.{closing, ended}
use Rattle.mvs_job.specs.declared.consumer.End.TheVariants as end
use Rattle.event_json.specs.Lines.{step_end}
use Rattle.event_json.proofs.Written.{accepts_end, ended_lines}
use Rattle.event_json.proofs.event_lines.EventLinesConsumer.end.Goals as goal

pub returns-in-Exhausted-clause-accepted : goal.returns-in-Exhausted-clause-accepted
returns-in-Exhausted-clause-accepted g c first =
    rw (c.in-Exhausted.is)
    (λ history e is in_step follows known. accepts_end _ _ first c.args.self.now c.args.self.now c.args.line_number (end.Exhausted c.in-Exhausted.ended) c.write_ended.result (ended c.in-Exhausted.ended) (λ e is. is.1) (step_end c.in-Exhausted.ended, ended_lines c.in-Exhausted.ended, c.write_ended.ensures.bytes) history e is)

pub returns-in-Closed-clause-accepted : goal.returns-in-Closed-clause-accepted
returns-in-Closed-clause-accepted g c first =
    rw (c.in-Closed.is)
    (λ history e is in_step follows known. accepts_end _ _ first c.args.self.now c.args.self.now c.args.line_number (end.Closed c.in-Closed.ended) c.write_end.result (closing c.args.line_number c.in-Closed.ended) (λ e is. is.1) c.write_end.ensures.written history e is)
