use Rattle.mvs_job.specs.LineEvents.{closing, ended}
use Rattle.mvs_job.specs.declared.consumer.End.TheVariants as end
use Rattle.mvs_job.proofs.ExplainedLine.{explains_end}
use Rattle.mvs_job.proofs.explained.ExplainedConsumer.end.Goals as goal

pub returns-in-Closed-clause-accepted : goal.returns-in-Closed-clause-accepted
returns-in-Closed-clause-accepted g c first =
    rw (c.in-Closed.is) (λ history e is in_step follows known. explains_end _ _ first c.args.self.now c.args.line_number (end.Closed c.in-Closed.ended) c.print_closing.result (closing c.args.line_number c.in-Closed.ended) (λ e is. is.1) c.print_closing.ensures.bytes history e is known)

pub returns-in-Exhausted-clause-accepted : goal.returns-in-Exhausted-clause-accepted
returns-in-Exhausted-clause-accepted g c first =
    rw (c.in-Exhausted.is) (λ history e is in_step follows known. explains_end _ _ first c.args.self.now c.args.line_number (end.Exhausted c.in-Exhausted.ended) c.print_ended.result (ended c.in-Exhausted.ended) (λ e is. is.1) c.print_ended.ensures.bytes history e is known)
