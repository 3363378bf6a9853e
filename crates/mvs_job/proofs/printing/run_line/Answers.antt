use Rattle.mvs_job.proofs.Printed.{printed_line}
use Rattle.mvs_job.proofs.printing.run_line.Goals as goal

pub returns-clause-ran : goal.returns-clause-ran
returns-clause-ran g c = printed_line _ _ c.args.walk.now c.args.line.now c.run_entry.new.walk c.run_entry.new.consumer _ c.run_entry.new.consumer c.run_entry.result (c.run_entry.ensures.ran c.run_entry.new.consumer)
