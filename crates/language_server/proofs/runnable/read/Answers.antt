use Rattle.std.proofs.Common.{◌∙◌}
use Rattle.language_server.proofs.Emptying.{a_fault, fault_stays, no_fault, stays}
use Rattle.language_server.proofs.runnable.read.Goals as goal

pub returns-in-Ok-clause-fault : goal.returns-in-Ok-clause-fault
returns-in-Ok-clause-fault c = no_fault c.args.first.now c.args.line.now c.read_line.new.read c.in-Ok.ensures.reading

pub returns-in-Ok-clause-first : goal.returns-in-Ok-clause-first
returns-in-Ok-clause-first c = c.stays_first.ensures ∙ stays c.args.first.now c.args.line.now c.read_line.new.read c.in-Ok.ensures.reading

pub returns-in-Err-clause-fault : goal.returns-in-Err-clause-fault
returns-in-Err-clause-fault c = a_fault c.args.first.now c.args.line.now c.in-Err.fault c.in-Err.ensures.reading

pub returns-in-Err-clause-first : goal.returns-in-Err-clause-first
returns-in-Err-clause-first c = fault_stays c.args.first.now c.args.line.now c.in-Err.fault c.in-Err.ensures.reading
