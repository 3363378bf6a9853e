use Rattle.std.proofs.Common.{[]}
use Rattle.mvs_model.specs.declared.want.Residence.TheVariants.{Below}
use Rattle.mvs_model.specs.Start.{start}
use Rattle.mvs_model.specs.State.{State}
use Rattle.mvs_job.proofs.printing.print_reply.Goals as goal

-- an answer without data of the job is printed alike in each state
abbrev any_state : State
any_state = start (record { name = []; below = 1; above = 0; fill = 0; residence = Below })

pub returns-in-NotRun : goal.returns-in-NotRun
returns-in-NotRun g c = rw (c.in-NotRun.is) (c.print_short_answer.ensures any_state [])

pub returns-in-Rc0 : goal.returns-in-Rc0
returns-in-Rc0 g c = rw (c.in-Rc0.is) (c.print_short_answer-in-Rc0.ensures any_state [])

pub returns-in-Obtained : goal.returns-in-Obtained
returns-in-Obtained g c = rw (c.in-Obtained.is) (c.print_short_answer-in-Obtained.ensures any_state [])

pub returns-in-Listed : goal.returns-in-Listed
returns-in-Listed g c = rw (c.in-Listed.is) (c.print_short_answer-in-Listed.ensures any_state [])

pub returns-in-Rc4 : goal.returns-in-Rc4
returns-in-Rc4 g c = rw (c.in-Rc4.is) (c.print_short_answer-in-Rc4.ensures any_state [])

pub returns-in-Cell : goal.returns-in-Cell
returns-in-Cell g c = rw (c.in-Cell.is) (c.print_short_answer-in-Cell.ensures any_state [])

pub returns-in-NoCell : goal.returns-in-NoCell
returns-in-NoCell g c = rw (c.in-NoCell.is) (c.print_short_answer-in-NoCell.ensures any_state [])

pub returns-in-Attached : goal.returns-in-Attached
returns-in-Attached g c = rw (c.in-Attached.is) (c.print_short_answer-in-Attached.ensures any_state [])

pub returns-in-Ended : goal.returns-in-Ended
returns-in-Ended g c = rw (c.in-Ended.is) (c.print_short_answer-in-Ended.ensures any_state [])

pub returns-in-Done : goal.returns-in-Done
returns-in-Done g c = rw (c.in-Done.is) (c.print_short_answer-in-Done.ensures any_state [])
