use Rattle.mvsjob.proofs.Faulting.{nothing_said}
use Rattle.mvsjob.proofs.faulty.is_blank_or_comment.Goals as goal

pub returns-in-Nothing : goal.returns-in-Nothing
returns-in-Nothing c first bytes is = nothing_said first bytes _ c.in-Nothing.is is
