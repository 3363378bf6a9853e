use Rattle.job_script.proofs.Named.{mapped_ok}
use Rattle.judge.proofs.judge_within.Goals as goal

pub returns-clause-decided : goal.returns-clause-decided
returns-clause-decided c = rw (mapped_ok c.judge_short.result c.map_err.result _ _ c.map_err.ensures.cases c.in_ok-judgement.was) at c.judge_short.ensures.decided

pub returns-clause-parts : goal.returns-clause-parts
returns-clause-parts c = rw (mapped_ok c.judge_short.result c.map_err.result _ _ c.map_err.ensures.cases c.in_ok-judgement.was) at c.judge_short.ensures.parts

pub returns-clause-stopped : goal.returns-clause-stopped
returns-clause-stopped c = rw (mapped_ok c.judge_short.result c.map_err.result _ _ c.map_err.ensures.cases c.in_ok-judgement.was) at c.judge_short.ensures.stopped
