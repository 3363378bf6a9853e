use Rattle.job_script.proofs.Cut.{end_of_end}
use Rattle.diagnosis.proofs.operands.second_word.Goals as goal

pub returns-clause-end : goal.returns-clause-end
returns-clause-end c = end_of_end c.args.line.now c.next_word.result.1.now c.next_word-2.result.1.now c.next_word.ensures.end c.next_word-2.ensures.end
