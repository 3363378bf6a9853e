use Rattle.mvs_model.specs.Reading.{number}
use Rattle.job_script.specs.Items.{inner}
use Rattle.job_script.proofs.ListsRead.{Reads, more_len, Morelengths}
use Rattle.job_script.proofs.values.lengths.Given as goal

abbrev pub invariant-items : goal.invariant-items
invariant-items l = record {
  on : Reads number l.list l.more (inner l.fn.text);
  left : Morelengths l.more;
}

abbrev pub decreases-items : goal.decreases-items
decreases-items l = more_len l.more
