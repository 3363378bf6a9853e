use Rattle.mvs_model.specs.Name.{padded}
use Rattle.job_script.specs.Items.{inner}
use Rattle.job_script.proofs.ListsRead.{Reads, more_len, Morenames}
use Rattle.job_script.proofs.values.names.Given as goal

abbrev pub invariant-items : goal.invariant-items
invariant-items l = record {
  on : Reads padded l.list l.more (inner l.fn.text);
  left : Morenames l.more;
}

abbrev pub decreases-items : goal.decreases-items
decreases-items l = more_len l.more
