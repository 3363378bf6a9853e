use Rattle.mvs_model.specs.Reading.{location}
use Rattle.job_script.specs.Items.{inner}
use Rattle.job_script.proofs.ListsRead.{Reads, more_len, Morelocations}
use Rattle.job_script.proofs.values.locations.Given as goal

abbrev pub invariant-items : goal.invariant-items
invariant-items l = record {
  on : Reads location l.list l.more (inner l.fn.text);
  left : Morelocations l.more;
}

abbrev pub decreases-items : goal.decreases-items
decreases-items l = more_len l.more
