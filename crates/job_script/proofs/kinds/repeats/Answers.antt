use Rattle.std.proofs.Common.{sym, ◌∙◌}
use Rattle.mvs_model.specs.Reading.{items}
use Rattle.job_script.proofs.ListItems.{twice_number}
use Rattle.job_script.proofs.kinds.repeats.Goals as goal

pub returns-in-DistinctNumbers : goal.returns-in-DistinctNumbers
returns-in-DistinctNumbers c = rw c.in-DistinctNumbers.is (c.has_twice.ensures ∙ sym (twice_number (items c.args.text.now)))
