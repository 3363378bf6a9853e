use Rattle.mvs_model.proofs.ReadingRanges.{line_ranged}
use Rattle.mvs_laws.proofs.laws.in_ranges.Goals as goal

pub returns : goal.returns
returns c = line_ranged
