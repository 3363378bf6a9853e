use Rattle.std.proofs.Common.{length}
use Rattle.judge.proofs.maps.+has_blank_first.Given as goal

abbrev pub decreases-has_blank_first : goal.decreases-has_blank_first
decreases-has_blank_first l = length l.text.now
