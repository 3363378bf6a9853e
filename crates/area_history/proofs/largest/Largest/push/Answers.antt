use Rattle.std.proofs.Common.{[], ◌∷◌, length}
use Rattle.area_history.proofs.Ranking.{full_is, take_full}
use Rattle.area_history.proofs.largest.Largest.push.Goals as goal

pub returns-else-not-is_full : goal.returns-else-not-is_full
returns-else-not-is_full c = take_full 10 c.args.self.now (c.args.leak ∷ []) (full_is c.is_full.result (length c.args.self.now) 10 c.is_full.ensures.full c.if-not-is_full.false)
