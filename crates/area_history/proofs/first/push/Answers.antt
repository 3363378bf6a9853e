use Rattle.std.proofs.Common.{[], ◌∷◌, arith, ◌≡◌, ◌<◌, length, false}
use Rattle.area_history.proofs.Ranking.{full_is, take_full}
use Rattle.area_history.proofs.first.push.Goals as goal

pub returns-else-not-is_full : goal.returns-else-not-is_full
returns-else-not-is_full g c = take_full g.row.MOST c.args.list.now (c.args.item.now ∷ []) (full_is c.is_full.result (length c.args.list.now) g.row.MOST c.is_full.ensures.full c.if-not-is_full.false)
