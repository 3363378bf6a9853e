use Rattle.std.proofs.Common.{◌≡◌, ◌≤◌, ◌+◌, ◌&&◌}
use Rattle.mvs_model.specs.Finite.{count_below}
use Rattle.area_history.specs.LastAreas.{is_last}
use Rattle.area_history.proofs.last_areas.LastAreas.count_each.Given as goal

abbrev pub invariant-loop-k : goal.invariant-loop-k
invariant-loop-k g l = record {
  few : l.left ≤ l.k;
  counted : l.left ≡ count_below l.k (λ k. g.P.Holdings.plain l.step (l.first + k) && is_last l.self l.number (l.first + k));
}
