use Rattle.std.proofs.Common.{◌≡◌, drop, slice_get}
use Rattle.std.specs.List.{flat_map}
use Rattle.mvs_job.specs.Facts.{ended_pair}
use Rattle.mvs_c.specs.Effects.{fate_effects}
use Rattle.mvs_c.proofs.effect_walk.end_effect.Given as goal

-- what is asked of the subpools that are left
abbrev pub invariant-loop-subpool : goal.invariant-loop-subpool
invariant-loop-subpool l = slice_get (flat_map (fate_effects (ended_pair l.ended)) (drop l.subpool-index l.subpools)) l.left ≡ slice_get (flat_map (fate_effects (ended_pair l.ended)) l.subpools) l.index
