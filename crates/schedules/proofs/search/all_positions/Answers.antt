use Rattle.std.proofs.Common.{◌≡◌, ◌+◌, ◌++◌, ◌∷◌, [], ◌∙◌, ap, arith, rules, sym}
use Rattle.std.specs.List.{range_with_len}
use Rattle.schedules.proofs.Branches.{range_last}
use Rattle.schedules.proofs.search.all_positions.Goals as goal

pub loop-position-preserved : goal.loop-position-preserved
loop-position-preserved c =
    let i = c.loop-position.position in
    let pushed : c.push.new.self.items ≡ c.loop-position.all.items ++ i ∷ [] = search rules in
    let last : range_with_len 0 i ++ i ∷ [] ≡ range_with_len 0 (i + 1) = ap (λ n. range_with_len 0 i ++ n ∷ []) (omega arith) ∙ sym (range_last 0 i) in
    pushed ∙ ap (λ x. x ++ i ∷ []) c.loop-position.invariant ∙ last
