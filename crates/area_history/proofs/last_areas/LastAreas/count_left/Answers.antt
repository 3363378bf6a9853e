use Rattle.std.proofs.Common.{◌+◌, ◌/◌, sym, ap, ◌∙◌}
use Rattle.area_history.specs.LastAreas.{is_last}
use Rattle.area_history.proofs.Marking.{inside}
use Rattle.area_history.proofs.Visibly.{count_whole}
use Rattle.area_history.proofs.last_areas.LastAreas.count_left.Goals as goal

pub returns-then-has_plain-clause-count : goal.returns-then-has_plain-clause-count
returns-then-has_plain-clause-count g c =
    let p = c.args.place in
    ap (λ n. n / 8) c.len.ensures.len
    ∙ count_whole (p.len / 8) (λ k. g.P.Holdings.plain c.args.step.now (p.addr / 8 + k)) (λ k. is_last c.args.self.now c.args.number (p.addr / 8 + k)) (c.has_plain.ensures.0 c.if-has_plain.true)
    (λ k h. c.requires.whole (sym c.is_whole.ensures ∙ c.if-is_whole.true) (p.addr / 8 + k) (inside p k h))
