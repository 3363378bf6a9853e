use Rattle.std.proofs.Common.{◌≡◌, ◌∙◌, ap, arith, length}
use Rattle.std.proofs.lemmas.List.FromFn.{length-range_with_len}
use Rattle.job_script.proofs.Named.{mapped_ok}
use Rattle.schedules.proofs.search.search_step.Goals as goal

pub invariant_of-start : goal.invariant_of-start
invariant_of-start c =
    let boxed = rw (mapped_ok c.new.result c.map_err.result _ _ c.map_err.ensures.cases c.in_ok-map_err.was) at c.new.ensures.ok in
    let count : length c.in_ok-all_positions.field-0.items ≡ length c.args.lines.now = ap length c.in_ok-all_positions.ensures ∙ length-range_with_len 0 (length c.args.lines.now) in
    let number = c.in_ok-begin.ensures.number in
    let same = ap (λ w. w.number) boxed in
    let room = c.requires in
    record { room = omega (arith, count, number, same, room) }
