use Rattle.std.proofs.Common.{Decides as Tests, ◌≡◌, ◌++◌, ◌∙◌, ap, subst, sym}
use Rattle.std.proofs.lemmas.Slice.Eq.{slice_eq-Decides}
use Rattle.mvs_model.specs.Texts.{printing}
use Rattle.mvs_job.specs.LineEvents.{events_of_line}
use Rattle.judge.specs.Excluding.{IsVerdict}
use Rattle.judge.proofs.Decided.{in_bounds, same_test}
use Rattle.judge.proofs.Excluding.{fault_verdict}
use Rattle.judge.proofs.exclusion.compare_fault.Goals as goal

pub returns-clause-verdict : goal.returns-clause-verdict
returns-clause-verdict c =
    let same = c.in_ok-printed.ensures.printed ∙ ap (λ x. x ++ printing (events_of_line c.args.walk.now.number c.print_next.new.walk c.in_ok-printed.printed.line_event)) c.new.ensures.items in
    subst (IsVerdict c.args.walk.now c.args.line.now c.args.left.now c.print_next.new.walk) (sym c.ends_if.ensures)
    (fault_verdict _ c.args.walk.now c.print_next.new.walk c.args.line.now c.in_ok-printed.printed.line_event c.in_ok-printed.ensures.served c.in_ok-printed.printed.text.items same c.args.left.now c.requires.fault.0 c.requires.fault.1 c.eq-is_same.result
    (subst (λ x. Tests c.eq-is_same.result (c.args.left.now ≡ x)) c.as_slice.ensures.value (slice_eq-Decides same_test _ _ c.eq-is_same.result c.eq-is_same.ensures)))

pub returns-clause-bounds : goal.returns-clause-bounds
returns-clause-bounds c = in_bounds _ c.args.walk.now c.print_next.new.walk c.args.line.now c.in_ok-printed.printed.line_event c.in_ok-printed.ensures.served c.requires.bounds
