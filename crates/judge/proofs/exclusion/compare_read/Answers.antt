use Rattle.std.proofs.Common.{◌≡◌, ◌++◌, ◌∙◌, ap, drop, length, subst, sym}
use Rattle.mvs_model.specs.Texts.{printing}
use Rattle.mvs_job.specs.LineEvents.{events_of_line}
use Rattle.judge.specs.Excluding.{EndsMap, IsBegunLine, IsVerdict}
use Rattle.judge.specs.Reporting.{DiffersInReport}
use Rattle.judge.specs.Shapes.{DiffersInShape}
use Rattle.judge.proofs.Decided.{in_bounds}
use Rattle.judge.proofs.Excluding.{both_true, certain_verdict, open_in, map_verdict, open_verdict, report_verdict, settled_in, shape_verdict, shown_verdict}
use Rattle.judge.proofs.exclusion.compare_read.Goals as goal

pub returns-then-is_certain : goal.returns-then-is_certain
returns-then-is_certain c =
    let same = c.in_ok-printed.ensures.printed ∙ ap (λ x. x ++ printing (events_of_line c.args.walk.now.number c.print_next.new.walk c.in_ok-printed.printed.line_event)) c.new.ensures.items in
    record {
      verdict = subst (IsVerdict c.args.walk.now c.args.line.now c.args.left.now c.print_next.new.walk) (sym c.verdict_if.ensures)
          (certain_verdict _ c.args.walk.now c.print_next.new.walk c.args.line.now c.in_ok-printed.printed.line_event c.in_ok-printed.ensures.served c.in_ok-printed.printed.text.items same c.args.read.now c.requires.read c.is_shown-is_shown.ensures.some c.print_next.ensures.number (settled_in _ c.args.walk.now c.print_next.new.walk c.args.line.now c.in_ok-printed.printed.line_event c.in_ok-printed.ensures.served c.in_ok-printed.printed.text.items same c.args.read.now c.requires.read c.is_shown-is_shown.ensures.some c.print_next.ensures.number c.is_certain.result c.is_certain.ensures c.if-is_certain.true) c.args.left.now (length c.as_slice-len.result.now) (ap length c.as_slice-len.ensures.value) c.begins-passes.result
          (λ e. subst (λ x. c.args.left.now ≡ x ++ drop (length x) c.args.left.now) c.as_slice.ensures.value (c.begins-passes.ensures.yes e))
          (λ rest e. c.begins-passes.ensures.no rest (e ∙ ap (λ x. x ++ rest) (sym c.as_slice.ensures.value))));
      number = c.print_next.ensures.number;
      bounds = in_bounds _ c.args.walk.now c.print_next.new.walk c.args.line.now c.in_ok-printed.printed.line_event c.in_ok-printed.ensures.served c.requires.bounds;
    }

pub returns-then-agrees : goal.returns-then-agrees
returns-then-agrees c =
    let same = c.in_ok-printed.ensures.printed ∙ ap (λ x. x ++ printing (events_of_line c.args.walk.now.number c.print_next.new.walk c.in_ok-printed.printed.line_event)) c.new.ensures.items in
    let tests = both_true c.begins-passes.result c.is_shown-is_shown.result (sym c.both-agrees.ensures ∙ c.if-agrees.true) in
    record {
      verdict = shown_verdict _ c.args.walk.now c.print_next.new.walk c.args.line.now c.in_ok-printed.printed.line_event c.in_ok-printed.ensures.served c.in_ok-printed.printed.text.items same c.args.read.now c.requires.read c.is_shown-is_shown.ensures.some c.print_next.ensures.number c.requires.bounds (open_in _ c.args.walk.now c.print_next.new.walk c.args.line.now c.in_ok-printed.printed.line_event c.in_ok-printed.ensures.served c.in_ok-printed.printed.text.items same c.args.read.now c.requires.read c.is_shown-is_shown.ensures.some c.print_next.ensures.number c.is_certain.result c.is_certain.ensures c.if-is_certain.false) (sym c.is_shown-is_shown.ensures.shown ∙ tests.1) c.args.left.now (length c.as_slice-len.result.now) (ap length c.as_slice-len.ensures.value)
          (subst (λ x. c.args.left.now ≡ x ++ drop (length x) c.args.left.now) c.as_slice.ensures.value (c.begins-passes.ensures.yes tests.0));
      number = c.print_next.ensures.number;
      bounds = in_bounds _ c.args.walk.now c.print_next.new.walk c.args.line.now c.in_ok-printed.printed.line_event c.in_ok-printed.ensures.served c.requires.bounds;
    }

pub returns-then-passes_map : goal.returns-then-passes_map
returns-then-passes_map c =
    let same = c.in_ok-printed.ensures.printed ∙ ap (λ x. x ++ printing (events_of_line c.args.walk.now.number c.print_next.new.walk c.in_ok-printed.printed.line_event)) c.new.ensures.items in
    let tests = both_true c.begins-passes.result c.in_ok-is_whole.is_whole (sym c.both-passes_map.ensures ∙ c.if-passes_map.true) in
    let ends =
    subst (λ n. EndsMap n c.args.read.now (drop (length c.in_ok-printed.printed.text.items) c.args.left.now)) c.number-line_number.ensures
    (subst (λ x. EndsMap c.number-line_number.result c.args.read.now x) (c.text_after.ensures ∙ ap (λ n. drop n c.args.left.now) (ap length c.as_slice-len.ensures.value))
    (c.in_ok-is_whole.ensures tests.1)) in
    record {
      verdict = map_verdict _ c.args.walk.now c.print_next.new.walk c.args.line.now c.in_ok-printed.printed.line_event c.in_ok-printed.ensures.served c.in_ok-printed.printed.text.items same c.args.read.now c.requires.read c.is_shown-is_shown.ensures.some c.print_next.ensures.number (open_in _ c.args.walk.now c.print_next.new.walk c.args.line.now c.in_ok-printed.printed.line_event c.in_ok-printed.ensures.served c.in_ok-printed.printed.text.items same c.args.read.now c.requires.read c.is_shown-is_shown.ensures.some c.print_next.ensures.number c.is_certain.result c.is_certain.ensures c.if-is_certain.false) c.args.left.now (length c.as_slice-len.result.now) (ap length c.as_slice-len.ensures.value)
          (subst (λ x. c.args.left.now ≡ x ++ drop (length x) c.args.left.now) c.as_slice.ensures.value (c.begins-passes.ensures.yes tests.0))
          ends;
      number = c.print_next.ensures.number;
      bounds = in_bounds _ c.args.walk.now c.print_next.new.walk c.args.line.now c.in_ok-printed.printed.line_event c.in_ok-printed.ensures.served c.requires.bounds;
    }

pub returns-then-is_other : goal.returns-then-is_other
returns-then-is_other c =
    let same = c.in_ok-printed.ensures.printed ∙ ap (λ x. x ++ printing (events_of_line c.args.walk.now.number c.print_next.new.walk c.in_ok-printed.printed.line_event)) c.new.ensures.items in
    record {
      verdict = report_verdict _ c.args.walk.now c.print_next.new.walk c.args.line.now c.in_ok-printed.printed.line_event c.in_ok-printed.ensures.served c.in_ok-printed.printed.text.items same c.args.read.now c.requires.read c.is_shown-is_shown.ensures.some c.print_next.ensures.number c.requires.bounds (open_in _ c.args.walk.now c.print_next.new.walk c.args.line.now c.in_ok-printed.printed.line_event c.in_ok-printed.ensures.served c.in_ok-printed.printed.text.items same c.args.read.now c.requires.read c.is_shown-is_shown.ensures.some c.print_next.ensures.number c.is_certain.result c.is_certain.ensures c.if-is_certain.false) c.args.left.now
          (subst (λ x. DiffersInReport c.args.read.now x c.args.left.now) c.as_slice-2.ensures.value (c.differs_in_report-is_other.ensures c.if-is_other.true));
      number = c.print_next.ensures.number;
      bounds = in_bounds _ c.args.walk.now c.print_next.new.walk c.args.line.now c.in_ok-printed.printed.line_event c.in_ok-printed.ensures.served c.requires.bounds;
    }

pub returns-then-is_unlike : goal.returns-then-is_unlike
returns-then-is_unlike c =
    let same = c.in_ok-printed.ensures.printed ∙ ap (λ x. x ++ printing (events_of_line c.args.walk.now.number c.print_next.new.walk c.in_ok-printed.printed.line_event)) c.new.ensures.items in
    record {
      verdict = shape_verdict _ c.args.walk.now c.print_next.new.walk c.args.line.now c.in_ok-printed.printed.line_event c.in_ok-printed.ensures.served c.in_ok-printed.printed.text.items same c.args.read.now c.requires.read c.is_shown-is_shown.ensures.some c.print_next.ensures.number (open_in _ c.args.walk.now c.print_next.new.walk c.args.line.now c.in_ok-printed.printed.line_event c.in_ok-printed.ensures.served c.in_ok-printed.printed.text.items same c.args.read.now c.requires.read c.is_shown-is_shown.ensures.some c.print_next.ensures.number c.is_certain.result c.is_certain.ensures c.if-is_certain.false) c.args.left.now
          (subst (λ n. DiffersInShape n c.args.read.now c.in_ok-printed.printed.text.items c.args.left.now) c.number-line_number.ensures
          (subst (λ x. DiffersInShape c.number-line_number.result c.args.read.now x c.args.left.now) c.as_slice-3.ensures.value (c.in_ok-is_unlike.ensures c.if-is_unlike.true)));
      number = c.print_next.ensures.number;
      bounds = in_bounds _ c.args.walk.now c.print_next.new.walk c.args.line.now c.in_ok-printed.printed.line_event c.in_ok-printed.ensures.served c.requires.bounds;
    }

pub returns : goal.returns
returns c =
    let same = c.in_ok-printed.ensures.printed ∙ ap (λ x. x ++ printing (events_of_line c.args.walk.now.number c.print_next.new.walk c.in_ok-printed.printed.line_event)) c.new.ensures.items in
    record {
      verdict = subst (IsVerdict c.args.walk.now c.args.line.now c.args.left.now c.print_next.new.walk) (sym c.undecided_if.ensures)
          (open_verdict _ c.args.walk.now c.print_next.new.walk c.args.line.now c.in_ok-printed.printed.line_event c.in_ok-printed.ensures.served c.in_ok-printed.printed.text.items same c.args.read.now c.requires.read c.is_shown-is_shown.ensures.some c.print_next.ensures.number (open_in _ c.args.walk.now c.print_next.new.walk c.args.line.now c.in_ok-printed.printed.line_event c.in_ok-printed.ensures.served c.in_ok-printed.printed.text.items same c.args.read.now c.requires.read c.is_shown-is_shown.ensures.some c.print_next.ensures.number c.is_certain.result c.is_certain.ensures c.if-is_certain.false) c.args.left.now c.in_ok-is_possible.is_possible
          (subst (λ n. IsBegunLine n c.args.read.now c.args.left.now c.in_ok-is_possible.is_possible) c.number-line_number.ensures c.in_ok-is_possible.ensures));
      number = c.print_next.ensures.number;
      bounds = in_bounds _ c.args.walk.now c.print_next.new.walk c.args.line.now c.in_ok-printed.printed.line_event c.in_ok-printed.ensures.served c.requires.bounds;
    }
