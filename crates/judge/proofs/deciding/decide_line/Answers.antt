use Rattle.std.proofs.Common.{◌++◌, ◌∙◌, ap, drop, length, subst, sym, Decides as Tests, ◌≡◌}
use Rattle.std.proofs.lemmas.Slice.Eq.{slice_eq-Decides}
use Rattle.mvs_model.specs.Texts.{printing}
use Rattle.judge.proofs.Decided.{fault_decides, fault_served, in_bounds, line_decides, line_served, same_test}
use Rattle.mvs_job.specs.LineEvents.{events_of_line}
use Rattle.judge.proofs.deciding.decide_line.Goals as goal

pub returns-in-Faulted-clause-decided : goal.returns-in-Faulted-clause-decided
returns-in-Faulted-clause-decided c = λ line reading closed.
    let same = c.in_ok-printed.ensures.printed ∙ ap (λ x. x ++ printing (events_of_line c.args.walk.now.number c.print_parsed.new.walk c.in_ok-printed.printed.line_event)) c.requires.empty in
    fault_decides _ c.args.walk.now c.print_parsed.new.walk line c.in_ok-printed.printed.line_event c.args.left.now c.in_ok-printed.printed.text.items (c.in_ok-printed.ensures.served line reading) closed same _ c.in-Faulted.is c.eq-passes.result
    (subst (λ x. Tests c.eq-passes.result (c.args.left.now ≡ x)) c.as_slice.ensures.value (slice_eq-Decides same_test _ _ c.eq-passes.result c.eq-passes.ensures))

pub returns-in-Faulted-clause-served : goal.returns-in-Faulted-clause-served
returns-in-Faulted-clause-served c = λ line reading.
    let same = c.in_ok-printed.ensures.printed ∙ ap (λ x. x ++ printing (events_of_line c.args.walk.now.number c.print_parsed.new.walk c.in_ok-printed.printed.line_event)) c.requires.empty in
    fault_served _ c.args.walk.now c.print_parsed.new.walk line c.in_ok-printed.printed.line_event c.in_ok-printed.printed.text.items (c.in_ok-printed.ensures.served line reading) same _ c.in-Faulted.is

pub returns-in-Faulted-clause-bounds : goal.returns-in-Faulted-clause-bounds
returns-in-Faulted-clause-bounds c = λ line reading. in_bounds _ c.args.walk.now c.print_parsed.new.walk line c.in_ok-printed.printed.line_event (c.in_ok-printed.ensures.served line reading)

pub returns : goal.returns
returns c =
    let same = c.in_ok-printed.ensures.printed ∙ ap (λ x. x ++ printing (events_of_line c.args.walk.now.number c.print_parsed.new.walk c.in_ok-printed.printed.line_event)) c.requires.empty in
    record {
      served = λ line reading. line_served _ c.args.walk.now c.print_parsed.new.walk line c.in_ok-printed.printed.line_event c.in_ok-printed.printed.text.items (c.in_ok-printed.ensures.served line reading) same c.in_default.not-Faulted c.print_parsed.ensures.number;
      decided = λ line reading closed. line_decides _ c.args.walk.now c.print_parsed.new.walk line c.in_ok-printed.printed.line_event c.args.left.now c.in_ok-printed.printed.text.items (c.in_ok-printed.ensures.served line reading) closed same c.in_default.not-Faulted c.print_parsed.ensures.number c.begins-passes.result
          (λ e. subst (λ x. c.args.left.now ≡ x ++ drop (length x) c.args.left.now) c.as_slice-2.ensures.value (c.begins-passes.ensures.yes e))
          (λ rest e. c.begins-passes.ensures.no rest (e ∙ ap (λ x. x ++ rest) (sym c.as_slice-2.ensures.value)));
      number = c.print_parsed.ensures.number;
      bounds = λ line reading. in_bounds _ c.args.walk.now c.print_parsed.new.walk line c.in_ok-printed.printed.line_event (c.in_ok-printed.ensures.served line reading);
    }
