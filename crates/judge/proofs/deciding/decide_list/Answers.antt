use Rattle.std.proofs.Common.{false, ◌≡◌, ◌++◌, ◌+◌, ap, drop, length, subst, sym, ◌∙◌}
use Rattle.mvs_model.proofs.Tests.{false_true}
use Rattle.mvs_model.specs.Lines.{lines_of}
use Rattle.mvs_model.specs.Texts.{answer_text, printing}
use Rattle.mvs_job.specs.LineEvents.{events_of_line}
use Rattle.judge.specs.Deciding.{ReadsEach, no_bytes}
use Rattle.judge.proofs.Decided.{in_bounds}
use Rattle.judge.proofs.ListLines.{list_decides, list_opens, list_refuses, list_served}
use Rattle.judge.proofs.deciding.decide_list.Goals as goal

pub returns-clause-served : goal.returns-clause-served
returns-clause-served c =
    let same = c.in_ok-printed.ensures.printed ∙ ap (λ x. x ++ printing (events_of_line c.args.walk.now.number c.print_next.new.walk c.in_ok-printed.printed.line_event)) c.new.ensures.items in
    list_served c.as_slice.result.now c.args.walk.now c.print_next.new.walk c.args.line.now c.in_ok-printed.printed.line_event c.args.listed.now.task c.args.listed.now.areas c.in_ok-printed.ensures.served c.requires.list c.requires.bounds c.in_ok-printed.printed.text.items same c.print_next.ensures.number

pub returns-clause-opens : goal.returns-clause-opens
returns-clause-opens c = λ differs begins.
    let same = c.in_ok-printed.ensures.printed ∙ ap (λ x. x ++ printing (events_of_line c.args.walk.now.number c.print_next.new.walk c.in_ok-printed.printed.line_event)) c.new.ensures.items in
    list_opens c.as_slice.result.now c.args.walk.now c.print_next.new.walk c.args.line.now c.in_ok-printed.printed.line_event c.args.listed.now.task c.args.listed.now.areas c.in_ok-printed.ensures.served c.requires.list c.requires.bounds c.in_ok-printed.printed.text.items same
    (lines_of c.args.rest.now) c.args.left.now c.requires.questions (λ rest e. false_true (sym differs ∙ c.begins-passes.ensures.no rest (e ∙ ap (λ x. x ++ rest) (sym c.as_slice-2.ensures.value)))) begins

pub returns-clause-refuses : goal.returns-clause-refuses
returns-clause-refuses c = λ differs none.
    let same = c.in_ok-printed.ensures.printed ∙ ap (λ x. x ++ printing (events_of_line c.args.walk.now.number c.print_next.new.walk c.in_ok-printed.printed.line_event)) c.new.ensures.items in
    list_refuses c.as_slice.result.now c.args.walk.now c.print_next.new.walk c.args.line.now c.in_ok-printed.printed.line_event c.args.listed.now.task c.args.listed.now.areas c.in_ok-printed.ensures.served c.requires.list c.requires.bounds c.in_ok-printed.printed.text.items same
    (lines_of c.args.rest.now) c.args.left.now c.requires.questions (λ rest e. false_true (sym differs ∙ c.begins-passes.ensures.no rest (e ∙ ap (λ x. x ++ rest) (sym c.as_slice-2.ensures.value)))) none

pub returns-clause-decided : goal.returns-clause-decided
returns-clause-decided c = λ passes.
    let same = c.in_ok-printed.ensures.printed ∙ ap (λ x. x ++ printing (events_of_line c.args.walk.now.number c.print_next.new.walk c.in_ok-printed.printed.line_event)) c.new.ensures.items in
    let task = c.args.listed.now.task in
    let areas = c.args.listed.now.areas in
    list_decides c.as_slice.result.now c.args.walk.now c.print_next.new.walk c.args.line.now c.in_ok-printed.printed.line_event task areas c.in_ok-printed.ensures.served c.requires.list c.requires.bounds c.in_ok-printed.printed.text.items same
    (lines_of c.args.rest.now) c.args.left.now c.requires.questions c.print_next.ensures.number
    (subst (λ hints. ReadsEach (drop (length (answer_text c.args.walk.now.number task (no_bytes false))) c.args.left.now) (c.args.walk.now.number + 1) task areas hints) (sym c.as_slice.ensures.value)
    (subst (λ n. ReadsEach (drop (length (answer_text n task (no_bytes false))) c.args.left.now) (n + 1) task areas c.in_ok-hints.hints.items) c.number.ensures c.in_ok-hints.ensures))
    (subst (λ x. c.args.left.now ≡ x ++ drop (length x) c.args.left.now) c.as_slice-2.ensures.value (c.begins-passes.ensures.yes passes))

pub returns-clause-bounds : goal.returns-clause-bounds
returns-clause-bounds c = in_bounds _ c.args.walk.now c.print_next.new.walk c.args.line.now c.in_ok-printed.printed.line_event c.in_ok-printed.ensures.served c.requires.bounds
