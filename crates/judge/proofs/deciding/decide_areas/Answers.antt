use Rattle.std.proofs.Common.{[], false, true, ◌∷◌, subst, take}
use Rattle.mvs_model.specs.Lines.{lines_of}
use Rattle.judge.specs.Deciding.{DecidesBefore, OpensList}
use Rattle.judge.specs.Judging.{AskEach, IsOpen}
use Rattle.judge.proofs.ListLines.{list_found}
use Rattle.judge.proofs.deciding.decide_areas.Goals as goal

pub returns-clause-decided : goal.returns-clause-decided
returns-clause-decided c =
    let w = c.args.walk.now in
    let l = take c.args.end c.args.script.now in
    let s = c.in_ok-served.served in
    let trailing = c.text_after-rest.ensures in
    let each = subst (λ x. AskEach (lines_of x) c.args.listed.now.task c.args.listed.now.areas) trailing (subst (λ areas. AskEach (lines_of c.text_after-rest.result.now) c.args.listed.now.task areas) c.as_slice.ensures.items (c.asks_each.ensures.0 c.if-not-asks_each.false)) in
    list_found c.args.script.now c.args.left.now w c.decide_list.new.walk c.args.end l c.args.listed.now.task c.args.listed.now.areas s.text.items s.continues s.passes c.in_ok-is_open.is_open c.requires.lines c.requires.list each
    c.in_ok-served.ensures.served c.in_ok-served.ensures.continues
    (λ e begins. subst (λ x. IsOpen w.number w.step (l ∷ lines_of x) c.args.left.now) trailing (c.in_ok-served.ensures.opens e begins))
    (λ e none. subst (λ x. DecidesBefore (l ∷ []) (lines_of x) c.args.left.now w s.text.items true false c.decide_list.new.walk) trailing (c.in_ok-served.ensures.refuses e none))
    (λ e. subst (λ x. DecidesBefore (l ∷ []) (lines_of x) c.args.left.now w s.text.items true true c.decide_list.new.walk) trailing (c.in_ok-served.ensures.decided e))
    (subst (λ n. OpensList n c.args.listed.now.task c.args.left.now s.passes c.in_ok-is_open.is_open) c.number-line_number.ensures c.in_ok-is_open.ensures)
