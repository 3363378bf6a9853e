use Rattle.std.proofs.Common.{◌≡◌, ◌++◌, ◌∷◌, [], ◌+◌, ◌-◌, ap, drop, length, refl, subst, sym, ◌∙◌}
use Rattle.mvs_model.specs.Answers.{At}
use Rattle.mvs_model.specs.Texts.{answer_text, printing, reply_line, one_line_text}
use Rattle.judge.specs.Deciding.{no_bytes}
use Rattle.mvs_job.specs.LineEvents.{events_of_line}
use Rattle.judge.proofs.Decided.{in_bounds, pair_decides, pair_served}
use Rattle.judge.proofs.deciding.decide_pair.Goals as goal

pub returns-clause-served : goal.returns-clause-served
returns-clause-served c = λ line reading grant.
    let one = c.in_ok-granted.ensures.printed ∙ ap (λ x. x ++ printing (events_of_line c.args.walk.now.number c.print_parsed.new.walk c.in_ok-granted.granted.line_event)) c.in_ok-len.ensures.emptied in
    let same = c.in_ok-answered.ensures.printed ∙ ap (λ x. x ++ printing (events_of_line c.print_parsed.new.walk.number c.print_next.new.walk c.in_ok-answered.answered.line_event)) one in
    pair_served (c.address_after-addr.result ∷ []) c.args.walk.now c.print_parsed.new.walk c.print_next.new.walk line c.args.question.now c.in_ok-granted.granted.line_event c.in_ok-answered.answered.line_event c.args.asked.now.task c.args.asked.now.area c.args.asked.now.variable
    (c.in_ok-granted.ensures.served line reading) c.in_ok-answered.ensures.served grant c.requires.question c.requires.bounds c.print_parsed.ensures.number c.in_ok-answered.answered.text.items same c.print_next.ensures.number

pub returns-clause-decided : goal.returns-clause-decided
returns-clause-decided c = λ line reading grant.
    let one = c.in_ok-granted.ensures.printed ∙ ap (λ x. x ++ printing (events_of_line c.args.walk.now.number c.print_parsed.new.walk c.in_ok-granted.granted.line_event)) c.in_ok-len.ensures.emptied in
    let same = c.in_ok-answered.ensures.printed ∙ ap (λ x. x ++ printing (events_of_line c.print_parsed.new.walk.number c.print_next.new.walk c.in_ok-answered.answered.line_event)) one in
    pair_decides (c.address_after-addr.result ∷ []) c.args.walk.now c.print_parsed.new.walk c.print_next.new.walk line c.args.question.now c.in_ok-granted.granted.line_event c.in_ok-answered.answered.line_event c.args.asked.now.task c.args.asked.now.area c.args.asked.now.variable
    (c.in_ok-granted.ensures.served line reading) c.in_ok-answered.ensures.served grant c.requires.question c.requires.bounds c.print_parsed.ensures.number c.args.left.now c.in_ok-answered.answered.text.items same c.address_after-addr.result (c.in_ok-len.len - 9) refl c.print_parsed.ensures.number c.print_next.ensures.number
    (ap (λ n. n - 9) (c.in_ok-len.ensures.len ∙ ap (λ n. length (answer_text n c.args.asked.now.task (no_bytes c.args.asked.now.variable)) + length (reply_line (n + 1) c.args.asked.now.task (one_line_text (At 0)))) c.number.ensures))
    c.address_after-addr.ensures c.begins-passes.result
    (λ e. subst (λ x. c.args.left.now ≡ x ++ drop (length x) c.args.left.now) c.as_slice.ensures.value (c.begins-passes.ensures.yes e))
    (λ rest e. c.begins-passes.ensures.no rest (e ∙ ap (λ x. x ++ rest) (sym c.as_slice.ensures.value)))

pub returns-clause-bounds : goal.returns-clause-bounds
returns-clause-bounds c = λ line reading. in_bounds _ c.print_parsed.new.walk c.print_next.new.walk c.args.question.now c.in_ok-answered.answered.line_event c.in_ok-answered.ensures.served (in_bounds _ c.args.walk.now c.print_parsed.new.walk line c.in_ok-granted.granted.line_event (c.in_ok-granted.ensures.served line reading) c.requires.bounds)
