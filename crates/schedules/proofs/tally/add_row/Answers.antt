use Rattle.std.proofs.Common.{◌≡◌, ◌++◌, ◌∷◌, [], sym, ◌∙◌, ap, rules, subst, false}
use Rattle.schedules.specs.Filling.{Fills}
use Rattle.schedules.specs.Tallies.{has_row}
use Rattle.schedules.proofs.Tallied.{fills_has, fills_lacks}
use Rattle.schedules.proofs.tally.add_row.Goals as goal

pub returns-then-has_row : goal.returns-then-has_row
returns-then-has_row c = λ seen old fills.
    fills_has c.args.schedule.now seen c.args.answer.now old c.args.rows.now.items fills
    (ap (λ x. has_row x c.args.answer.now) (sym c.deref.ensures.value) ∙ sym c.has_row.ensures ∙ c.if-has_row.true)

pub returns : goal.returns
returns c = λ seen old fills.
    let pushed : c.push.new.self.items ≡ c.args.rows.now.items ++ c.in_ok-row.row ∷ [] = search rules in
    let lacks : has_row c.args.rows.now.items c.args.answer.now ≡ false = ap (λ x. has_row x c.args.answer.now) (sym c.deref.ensures.value) ∙ sym c.has_row.ensures ∙ c.if-has_row.false in
    subst (Fills c.args.schedule.now _ old) (sym pushed)
    (fills_lacks c.args.schedule.now seen c.args.answer.now old c.args.rows.now.items c.in_ok-row.row fills lacks c.requires c.in_ok-row.ensures)
