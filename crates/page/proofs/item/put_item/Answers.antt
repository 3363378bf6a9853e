use Rattle.std.proofs.Common.{◌≡◌, ◌⊎◌, Bool, Option, ℕ, inl, inr, refl, sym, ◌∙◌}
use Rattle.mvs_model.specs.declared.answer.Answer.{Answer}
use Rattle.mvs_model.specs.declared.card.Card.{Card}
use Rattle.mvs_model.specs.declared.line.Fault.{Fault}
use Rattle.mvs_model.specs.declared.name.Name.{Name}
use Rattle.mvs_job.specs.declared.walk.LineEvent.{LineEvent}
use Rattle.mvs_job.specs.declared.walk.LineEvent.TheVariants as tells
use Rattle.area_history.proofs.Recording.{ok_maps}
use Rattle.page.proofs.Served.{faulted_is, stated_is}
use Rattle.page.proofs.item.put_item.Goals as goal

-- what begins a step or answers a statement is no fault
not_faulted : (e : LineEvent) → ((a : Option Bool) × (card : Card) × (e ≡ tells.StepBegan a card)) ⊎ ((name : Name) × (x : Answer) × (e ≡ tells.Answered name x)) → (fault : Fault) → e ≡ tells.Faulted fault → ⊥
not_faulted e (inl (a, card, h)) fault f = absurd (let g : tells.StepBegan a card ≡ tells.Faulted fault = sym h ∙ f in cc)
not_faulted e (inr (name, x, h)) fault f = absurd (let g : tells.Answered name x ≡ tells.Faulted fault = sym h ∙ f in cc)

pub returns-in-Faulted : goal.returns-in-Faulted
returns-in-Faulted c =
    let t = c.args.texts.now in
    ok_maps c.put_faulted.result (λ h has. h ∙ faulted_is c.args.numbered.now.number c.args.numbered.now.line.now c.args.walk.now.read c.args.walk.now c.args.line_event.now _ t.explanation.items c.deref.result.now c.in-Faulted.is (c.deref.ensures.value ∙ c.requires.printed)) c.put_faulted.ensures

pub returns-in_ok-put_lines_of_change-in-StepBegan : goal.returns-in_ok-put_lines_of_change-in-StepBegan
returns-in_ok-put_lines_of_change-in-StepBegan c =
    let number = c.args.numbered.now.number in
    let t = c.args.texts.now in
    let w = c.args.walk.now in
    ok_maps c.put_stated.result (λ h has. h ∙ stated_is number c.args.numbered.now.line.now w.read w c.args.line_event.now t.explanation.items c.class_of.result.now t.printed.items c.put_lines_of_change.new.lines.items t.explanation.items c.requires.answered (not_faulted c.args.line_event.now c.in-StepBegan.is) (c.class_of.ensures number) c.requires.printed (c.in_ok-put_lines_of_change-in-StepBegan.ensures number has) refl) c.put_stated.ensures
