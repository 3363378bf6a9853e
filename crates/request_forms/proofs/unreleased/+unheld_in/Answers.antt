use Rattle.std.proofs.Common.{◌≡◌, true, false, is_some, ap, sym, subst, ◌∙◌}
use Rattle.request_forms.specs.Machine.{machine_state}
use Rattle.request_forms.proofs.Split.{first_and_others, others}
use Rattle.request_forms.proofs.Firsts.{UnheldIn, unheld_first, unheld_later, is_none}
use Rattle.request_forms.proofs.unreleased.+unheld_in.Goals as goal

pub returns-then-is_some : goal.returns-then-is_some
returns-then-is_some t c = λ o.
    let st = machine_state c.args.pools.now c.args.store.now.storage o in let v = c.first_unheld-unheld.result in
    unheld_first st c.args.subpool c.args.places.now (others c.args.places.now) c.place-item.result v (first_and_others c.args.places.now c.place-item.result c.in-len1-up.len_at_least c.place-item.is)
    (λ e. absurd (let f : true ≡ false = sym c.if-is_some.true ∙ c.is_some.ensures ∙ ap is_some e in cc))
    (subst (λ q. UnheldIn st c.args.subpool q v) c.whole.ensures (c.first_unheld-unheld.ensures o))

pub returns : goal.returns
returns t c = λ o.
    let st = machine_state c.args.pools.now c.args.store.now.storage o in let v = c.first_unheld-unheld.result in
    unheld_later st c.args.subpool c.args.places.now (others c.args.places.now) c.place-item.result v c.unheld_in.result (first_and_others c.args.places.now c.place-item.result c.in-len1-up.len_at_least c.place-item.is)
    (is_none v (sym c.is_some.ensures ∙ c.if-is_some.false)) (subst (λ q. UnheldIn st c.args.subpool q v) c.whole.ensures (c.first_unheld-unheld.ensures o)) (c.unheld_in.ensures o)
