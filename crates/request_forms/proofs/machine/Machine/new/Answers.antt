use Rattle.std.proofs.Common.{◌≡◌, ◌∙◌, ap, sym, subst}
use Rattle.std.specs.FinMap.{empty}
use Rattle.mvs_model.specs.Start.{regions_of, first_owners}
use Rattle.mvs_model.specs.View.{IsBounded}
use Rattle.cell_pool.specs.Agree.{Agree}
use Rattle.cell_pool.proofs.Keeping.{none_agree}
use Rattle.request_forms.specs.Machine.{machine_state}
use Rattle.request_forms.proofs.Pooling.{start_machine}
use Rattle.request_forms.proofs.machine.Machine.new.Goals as goal

pub returns : goal.returns
returns c =
    let card = c.args.card.now in
    let store : c.in_ok-store.store.storage ≡ record { regions = regions_of card; held = empty; bytes = empty } =
    ap (λ v. v.storage) c.in_ok-store.ensures.empty ∙ (λ i. record { regions = record { below = c.below.ensures.pages i; above = c.above.ensures.pages i; fill = c.fill.ensures i }; held = empty; bytes = empty }) in
    let owners : c.in_ok-tasks.tasks.owners ≡ first_owners card.name card.residence = c.in_ok-tasks.ensures ∙ (λ i. first_owners (c.name.ensures i) (c.residence.ensures i)) in
    (λ i. machine_state (c.in_ok-pools.ensures i) (store i) (owners i)) ∙ start_machine card

pub invariant_of-result : goal.invariant_of-result
invariant_of-result c =
    let regions : c.in_ok-store.store.storage.regions ≡ record { below = c.below.result; above = c.above.result; fill = c.fill.result } = ap (λ v. v.storage.regions) c.in_ok-store.ensures.empty in
    subst (λ roots. Agree roots c.in_ok-store.store.storage) (sym c.in_ok-pools.ensures)
    (none_agree c.in_ok-store.store.storage c.in_ok-store.ensures.storage (subst IsBounded (sym regions) (record { below = c.below.ensures.most; above = c.above.ensures.most })))
