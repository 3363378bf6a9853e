-- The pool of a name is that of the machine of the step that runs.
use Rattle.std.proofs.Common.{◌≡◌, ◌∙◌, ℕ, ◌/◌, subst}
use Rattle.mvs_model.specs.declared.name.Name.{Name}
use Rattle.mvs_model.specs.State.{State}
use Rattle.mvs_c.specs.Asks.{name_value}
use Rattle.mvs_c.specs.Pools.{IsPageLabel, IsPool}
use Rattle.mvs_c.proofs.pool.find_pool.Goals as goal

pub returns : goal.returns
returns c =
    let st : State = c.machine-machine.result.now.state in
    let h = c.in_ok-part.ensures in
    let page : c.get.result ≡ c.in_ok-part.part.place.addr = c.get.ensures.value ∙ c.addr.ensures in
    let labelled : IsPageLabel st (c.in_ok-part.part.place.addr / 4096) c.page_label-label.result = subst (λ (a : ℕ). IsPageLabel st (a / 4096) c.page_label-label.result) page c.page_label-label.ensures in
    let found : IsPool st c.in_ok-name.name c.pool_value.result
    = record { pool = h.0; named = h.1; part = c.in_ok-part.part; newest = h.2; label = c.page_label-label.result; labelled = labelled; value = c.pool_value.ensures } in
    let named : IsPool st (name_value c.args.name.now) c.pool_value.result = subst (λ (n : Name). IsPool st n c.pool_value.result) c.in_ok-name.ensures.1 found in
    record {
      named = λ _. rw (c.in_ok-job.ensures) (subst (λ (s : State). IsPool s (name_value c.args.name.now) c.pool_value.result) (c.machine-machine.ensures ∙ c.step.ensures.state) named);
      unnamed = λ none. absurd (none c.in_ok-name.ensures.0);
    }
