use Rattle.std.proofs.Common.{◌≡◌, false, true, sym, subst}
use Rattle.mvs_model.specs.Storage.{Places, holder}
use Rattle.subpool_store.proofs.HintedPlace.{chosen_serves}
use Rattle.subpool_store.proofs.store.Store.at_hint.Goals as goal

pub returns-else-serves-clause-hint : goal.returns-else-serves-clause-hint
returns-else-serves-clause-hint c = λ q e chosen.
    let st = c.args.self.now.storage in
    let serves = chosen_serves st.regions (holder st) c.args.subpool c.args.want.now c.args.found q c.args.hint c.requires chosen e in
    let long : Places st.regions (holder st) c.args.subpool c.args.want.now c.len.result c.args.hint = subst (λ n. Places st.regions (holder st) c.args.subpool c.args.want.now n c.args.hint) (sym c.len.ensures.len) serves in
    let there : Places st.regions (holder st) c.args.subpool c.args.want.now c.new-place.result.len c.new-place.result.addr = subst (λ z. Places st.regions (holder st) c.args.subpool c.args.want.now z.len z.addr) (sym c.new-place.ensures) long in
    absurd (let f : false ≡ true = c.if-serves.ensures.1 there in cc)
