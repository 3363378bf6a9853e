use Rattle.std.proofs.Common.{◌≤◌, MatchOption, subst, arith}
use Rattle.mvs_model.specs.Storage.{Chosen, NoPlace, holder}
use Rattle.mvs_model.proofs.StorageLaws.{none_chosen}
use Rattle.subpool_store.proofs.store.Store.obtain.Goals as goal

pub returns-in_err-place-clause-hint : goal.returns-in_err-place-clause-hint
returns-in_err-place-clause-hint c = λ q e chosen.
    let st = c.args.self.now.storage in
    let none : NoPlace st.regions (holder st) c.args.subpool c.args.want.now = subst (λ p. MatchOption p (NoPlace st.regions (holder st) c.args.subpool c.args.want.now) (Chosen st.regions (holder st) c.args.subpool c.args.want.now)) c.in_err-place.was c.search-found.ensures.chosen in
    let some : 8 ≤ c.args.want.now.least = c.least.ensures.wanted.some in
    absurd (none_chosen st.regions (holder st) c.args.subpool c.args.want.now q (omega arith) none chosen)
