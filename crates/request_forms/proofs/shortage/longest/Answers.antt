use Rattle.std.proofs.Common.{Some, None, sym, subst}
use Rattle.mvs_model.specs.Storage.{holder}
use Rattle.mvs_model.specs.Reasons.{IsLongest}
use Rattle.request_forms.proofs.Longest.{longest_correct}
use Rattle.request_forms.proofs.shortage.longest.Goals as goal

pub returns-in-Some : goal.returns-in-Some
returns-in-Some c =
    let st = c.args.store.now.storage in
    subst (IsLongest st.regions (holder st) c.args.subpool c.args.want.now) (sym c.len.ensures.len)
    (longest_correct st.regions (holder st) c.args.subpool c.args.want.now c.from_doubleword.ensures.wanted c.requires c.from_doubleword.result (Some c.in-Some.place) c.from_doubleword.ensures.same c.in-Some.ensures)

pub returns-in-None : goal.returns-in-None
returns-in-None c =
    let st = c.args.store.now.storage in
    longest_correct st.regions (holder st) c.args.subpool c.args.want.now c.from_doubleword.ensures.wanted c.requires c.from_doubleword.result None c.from_doubleword.ensures.same c.in-None.ensures
