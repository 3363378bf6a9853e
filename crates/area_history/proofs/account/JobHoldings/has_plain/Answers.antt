use Rattle.std.proofs.Common.{◌≡◌, ◌*◌, ◌/◌, true, ap, sym, ◌∙◌}
use Rattle.std.specs.FinMap.{get}
use Rattle.mvs_model.specs.State.{is_plain}
use Rattle.area_history.proofs.PlainPlaces.{readable_is, whole_of}
use Rattle.area_history.proofs.account.JobHoldings.has_plain.Goals as goal

pub returns : goal.returns
returns c =
    let p = c.args.place in
    let st = c.args.self.now.state in
    let first : c.get.result / 8 ≡ p.addr / 8 = ap (λ a. a / 8) (c.get.ensures.value ∙ c.addr.ensures) in
    let begins : c.new.result ≡ 8 * (p.addr / 8) = c.new.ensures ∙ ap (λ d. 8 * d) first in
    let whole : c.new-whole.result ≡ whole_of p = c.new-whole.ensures ∙ ap (λ a. record { addr = a; len = 8 * (c.len.result / 8) }) begins ∙ ap (λ n. record { addr = 8 * (p.addr / 8); len = 8 * (n / 8) }) c.len.ensures.len in
    let here : is_plain (get st.held (p.addr / 8)) ≡ true = ap (λ d. is_plain (get st.held d)) (sym first) ∙ sym c.is_plain.ensures ∙ c.if-not-is_plain.false in
    readable_is st c.step.ensures.steady c.step.result.now.state p c.new-whole.result c.bytes.result c.is_some.result c.step.ensures.state whole here c.bytes.ensures.granted c.is_some.ensures
