use Rattle.std.proofs.Common.{◌*◌, ◌≤◌, ap, ◌∙◌, arith}
use Rattle.subpool_store.proofs.Recounting.{few_held}
use Rattle.subpool_store.proofs.Value.{stored}
use Rattle.subpool_store.specs.Joined.{all_held, regions_of}
use Rattle.std.specs.FinMap.{get}
use Rattle.mvs_model.specs.Storage.{held_bytes}
use Rattle.subpool_store.proofs.store.Store.held_bytes.Goals as goal

pub overflow_mul-result : goal.overflow_mul-result
overflow_mul-result c =
    let s = c.self.inside in
    let few : s.above.pages ≤ 8192 = c.self.invariant.0.few_above in
    let is = c.self.invariant.1.held c.args.subpool in
    let got = ap (λ t. t.held) c.get.ensures in
    let most = few_held (regions_of s.below s.above s.fill) (get (all_held s.below s.above)) c.args.subpool in
    omega (arith, is, got, most)

pub returns : goal.returns
returns c = ap (λ n. 8 * n) (ap (λ t. t.held) c.get.ensures ∙ c.self.invariant.1.held c.args.subpool) ∙ ap (λ st. held_bytes st c.args.subpool) (stored c.self.view_is)
