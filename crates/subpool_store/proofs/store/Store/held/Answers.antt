use Rattle.std.proofs.Common.{◌≡◌, ◌<◌, ◌^◌, ◌/◌, ◌∙◌, ap, sym, subst, arith}
use Rattle.mvs_model.specs.Storage.{IsStorage, holder}
use Rattle.subpool_store.proofs.Both.{low_holder, high_holder, storage_of}
use Rattle.subpool_store.proofs.Value.{stored}
use Rattle.subpool_store.proofs.store.Store.held.Goals as goal

pub returns-then-get-lt-ABOVE_BEGINS-clause-held : goal.returns-then-get-lt-ABOVE_BEGINS-clause-held
returns-then-get-lt-ABOVE_BEGINS-clause-held c = let s = c.self.inside in c.holder.ensures ∙ sym (low_holder s.below s.above s.fill (c.args.addr / 8) (omega arith)) ∙ ap (λ t. holder t (c.args.addr / 8)) (stored c.self.view_is)

pub returns-then-get-lt-ABOVE_BEGINS-clause-storage : goal.returns-then-get-lt-ABOVE_BEGINS-clause-storage
returns-then-get-lt-ABOVE_BEGINS-clause-storage c = let s = c.self.inside in subst IsStorage (stored c.self.view_is) (storage_of s.below s.above s.fill c.self.invariant.0)

pub returns-else-get-lt-ABOVE_BEGINS-clause-held : goal.returns-else-get-lt-ABOVE_BEGINS-clause-held
returns-else-get-lt-ABOVE_BEGINS-clause-held c =
    let s = c.self.inside in
    let is : c.get.result ≡ c.args.addr = c.get.ensures.value in
    let small : c.get.result < 2 ^ 31 = c.get.ensures.small in
    c.holder-else-get-lt-ABOVE_BEGINS.ensures ∙ sym (high_holder s.below s.above s.fill (c.args.addr / 8) (omega arith) (omega arith)) ∙ ap (λ t. holder t (c.args.addr / 8)) (stored c.self.view_is)

pub returns-else-get-lt-ABOVE_BEGINS-clause-storage : goal.returns-else-get-lt-ABOVE_BEGINS-clause-storage
returns-else-get-lt-ABOVE_BEGINS-clause-storage c = let s = c.self.inside in subst IsStorage (stored c.self.view_is) (storage_of s.below s.above s.fill c.self.invariant.0)
