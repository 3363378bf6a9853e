use Rattle.std.proofs.Common.{ap, ◌∙◌}
use Rattle.std.specs.FinMap.{get, get-empty}
use Rattle.std.specs.Ordering.{nat_cmp}
use Rattle.mvs_model.specs.Storage.{Storage}
use Rattle.subpool_store.specs.Joined.{IsStore, all_held, regions_of}
use Rattle.subpool_store.specs.SubpoolCounts.{count_of}
use Rattle.subpool_store.proofs.Both.{nothing_kept, nothing_stored, storage_of}
use Rattle.subpool_store.proofs.Recounting.{counts_empty}
use Rattle.subpool_store.proofs.store.Store.new.Goals as goal
use Rattle.subpool_store.proofs.store.Store.new.Goals.{In_ok-new-2}

both_are : (c : In_ok-new-2) → IsStore c.in_ok-new.field-0 c.in_ok-new-2.field-0
both_are c = nothing_kept c.in_ok-new.field-0 c.in_ok-new-2.field-0 c.args.below c.args.above c.requires.some c.requires.below c.requires.above c.in_ok-new.ensures.empty c.in_ok-new-2.ensures.empty c.in_ok-new.ensures.sound c.in_ok-new-2.ensures.sound

pub invariant_of-result : goal.invariant_of-result
invariant_of-result c =
    let b = c.in_ok-new.field-0 in
    let a = c.in_ok-new-2.field-0 in
    let stored = nothing_stored b a c.args.below c.args.above c.args.fill c.in_ok-new.ensures.empty c.in_ok-new-2.ensures.empty in (
      both_are (goal.at.invariant_of-result c).In_ok-new-2,
      counts_empty (regions_of b a c.args.fill) (get (all_held b a)) c.in_ok-new-3.field-0 (λ d. ap (λ (t : Storage). get t.held d) stored ∙ get-empty nat_cmp d) (λ s. ap (λ t. count_of t s) c.in_ok-new-3.ensures),
    )

pub returns-clause-empty : goal.returns-clause-empty
returns-clause-empty c = λ i. record { storage = nothing_stored c.in_ok-new.field-0 c.in_ok-new-2.field-0 c.args.below c.args.above c.args.fill c.in_ok-new.ensures.empty c.in_ok-new-2.ensures.empty i; steps = 0 }

pub returns-clause-storage : goal.returns-clause-storage
returns-clause-storage c = storage_of c.in_ok-new.field-0 c.in_ok-new-2.field-0 c.args.fill (both_are (goal.at.returns-clause-storage c).In_ok-new-2)
