use Rattle.std.proofs.Common.{ap, ◌∙◌, arith}
use Rattle.std.specs.Prelude.{not}
use Rattle.std.specs.FinMap.{get}
use Rattle.mvs_model.specs.Finite.{kept}
use Rattle.mvs_model.specs.Storage.{is_one_of}
use Rattle.cell_pool.specs.Roots.{Root}
use Rattle.cell_pool.proofs.Named.{distinct_kept, named_kept}
use Rattle.cell_pool.proofs.pools.Pools.drop_subpools.Goals as goal

pub invariant_of-self : goal.invariant_of-self
invariant_of-self c =
    let s = c.self.inside in
    let few = c.self.invariant.1 in
    let wide = c.self.invariant.2 in
    let len = c.remove_each.ensures.len in
    let capacity = c.remove_each.ensures.capacity in (
      distinct_kept s.entries.slots c.remove_each.new.entries.slots (λ _ r. not (is_one_of c.args.subpools.now r.subpool)) c.self.invariant.0 c.remove_each.ensures.kept,
      omega arith,
      omega arith,
    )

pub returns : goal.returns
returns c n =
    let s = c.self.inside in
    named_kept s.entries.slots c.remove_each.new.entries.slots (λ _ r. not (is_one_of c.args.subpools.now r.subpool)) c.self.invariant.0 c.remove_each.ensures.kept n
    ∙ ap (λ m. kept (λ (r : Root). not (is_one_of c.args.subpools.now r.subpool)) (get m n)) c.self.view_is
