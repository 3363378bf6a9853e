use Rattle.std.proofs.Common.{◌+◌, ◌∙◌, Some, cond, ap, arith}
use Rattle.std.specs.Prelude.{is_some}
use Rattle.std.specs.FinMap.{get}
use Rattle.mvs_model.specs.Name.{same_name}
use Rattle.cell_pool.specs.Roots.{Root}
use Rattle.cell_pool.proofs.Bound.{free_bound}
use Rattle.cell_pool.proofs.Freeing.{some_taken, mark_held, mark_low, freed_pools, freed_all}
use Rattle.cell_pool.proofs.pools.Pools.give_cell.Goals as goal

pub overflow_sub-spot : goal.overflow_sub-spot
overflow_sub-spot c = some_taken c.args.self.now c.args.store.now.storage c.requires.agree.parts c.args.name.now c.requires.taken.0 c.args.root.now c.requires.root _ _ _ c.requires.taken.1

pub mark-requires-clause-low : goal.mark-requires-clause-low
mark-requires-clause-low c = mark_low c.args.self.now c.args.store.now.storage c.requires.agree.parts c.args.name.now c.requires.taken.0 c.args.root.now c.requires.root _ _ _ c.requires.taken.1

pub mark-requires-clause-held : goal.mark-requires-clause-held
mark-requires-clause-held c = mark_held c.args.self.now c.args.store.now.storage c.requires.agree.parts c.args.name.now c.requires.taken.0 c.args.root.now c.requires.root _ _ _ c.requires.taken.1

pub open_after-open-requires : goal.open_after-open-requires
open_after-open-requires c = let l = mark_low c.args.self.now c.args.store.now.storage c.requires.agree.parts c.args.name.now c.requires.taken.0 c.args.root.now c.requires.root _ _ _ c.requires.taken.1 in omega arith

pub with_freed-requires : goal.with_freed-requires
with_freed-requires c = free_bound c.args.self.now c.args.store.now.storage c.requires.agree.parts c.args.name.now c.args.root.now c.requires.root (c.requires.agree.counted c.args.name.now c.args.root.now c.requires.root)

pub replace-requires : goal.replace-requires
replace-requires c = ap is_some c.requires.root

pub returns-clause-pools : goal.returns-clause-pools
returns-clause-pools c =
    let s = c.args.spot in
    let some = some_taken c.args.self.now c.args.store.now.storage c.requires.agree.parts c.args.name.now c.requires.taken.0 c.args.root.now c.requires.root _ _ _ c.requires.taken.1 in
    freed_pools c.args.self.now c.args.store.now.storage c.requires.agree.parts c.args.name.now c.requires.taken.0 c.args.root.now c.requires.root s.part s.cell s.taken _ c.mark.new.store.storage c.requires.taken.1 c.mark.ensures (omega arith) c.requires.agree.counted c.replace.new.self
    (λ n. c.replace.ensures n ∙ ap (λ (q : Root). cond (same_name n c.args.name.now) (Some q) (get c.args.self.now n)) (c.with_freed.ensures ∙ ap (λ b. record c.args.root.now { free = c.args.root.now.free + 1; open_part = b }) c.open_after-open.ensures))

pub returns-clause-agree : goal.returns-clause-agree
returns-clause-agree c =
    let s = c.args.spot in
    let some = some_taken c.args.self.now c.args.store.now.storage c.requires.agree.parts c.args.name.now c.requires.taken.0 c.args.root.now c.requires.root _ _ _ c.requires.taken.1 in
    freed_all c.args.self.now c.args.store.now.storage c.requires.agree.parts c.args.name.now c.requires.taken.0 c.args.root.now c.requires.root s.part s.cell s.taken _ c.mark.new.store.storage c.requires.taken.1 c.mark.ensures (omega arith) c.requires.agree.counted c.replace.new.self
    (λ n. c.replace.ensures n ∙ ap (λ (q : Root). cond (same_name n c.args.name.now) (Some q) (get c.args.self.now n)) (c.with_freed.ensures ∙ ap (λ b. record c.args.root.now { free = c.args.root.now.free + 1; open_part = b }) c.open_after-open.ensures))
