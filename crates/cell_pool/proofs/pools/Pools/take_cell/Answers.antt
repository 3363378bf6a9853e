use Rattle.std.proofs.Common.{◌-◌, ◌∙◌, Some, cond, ap}
use Rattle.std.specs.Prelude.{is_some}
use Rattle.std.specs.FinMap.{get}
use Rattle.mvs_model.specs.Name.{same_name}
use Rattle.cell_pool.specs.Roots.{Root}
use Rattle.cell_pool.proofs.Walking.{chain_of, low_at}
use Rattle.cell_pool.proofs.Getting.{got_some, got_pools, got_all}
use Rattle.cell_pool.proofs.pools.Pools.take_cell.Goals as goal

pub take-place-requires-clause-chain : goal.take-place-requires-clause-chain
take-place-requires-clause-chain c = chain_of c.args.self.now c.args.store.now.storage c.args.name.now c.args.root.now c.requires.agree.parts c.requires.root

pub new-requires : goal.new-requires
new-requires c = low_at c.args.store.now.storage c.args.root.now (chain_of c.args.self.now c.args.store.now.storage c.args.name.now c.args.root.now c.requires.agree.parts c.requires.root) c.requires.free.open_number c.requires.free.is_open _ c.requires.free.open_addr

pub with_taken-requires : goal.with_taken-requires
with_taken-requires c =
    let s = c.args.spot in
    got_some c.args.self.now c.args.store.now.storage c.requires.agree.parts c.args.name.now c.args.root.now c.requires.root s.part s.cell s.taken s.open_part c.take-place.new.store.storage c.take-place.result c.requires.free c.take-place.ensures.taken c.take-place.ensures.place c.requires.agree.counted

pub replace-requires : goal.replace-requires
replace-requires c = ap is_some c.requires.root

pub returns-clause-pools : goal.returns-clause-pools
returns-clause-pools c =
    let s = c.args.spot in
    got_pools c.args.self.now c.args.store.now.storage c.requires.agree.parts c.args.name.now c.args.root.now c.requires.root s.part s.cell s.taken s.open_part c.take-place.new.store.storage c.take-place.result c.requires.free c.take-place.ensures.taken c.take-place.ensures.place c.requires.agree.counted c.replace.new.self
    (λ n. c.replace.ensures n ∙ ap (λ (q : Root). cond (same_name n c.args.name.now) (Some q) (get c.args.self.now n)) (c.with_taken.ensures ∙ ap (λ b. record c.args.root.now { free = c.args.root.now.free - 1; open_part = b }) c.new.ensures))

pub returns-clause-agree : goal.returns-clause-agree
returns-clause-agree c =
    let s = c.args.spot in
    got_all c.args.self.now c.args.store.now.storage c.requires.agree.parts c.args.name.now c.args.root.now c.requires.root s.part s.cell s.taken s.open_part c.take-place.new.store.storage c.take-place.result c.requires.free c.take-place.ensures.taken c.take-place.ensures.place c.requires.agree.counted c.replace.new.self
    (λ n. c.replace.ensures n ∙ ap (λ (q : Root). cond (same_name n c.args.name.now) (Some q) (get c.args.self.now n)) (c.with_taken.ensures ∙ ap (λ b. record c.args.root.now { free = c.args.root.now.free - 1; open_part = b }) c.new.ensures))
