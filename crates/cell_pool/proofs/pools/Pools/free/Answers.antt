use Rattle.std.proofs.Common.{Ok, ◌≤◌, ◌∙◌, ap, sym, subst, arith}
use Rattle.mvs_model.specs.declared.request.Reply.TheVariants.{Rc0}
use Rattle.mvs_model.specs.View.{state_of}
use Rattle.mvs_model.specs.Steps.{Tries}
use Rattle.mvs_model.specs.declared.request.Request.TheVariants as request
use Rattle.cell_pool.specs.Layout.{byte_of}
use Rattle.cell_pool.specs.Roots.{is_taken, pools_of}
use Rattle.cell_pool.specs.Walk.{IsTakenAt}
use Rattle.cell_pool.proofs.Walking.{chain_of}
use Rattle.cell_pool.proofs.Freeing.{no_pool, no_cell, freed, some_taken}
use Rattle.cell_pool.proofs.pools.Pools.free.Goals as goal

pub returns-in_default-clause-answer : goal.returns-in_default-clause-answer
returns-in_default-clause-answer c = no_pool c.args.self.now c.args.store.now.storage c.requires.parts c.args.name.now c.args.cell (sym c.in_default.ensures)

pub find_taken-requires : goal.find_taken-requires
find_taken-requires c = chain_of c.args.self.now c.args.store.now.storage c.args.name.now c.in-Some.root c.requires.parts (sym c.in-Some.ensures)

pub returns-in_default-find_taken-clause-answer : goal.returns-in_default-find_taken-clause-answer
returns-in_default-find_taken-clause-answer c =
    no_cell c.args.self.now c.args.store.now.storage c.requires.parts c.args.name.now c.args.cell c.in-Some.root (sym c.in-Some.ensures)
    (ap (is_taken (byte_of c.args.store.now.storage) c.in-Some.root) (sym c.get.ensures.value) ∙ c.in_default-find_taken.ensures)

pub returns-clause-answer : goal.returns-clause-answer
returns-clause-answer c o t =
    let s = c.in-Some-find_taken.spot in
    let some : 1 ≤ s.taken = some_taken c.args.self.now c.args.store.now.storage c.requires.parts c.args.name.now _ c.in-Some.root (sym c.in-Some.ensures) _ _ _ c.in-Some-find_taken.ensures in
    subst (λ p. Tries {A = Unit {0}} (λ _. Rc0) (state_of c.args.store.now.storage o (pools_of c.args.self.now c.args.store.now.storage)) t (request.Free c.args.name.now c.args.cell) (Ok tt) (state_of c.give_cell.new.store.storage o p)) (sym c.give_cell.ensures.pools)
    (freed c.args.self.now c.args.store.now.storage c.requires.parts c.args.name.now c.args.cell c.in-Some.root (sym c.in-Some.ensures) s.part s.cell s.taken _ c.give_cell.new.store.storage
    (subst (λ a. IsTakenAt c.args.store.now.storage c.in-Some.root s.part s.cell s.taken s.past a) c.get.ensures.value c.in-Some-find_taken.ensures) c.give_cell.ensures.marked (omega arith) o t)
