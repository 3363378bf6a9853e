use Rattle.std.proofs.Common.{false, true, ◌≡◌, refl}
use Rattle.subpool_store.proofs.Methods.{run_of_cells, cells_of_run, bits_of_run}
use Rattle.subpool_store.proofs.region_store.holds_run.Goals as goal

pub returns-then-not-are_of : goal.returns-then-not-are_of
returns-then-not-are_of c = (λ no. absurd (let e : false ≡ true = no in cc), λ cells. c.if-not-are_of.ensures.1 (cells_of_run c.args.memory.now.held c.args.pages.now c.args.subpool c.args.run.start c.args.run.end c.requires.some cells))

pub returns : goal.returns
returns c = (
  λ held. run_of_cells c.args.memory.now.held c.args.pages.now c.args.subpool c.args.run.start c.args.run.end (c.if-not-are_of.ensures.0 refl) (c.are_held.ensures.0 held),
  λ cells. c.are_held.ensures.1 (bits_of_run c.args.memory.now.held c.args.pages.now c.args.subpool c.args.run.start c.args.run.end cells),
)
