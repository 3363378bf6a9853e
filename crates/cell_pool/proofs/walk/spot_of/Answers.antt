use Rattle.std.proofs.Common.{ℕ, ◌+◌, ◌<◌, ◌≤◌, subst}
use Rattle.mvs_model.specs.Pools.{IsCell}
use Rattle.cell_pool.specs.Layout.{byte_of}
use Rattle.cell_pool.specs.Roots.{pool_of}
use Rattle.cell_pool.proofs.walk.spot_of.Goals as goal

pub returns-in_default : goal.returns-in_default
returns-in_default c = subst (λ a. (first : ℕ) → IsCell (pool_of (byte_of c.args.store.now.storage) c.args.root.now) first → first ≤ a → a < first + c.args.root.now.cell_size → ⊥) c.get.ensures.value c.in_default.ensures.cell
