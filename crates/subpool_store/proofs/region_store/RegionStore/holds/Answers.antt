use Rattle.std.proofs.Common.{false, true, ◌≡◌, ◌≤◌, ◌*◌, ◌+◌, length, refl, arith}
use Rattle.mvs_model.specs.Storage.{IsBetween}
use Rattle.subpool_store.specs.Region.{value_at}
use Rattle.subpool_store.proofs.Methods.{held_inside, holds_cells, cells_held}
use Rattle.subpool_store.proofs.region_store.RegionStore.holds.Goals as goal

pub returns-then-get-self : goal.returns-then-get-self
returns-then-get-self c =
    let s = c.self.inside in (
      λ no. absurd (let e : false ≡ true = no in cc),
      λ held.
          let inside : IsBetween (8 * s.first) (8 * s.first + 8 * length s.memory.held) c.args.place = held_inside s.first s.memory.held s.pages (value_at s.memory.bytes) c.args.self.now c.self.invariant.0 c.self.view_is c.args.subpool c.args.place _ _ c.requires.whole c.requires.some refl refl held in
          absurd (omega arith),
    )

pub returns-then-pages-run : goal.returns-then-pages-run
returns-then-pages-run c =
    let s = c.self.inside in
    let sizes : length s.memory.held ≡ 512 * length s.pages = c.self.invariant.0.exact.sizes in (
      λ no. absurd (let e : false ≡ true = no in cc),
      λ held.
          let inside : IsBetween (8 * s.first) (8 * s.first + 8 * length s.memory.held) c.args.place = held_inside s.first s.memory.held s.pages (value_at s.memory.bytes) c.args.self.now c.self.invariant.0 c.self.view_is c.args.subpool c.args.place _ _ c.requires.whole c.requires.some refl refl held in
          absurd (omega arith),
    )

pub returns : goal.returns
returns c =
    let s = c.self.inside in
    let low : 8 * s.first ≤ c.args.place.addr = omega arith in (
      λ hit. holds_cells s.first s.memory.held s.pages (value_at s.memory.bytes) c.args.self.now c.self.invariant.0 c.self.view_is c.args.subpool c.args.place _ _ c.requires.whole c.requires.some c.run_of-run.ensures.start c.run_of-run.ensures.end low (c.holds_run.ensures.0 hit),
      λ held. c.holds_run.ensures.1 (cells_held s.first s.memory.held s.pages (value_at s.memory.bytes) c.args.self.now c.self.invariant.0 c.self.view_is c.args.subpool c.args.place _ _ c.requires.whole c.requires.some c.run_of-run.ensures.start c.run_of-run.ensures.end low held),
    )
