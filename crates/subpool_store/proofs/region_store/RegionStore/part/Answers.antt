use Rattle.std.proofs.Common.{◌≡◌, ◌-◌, ◌+◌, ◌*◌, length, sym, ap, ◌∙◌, arith}
use Rattle.std.specs.Prelude.{unwrap_or}
use Rattle.mvs_model.specs.Storage.{IsBetween}
use Rattle.subpool_store.specs.Region.{value_at}
use Rattle.subpool_store.proofs.Methods.{all_inside, part_bytes}
use Rattle.subpool_store.proofs.Parts.{part_of_held}
use Rattle.subpool_store.proofs.region_store.RegionStore.part.Goals as goal

pub overflow_sub-from : goal.overflow_sub-from
overflow_sub-from c =
    let s = c.self.inside in
    let inside : IsBetween (8 * s.first) (8 * s.first + 8 * length s.memory.held) c.args.place = all_inside s.first s.memory.held s.pages (value_at s.memory.bytes) c.args.self.now c.self.view_is c.args.place (omega arith) c.requires in
    omega arith

pub part-requires : goal.part-requires
part-requires c =
    let s = c.self.inside in
    part_of_held s.first s.memory.held s.pages (value_at s.memory.bytes) c.args.self.now c.self.view_is c.args.place (c.get.result - 8 * s.first) _ (omega arith) (omega arith, omega arith) c.requires

pub returns-clause-each : goal.returns-clause-each
returns-clause-each c =
    let s = c.self.inside in
    let at : c.get.result - 8 * s.first ≡ c.args.place.addr - 8 * s.first = omega arith in
    part_bytes s.first s.memory.held s.pages (value_at s.memory.bytes) c.args.self.now c.self.view_is c.args.place c.part.result.now (omega arith) c.requires
    (λ k low. sym (ap (λ o. unwrap_or o 0) (c.part.ensures.bytes k (omega arith))) ∙ ap (λ f. value_at s.memory.bytes (f + k)) at)
