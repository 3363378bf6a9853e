use Rattle.std.proofs.Common.{take, ◌≡◌, ◌-◌, ◌+◌, ◌*◌, length, refl, sym, ap, ◌∙◌, arith}
use Rattle.std.specs.Prelude.{unwrap_or}
use Rattle.mvs_model.specs.Storage.{IsBetween}
use Rattle.region_raw.specs.Pages.{with_part}
use Rattle.subpool_store.specs.Region.{value_at}
use Rattle.subpool_store.specs.WrittenBytes.{region_written}
use Rattle.subpool_store.proofs.LentRegion.{lends_region}
use Rattle.subpool_store.proofs.Methods.{all_inside, part_bytes}
use Rattle.subpool_store.proofs.Opened.{opened_written, written_held}
use Rattle.subpool_store.proofs.Parts.{part_of_held}
use Rattle.subpool_store.proofs.region_store.RegionStore.part_mut.Goals as goal

pub overflow_sub-from : goal.overflow_sub-from
overflow_sub-from c =
    let s = c.self.inside in
    let inside : IsBetween (8 * s.first) (8 * s.first + 8 * length s.memory.held) c.args.place = all_inside s.first s.memory.held s.pages (value_at s.memory.bytes) c.args.self.now c.self.view_is c.args.place (omega arith) c.requires in
    omega arith

pub part_mut-requires : goal.part_mut-requires
part_mut-requires c =
    let s = c.self.inside in
    part_of_held s.first s.memory.held s.pages (value_at s.memory.bytes) c.args.self.now c.self.view_is c.args.place (c.get.result - 8 * s.first) _ (omega arith) (omega arith, omega arith) c.requires

pub invariant_of-self-lent : goal.invariant_of-self-lent
invariant_of-self-lent c =
    let s = c.self.inside in let at = c.get.result - 8 * s.first in let n = c.len-len.result in
    λ w. (c.self.invariant.0, opened_written s.pages s.memory.bytes c.self.invariant.1 at (take n w) (with_part s.memory.bytes at (take n w)) (c.part_mut.ensures.writes (take n w)))

pub returns : goal.returns
returns c =
    let s = c.self.inside in let from = c.get.result - 8 * s.first in let n = c.len-len.result in
    let long : n ≡ c.args.place.len = omega arith in
    let at : c.get.result - 8 * s.first ≡ c.args.place.addr - 8 * s.first = omega arith in
    let inside : IsBetween (8 * s.first) (8 * s.first + 8 * length s.memory.held) c.args.place = all_inside s.first s.memory.held s.pages (value_at s.memory.bytes) c.args.self.now c.self.view_is c.args.place (omega arith) c.requires in (
      (
        refl,
        λ w. lends_region s.first s.memory.held s.pages (value_at s.memory.bytes) (value_at (with_part s.memory.bytes from (take n w))) c.self.invariant.0 c.args.place.addr from inside.0 at (take n w)
            (written_held s.memory.held s.pages s.memory.bytes c.self.invariant.1 from (take n w) (with_part s.memory.bytes from (take n w)) (c.part_mut.ensures.writes (take n w))) c.args.self.now c.self.view_is
            ∙ ap (λ k. region_written c.args.self.now c.args.place.addr (take k w)) long,
      ),
      record {
        writes_back = tt;
        len = let is : length c.part_mut.result.now ≡ c.args.place.len = omega (arith, c.part_mut.ensures.len) in is;
        each = part_bytes s.first s.memory.held s.pages (value_at s.memory.bytes) c.args.self.now c.self.view_is c.args.place c.part_mut.result.now (omega arith) c.requires
            (λ k low. sym (ap (λ o. unwrap_or o 0) (c.part_mut.ensures.bytes k (omega arith))) ∙ ap (λ f. value_at s.memory.bytes (f + k)) at);
      },
    )
