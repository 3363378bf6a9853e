use Rattle.std.proofs.Common.{take, ◌≡◌, ◌-◌, ◌+◌, ◌*◌, length, refl, sym, ap, ◌∙◌, inl, inr, arith}
use Rattle.std.specs.Prelude.{unwrap_or}
use Rattle.mvs_model.specs.Storage.{IsBetween}
use Rattle.region_raw.specs.Pages.{with_part}
use Rattle.subpool_store.specs.Region.{value_at}
use Rattle.subpool_store.specs.WrittenBytes.{region_written}
use Rattle.subpool_store.proofs.LentRegion.{lends_region}
use Rattle.subpool_store.proofs.Methods.{all_inside, part_bytes}
use Rattle.subpool_store.proofs.Opened.{opened_written, written_held}
use Rattle.subpool_store.proofs.Parts.{part_of_held}
use Rattle.subpool_store.proofs.region_store.RegionStore.two.Goals as goal

pub overflow_sub-source : goal.overflow_sub-source
overflow_sub-source c =
    let s = c.self.inside in
    let inside : IsBetween (8 * s.first) (8 * s.first + 8 * length s.memory.held) c.args.from = all_inside s.first s.memory.held s.pages (value_at s.memory.bytes) c.args.self.now c.self.view_is c.args.from (omega arith) c.requires.source in
    omega arith

pub overflow_sub-target : goal.overflow_sub-target
overflow_sub-target c =
    let s = c.self.inside in
    let inside : IsBetween (8 * s.first) (8 * s.first + 8 * length s.memory.held) c.args.to = all_inside s.first s.memory.held s.pages (value_at s.memory.bytes) c.args.self.now c.self.view_is c.args.to (omega arith) c.requires.target in
    omega arith

pub two_parts-requires-clause-source : goal.two_parts-requires-clause-source
two_parts-requires-clause-source c =
    let s = c.self.inside in
    part_of_held s.first s.memory.held s.pages (value_at s.memory.bytes) c.args.self.now c.self.view_is c.args.from _ _ (omega arith) (omega arith, omega arith) c.requires.source

pub two_parts-requires-clause-target : goal.two_parts-requires-clause-target
two_parts-requires-clause-target c =
    let s = c.self.inside in
    part_of_held s.first s.memory.held s.pages (value_at s.memory.bytes) c.args.self.now c.self.view_is c.args.to _ _ (omega arith) (omega arith, omega arith) c.requires.target

pub two_parts-requires-clause-apart : goal.two_parts-requires-clause-apart
two_parts-requires-clause-apart c =
    let s = c.self.inside in
    let source : IsBetween (8 * s.first) (8 * s.first + 8 * length s.memory.held) c.args.from = all_inside s.first s.memory.held s.pages (value_at s.memory.bytes) c.args.self.now c.self.view_is c.args.from (omega arith) c.requires.source in
    let target : IsBetween (8 * s.first) (8 * s.first + 8 * length s.memory.held) c.args.to = all_inside s.first s.memory.held s.pages (value_at s.memory.bytes) c.args.self.now c.self.view_is c.args.to (omega arith) c.requires.target in
    elim c.requires.apart [ inl le ↦ inl (omega (arith, le)) | inr le ↦ inr (omega (arith, le)) ]

pub invariant_of-self-lent : goal.invariant_of-self-lent
invariant_of-self-lent c =
    let s = c.self.inside in let at = c.get-2.result - 8 * s.first in let n = c.len-len.result in
    λ w. (c.self.invariant.0, opened_written s.pages s.memory.bytes c.self.invariant.1 at (take n w) (with_part s.memory.bytes at (take n w)) (c.two_parts.ensures.writes (take n w)))

pub returns : goal.returns
returns c =
    let s = c.self.inside in let from = c.get.result - 8 * s.first in let to = c.get-2.result - 8 * s.first in let n = c.len-len.result in
    let long : n ≡ c.args.to.len = omega (arith, c.requires.len) in
    let from_is : from ≡ c.args.from.addr - 8 * s.first = omega arith in
    let to_is : to ≡ c.args.to.addr - 8 * s.first = omega arith in
    let target : IsBetween (8 * s.first) (8 * s.first + 8 * length s.memory.held) c.args.to = all_inside s.first s.memory.held s.pages (value_at s.memory.bytes) c.args.self.now c.self.view_is c.args.to (omega arith) c.requires.target in (
      (
        refl,
        λ w. lends_region s.first s.memory.held s.pages (value_at s.memory.bytes) (value_at (with_part s.memory.bytes to (take n w))) c.self.invariant.0 c.args.to.addr to target.0 to_is (take n w)
            (written_held s.memory.held s.pages s.memory.bytes c.self.invariant.1 to (take n w) (with_part s.memory.bytes to (take n w)) (c.two_parts.ensures.writes (take n w))) c.args.self.now c.self.view_is
            ∙ ap (λ k. region_written c.args.self.now c.args.to.addr (take k w)) long,
      ),
      record {
        writes_back = tt;
        len = (let is : length c.two_parts.result.0.now ≡ c.args.from.len = omega (arith, c.two_parts.ensures.len.0) in is, let is : length c.two_parts.result.1.now ≡ c.args.to.len = omega (arith, c.two_parts.ensures.len.1, c.requires.len) in is);
        source_bytes = part_bytes s.first s.memory.held s.pages (value_at s.memory.bytes) c.args.self.now c.self.view_is c.args.from c.two_parts.result.0.now (omega arith) c.requires.source
            (λ k low. sym (ap (λ o. unwrap_or o 0) (c.two_parts.ensures.source_bytes k (omega arith))) ∙ ap (λ f. value_at s.memory.bytes (f + k)) from_is);
        target_bytes = part_bytes s.first s.memory.held s.pages (value_at s.memory.bytes) c.args.self.now c.self.view_is c.args.to c.two_parts.result.1.now (omega arith) c.requires.target
            (λ k low. sym (ap (λ o. unwrap_or o 0) (c.two_parts.ensures.target_bytes k (omega arith))) ∙ ap (λ f. value_at s.memory.bytes (f + k)) to_is);
      },
    )
