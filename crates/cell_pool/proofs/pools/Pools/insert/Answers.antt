use Rattle.std.proofs.Common.{◌≡◌, Some, cond, ap, ◌∙◌, arith}
use Rattle.std.specs.Prelude.{count_by, is_some}
use Rattle.std.specs.FinMap.{get, len}
use Rattle.mvs_model.specs.Name.{same_name}
use Rattle.cell_pool.specs.Entries.{roots_of}
use Rattle.cell_pool.proofs.Named.{len_is, distinct_more, named_more}
use Rattle.cell_pool.proofs.pools.Pools.insert.Goals as goal

pub insert_reserved-requires : goal.insert_reserved-requires
insert_reserved-requires c =
    let s = c.self.inside in
    let is : len (roots_of s.entries.slots) ≡ count_by is_some s.entries.slots = len_is s.entries.slots c.self.invariant.0 in
    let now : len (roots_of s.entries.slots) ≡ len c.args.self.now = ap len c.self.view_is in
    let room = c.requires.room in
    let wide = c.self.invariant.2 in
    omega arith

pub invariant_of-self : goal.invariant_of-self
invariant_of-self c =
    let s = c.self.inside in
    let is : len (roots_of s.entries.slots) ≡ count_by is_some s.entries.slots = len_is s.entries.slots c.self.invariant.0 in
    let now : len (roots_of s.entries.slots) ≡ len c.args.self.now = ap len c.self.view_is in
    let room = c.requires.room in
    let wide = c.self.invariant.2 in
    let more = c.insert_reserved.ensures.len in
    let same = c.insert_reserved.ensures.capacity in (
      distinct_more s.entries.slots c.insert_reserved.new.self.slots c.insert_reserved.result (record { name = c.args.name.now; root = c.args.root }) c.self.invariant.0 c.insert_reserved.ensures.was_vacant c.insert_reserved.ensures.updates.changed c.insert_reserved.ensures.updates.others (ap (λ m. get m c.args.name.now) c.self.view_is ∙ c.requires.fresh),
      omega arith,
      omega arith,
    )

pub returns : goal.returns
returns c n =
    let s = c.self.inside in
    named_more s.entries.slots c.insert_reserved.new.self.slots c.insert_reserved.result (record { name = c.args.name.now; root = c.args.root }) c.self.invariant.0 c.insert_reserved.ensures.was_vacant c.insert_reserved.ensures.updates.changed c.insert_reserved.ensures.updates.others (ap (λ m. get m c.args.name.now) c.self.view_is ∙ c.requires.fresh) n
    ∙ ap (λ m. cond (same_name n c.args.name.now) (Some c.args.root) (get m n)) c.self.view_is
