use Rattle.std.proofs.Common.{◌≡◌, Some, None, cond, false, true, sym, ap, ◌∙◌, arith}
use Rattle.std.specs.Prelude.{is_some}
use Rattle.std.specs.FinMap.{get}
use Rattle.mvs_model.specs.Name.{same_name}
use Rattle.cell_pool.proofs.Named.{unnamed, distinct_same, named_same}
use Rattle.cell_pool.proofs.pools.Pools.replace.Goals as goal

pub unreachable-requires : goal.unreachable-requires
unreachable-requires c =
    let s = c.self.inside in
    let none : get c.args.self.now c.args.name.now ≡ None = ap (λ m. get m c.args.name.now) (sym c.self.view_is) ∙ unnamed s.entries.slots c.args.name.now c.in-None.ensures in
    let f : true ≡ false = sym c.requires ∙ ap is_some none in absurd (cc)

pub invariant_of-self : goal.invariant_of-self
invariant_of-self c =
    let s = c.self.inside in
    let h = c.in-Some.ensures in
    let few = c.self.invariant.1 in
    let wide = c.self.invariant.2 in
    let len = c.set_root.ensures.len in
    let capacity = c.set_root.ensures.capacity in (
      distinct_same s.entries.slots c.set_root.new.entries.slots c.in-Some.key h.0 c.args.root c.self.invariant.0 h.1 (c.set_root.ensures.changed h.0 h.1) c.set_root.ensures.others,
      omega arith,
      omega arith,
    )

pub returns : goal.returns
returns c n =
    let s = c.self.inside in
    let h = c.in-Some.ensures in
    named_same s.entries.slots c.set_root.new.entries.slots c.in-Some.key h.0 c.args.root c.self.invariant.0 h.1 (c.set_root.ensures.changed h.0 h.1) c.set_root.ensures.others n
    ∙ (λ k. cond (same_name n (h.2 k)) (Some c.args.root) (get (c.self.view_is k) n))
