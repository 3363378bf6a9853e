use Rattle.std.proofs.Common.{◌≡◌, None, cond, true, false, sym, ap, ◌∙◌, arith}
use Rattle.std.specs.Prelude.{is_some}
use Rattle.std.specs.FinMap.{get}
use Rattle.mvs_model.specs.Name.{same_name}
use Rattle.cell_pool.proofs.Named.{unnamed, distinct_gone, named_gone}
use Rattle.cell_pool.proofs.pools.Pools.forget.Goals as goal

pub unreachable-requires : goal.unreachable-requires
unreachable-requires c =
    let s = c.self.inside in
    let none : get c.args.self.now c.args.name.now ≡ None = ap (λ m. get m c.args.name.now) (sym c.self.view_is) ∙ unnamed s.entries.slots c.args.name.now c.in-None.ensures in
    let f : true ≡ false = sym c.requires ∙ ap is_some none in absurd (cc)

pub invariant_of-self : goal.invariant_of-self
invariant_of-self c =
    let s = c.self.inside in
    let h = c.in-Some.ensures in
    let few = c.self.invariant.1 in
    let wide = c.self.invariant.2 in
    let len = c.remove.ensures.len in
    let capacity = c.remove.ensures.capacity in (
      distinct_gone s.entries.slots c.remove.new.entries.slots c.in-Some.key h.0 c.self.invariant.0 h.1 c.remove.ensures.removed.changed c.remove.ensures.removed.others,
      omega arith,
      omega arith,
    )

pub returns : goal.returns
returns c n =
    let s = c.self.inside in
    let h = c.in-Some.ensures in
    named_gone s.entries.slots c.remove.new.entries.slots c.in-Some.key h.0 c.self.invariant.0 h.1 c.remove.ensures.removed.changed c.remove.ensures.removed.others n
    ∙ (λ k. cond (same_name n (h.2 k)) None (get (c.self.view_is k) n))
