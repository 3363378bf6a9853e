use Rattle.std.proofs.Common.{◌∙◌, arith}
use Rattle.page_map.proofs.Counting.{free_counted, few_free}
use Rattle.page_map.proofs.PageMap.free_pages.Goals as goal

pub returns-clause-free : goal.returns-clause-free
returns-clause-free c =
    let s = c.self.inside in
    c.self.invariant.1 ∙ rw (← c.self.view_is) (free_counted s.owners.items c.self.invariant.0)

pub returns-clause-most : goal.returns-clause-most
returns-clause-most c =
    let s = c.self.inside in
    omega (arith, c.self.invariant.1, c.self.invariant.0.few, few_free s.owners.items)
