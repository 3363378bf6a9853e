use Rattle.std.proofs.Common.{Some, length, sym, ap, ◌∙◌, arith}
use Rattle.page_map.specs.Owners.{owner_of}
use Rattle.page_map.proofs.Counting.{are_set, free_code_of, one_less}
use Rattle.page_map.proofs.Decoding.{decoded_some, length_is, owner_set}
use Rattle.page_map.proofs.PageMap.assign.Goals as goal

pub returns : goal.returns
returns c = owner_set c.self.inside.owners.items c.args.self.now c.args.page c.get.result (Some c.args.subpool) c.self.view_is (decoded_some c.get.result (omega (arith, c.get.ensures.low)) ∙ ap Some c.get.ensures.value)

pub overflow_sub-self : goal.overflow_sub-self
overflow_sub-self c =
    let codes = c.self.inside.owners.items in
    let low = sym (length_is codes) ∙ ap length c.self.view_is in
    omega (arith, c.self.invariant.1, one_less codes c.args.page 0 (omega (arith, low, c.requires.within)) (free_code_of codes c.args.page c.self.invariant.0 (omega (arith, low, c.requires.within)) (ap (λ m. owner_of m c.args.page) c.self.view_is ∙ c.requires.free)) (omega arith))

pub invariant_of-self : goal.invariant_of-self
invariant_of-self c =
    let codes = c.self.inside.owners.items in
    let low = sym (length_is codes) ∙ ap length c.self.view_is in (
      are_set codes c.args.page c.get.result c.self.invariant.0 (omega (arith, low, c.requires.within)) c.get.ensures.low,
      omega (arith, c.self.invariant.1, one_less codes c.args.page c.get.result (omega (arith, low, c.requires.within)) (free_code_of codes c.args.page c.self.invariant.0 (omega (arith, low, c.requires.within)) (ap (λ m. owner_of m c.args.page) c.self.view_is ∙ c.requires.free)) (omega (arith, c.get.ensures.low))),
    )
