use Rattle.std.proofs.Common.{rules, ◌≡◌, ◌+◌, ◌++◌, ◌∷◌, [], ◌∙◌, ap, arith, length, sym}
use Rattle.std.proofs.lemmas.List.FromFn.{length-map-range_with_len, map-range_with_len_more}
use Rattle.schedules.specs.Orders.{all_placed, placed}
use Rattle.schedules.proofs.order.all_placed.Goals as goal

pub lines-preserved : goal.lines-preserved
lines-preserved c =
    let step = c.args.step.now in
    let order = c.args.order.now in
    let at = c.lines.at in
    let number = c.placed-number.result in
    let pushed : c.push.new.self.items ≡ c.lines.numbers.items ++ number ∷ [] = search rules in
    record {
      within = omega (arith, c.lines-test.true);
      numbers =
          pushed ∙ ap (λ x. x ++ number ∷ []) c.lines.invariant.numbers ∙ ap (λ n. all_placed step order at ++ n ∷ []) c.placed-number.ensures
          ∙ sym (map-range_with_len_more (placed step order) 1 at (at + 1) (omega arith));
    }

pub returns-clause-few : goal.returns-clause-few
returns-clause-few c =
    let numbers = ap length c.lines.invariant.numbers in
    let count = length-map-range_with_len (placed c.args.step.now c.args.order.now) 1 c.lines.at in
    let room = c.requires in
    let within = c.lines.invariant.within in
    omega (arith, numbers, count, room, within)
