use Rattle.std.proofs.Common.{◌≤◌, ◌++◌, length, take, arith, ap, ◌∙◌, rules}
use Rattle.line_text.proofs.Appending.{name_put, taken_again}
use Rattle.line_text.proofs.text.LineText.push_name.Goals as goal

pub returns-clause-text : goal.returns-clause-text
returns-clause-text c =
    let len = c.self.inside.len in
    let ws = c.copy_from_slice.new.self in
    let few : length c.text.result.now ≤ length ws = search rules in
    let within : len ≤ length c.self.inside.bytes = omega (arith, c.self.invariant, c.self.told) in
    name_put c.self.inside.bytes ws len _ (length c.text.result.now) within few
    ∙ (λ i. c.self.view_is i ++ take (length (c.text.ensures.text i)) ((c.copy_from_slice.ensures.after ∙ c.bytes.ensures) i))
    ∙ ap (λ t. c.args.self.now ++ t) (taken_again _ c.args.name.now)
