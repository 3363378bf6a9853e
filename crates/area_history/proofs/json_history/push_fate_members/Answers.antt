use Rattle.std.proofs.Common.{◌≡◌, ◌++◌, ◌∙◌, ap, codes, decimal, rules}
use Rattle.area_history.specs.JsonHistories.{area_members}
use Rattle.line_text.proofs.Appending.{trailing}
use Rattle.area_history.proofs.json_history.push_fate_members.Goals as goal

pub returns-clause-text : goal.returns-clause-text
returns-clause-text c =
    let addr : c.get.result ≡ c.args.addr = search rules in
    (trailing c.args.text.now c.push_decimal.new.self c.push_area.new.text (codes "{\"event\":\"address_history\",\"address\":" ++ decimal c.args.addr) (area_members c.args.grant.now) (trailing c.args.text.now c.push_str.new.self c.push_decimal.new.self (codes "{\"event\":\"address_history\",\"address\":") (decimal c.args.addr) (c.push_str.ensures.text) (c.push_decimal.ensures.text ∙ ap (λ n. c.push_str.new.self ++ decimal n) addr)) (c.push_area.ensures.text))
