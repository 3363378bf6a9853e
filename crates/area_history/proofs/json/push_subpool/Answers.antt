use Rattle.std.proofs.Common.{◌≡◌, ◌++◌, ◌∙◌, ap, codes, decimal, rules}
use Rattle.mvs_model.specs.Name.{trimmed}
use Rattle.line_text.proofs.Appending.{trailing}
use Rattle.area_history.proofs.json.push_subpool.Goals as goal

pub returns-clause-text : goal.returns-clause-text
returns-clause-text c =
    let number : c.from.result ≡ c.args.number = search rules in
    trailing c.args.text.now c.push_str-2.new.self c.push_name.new.self (codes ",\"subpool\":" ++ decimal c.args.number ++ codes ",\"owner\":\"") (trimmed c.args.owner.now) (trailing c.args.text.now c.push_decimal.new.self c.push_str-2.new.self (codes ",\"subpool\":" ++ decimal c.args.number) (codes ",\"owner\":\"") (trailing c.args.text.now c.push_str.new.self c.push_decimal.new.self (codes ",\"subpool\":") (decimal c.args.number) (c.push_str.ensures.text) (c.push_decimal.ensures.text ∙ ap (λ n. c.push_str.new.self ++ decimal n) number)) (c.push_str-2.ensures.text)) (c.push_name.ensures.text)
