use Rattle.std.proofs.Common.{◌≡◌, ◌++◌, ◌∙◌, ap, codes, decimal, rules}
use Rattle.line_text.proofs.Appending.{trailing}
use Rattle.area_history.proofs.json.push_place.Goals as goal

pub returns-clause-text : goal.returns-clause-text
returns-clause-text c =
    let addr : c.get.result ≡ c.args.place.addr = search rules in
    let len : c.len.result ≡ c.args.place.len = search rules in
    trailing c.args.text.now c.push_str-2.new.self c.push_decimal-2.new.self (codes ",\"address\":" ++ decimal c.args.place.addr ++ codes ",\"length\":") (decimal c.args.place.len) (trailing c.args.text.now c.push_decimal.new.self c.push_str-2.new.self (codes ",\"address\":" ++ decimal c.args.place.addr) (codes ",\"length\":") (trailing c.args.text.now c.push_str.new.self c.push_decimal.new.self (codes ",\"address\":") (decimal c.args.place.addr) (c.push_str.ensures.text) (c.push_decimal.ensures.text ∙ ap (λ n. c.push_str.new.self ++ decimal n) addr)) (c.push_str-2.ensures.text)) (c.push_decimal-2.ensures.text ∙ ap (λ n. c.push_str-2.new.self ++ decimal n) len)
