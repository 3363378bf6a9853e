use Rattle.std.proofs.Common.{◌≡◌, ◌++◌, ◌∙◌, ap, codes, decimal, rules}
use Rattle.mvs_model.specs.Name.{trimmed}
use Rattle.mvs_model.specs.Texts.{hex}
use Rattle.explanation.specs.FactTexts.{subpool_words}
use Rattle.line_text.proofs.Appending.{trailing}
use Rattle.area_history.proofs.history_texts.push_area.Goals as goal

pub returns-clause-text : goal.returns-clause-text
returns-clause-text c =
    let addr : c.get.result ≡ c.args.grant.now.place.addr = search rules in
    let len : c.len.result ≡ c.args.grant.now.place.len = search rules in
    (trailing c.args.text.now c.push_str-5.new.self c.push_decimal-2.new.self (trimmed c.args.grant.now.area ++ codes ": " ++ decimal c.args.grant.now.place.len ++ codes " bytes at " ++ hex 8 c.args.grant.now.place.addr ++ codes " in " ++ subpool_words c.args.grant.now.subpool c.args.grant.now.owner ++ codes ", obtained by " ++ trimmed c.args.grant.now.task ++ codes " in line ") (decimal c.args.grant.now.line) (trailing c.args.text.now c.push_name-2.new.self c.push_str-5.new.self (trimmed c.args.grant.now.area ++ codes ": " ++ decimal c.args.grant.now.place.len ++ codes " bytes at " ++ hex 8 c.args.grant.now.place.addr ++ codes " in " ++ subpool_words c.args.grant.now.subpool c.args.grant.now.owner ++ codes ", obtained by " ++ trimmed c.args.grant.now.task) (codes " in line ") (trailing c.args.text.now c.push_str-4.new.self c.push_name-2.new.self (trimmed c.args.grant.now.area ++ codes ": " ++ decimal c.args.grant.now.place.len ++ codes " bytes at " ++ hex 8 c.args.grant.now.place.addr ++ codes " in " ++ subpool_words c.args.grant.now.subpool c.args.grant.now.owner ++ codes ", obtained by ") (trimmed c.args.grant.now.task) (trailing c.args.text.now c.push_subpool.new.text c.push_str-4.new.self (trimmed c.args.grant.now.area ++ codes ": " ++ decimal c.args.grant.now.place.len ++ codes " bytes at " ++ hex 8 c.args.grant.now.place.addr ++ codes " in " ++ subpool_words c.args.grant.now.subpool c.args.grant.now.owner) (codes ", obtained by ") (trailing c.args.text.now c.push_str-3.new.self c.push_subpool.new.text (trimmed c.args.grant.now.area ++ codes ": " ++ decimal c.args.grant.now.place.len ++ codes " bytes at " ++ hex 8 c.args.grant.now.place.addr ++ codes " in ") (subpool_words c.args.grant.now.subpool c.args.grant.now.owner) (trailing c.args.text.now c.push_word.new.self c.push_str-3.new.self (trimmed c.args.grant.now.area ++ codes ": " ++ decimal c.args.grant.now.place.len ++ codes " bytes at " ++ hex 8 c.args.grant.now.place.addr) (codes " in ") (trailing c.args.text.now c.push_str-2.new.self c.push_word.new.self (trimmed c.args.grant.now.area ++ codes ": " ++ decimal c.args.grant.now.place.len ++ codes " bytes at ") (hex 8 c.args.grant.now.place.addr) (trailing c.args.text.now c.push_decimal.new.self c.push_str-2.new.self (trimmed c.args.grant.now.area ++ codes ": " ++ decimal c.args.grant.now.place.len) (codes " bytes at ") (trailing c.args.text.now c.push_str.new.self c.push_decimal.new.self (trimmed c.args.grant.now.area ++ codes ": ") (decimal c.args.grant.now.place.len) (trailing c.args.text.now c.push_name.new.self c.push_str.new.self (trimmed c.args.grant.now.area) (codes ": ") (c.push_name.ensures.text) (c.push_str.ensures.text)) (c.push_decimal.ensures.text ∙ ap (λ n. c.push_str.new.self ++ decimal n) len)) (c.push_str-2.ensures.text)) (c.push_word.ensures.text ∙ ap (λ n. c.push_str-2.new.self ++ hex 8 n) addr)) (c.push_str-3.ensures.text)) (c.push_subpool.ensures.text)) (c.push_str-4.ensures.text)) (c.push_name-2.ensures.text)) (c.push_str-5.ensures.text)) (c.push_decimal-2.ensures.text))
