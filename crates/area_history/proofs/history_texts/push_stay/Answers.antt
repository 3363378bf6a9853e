use Rattle.std.proofs.Common.{◌≡◌, ◌++◌, ◌∙◌, ap, codes, decimal, rules}
use Rattle.mvs_model.specs.Name.{trimmed}
use Rattle.mvs_model.specs.Texts.{hex}
use Rattle.explanation.specs.FactTexts.{subpool_words}
use Rattle.area_history.specs.LeakTexts.{left_text, origin_text}
use Rattle.line_text.proofs.Appending.{trailing}
use Rattle.area_history.proofs.history_texts.push_stay.Goals as goal

pub returns-clause-text : goal.returns-clause-text
returns-clause-text c =
    let addr : c.get.result ≡ c.args.leak.now.grant.place.addr = search rules in
    let len : c.len.result ≡ c.args.leak.now.grant.place.len = search rules in
    (trailing c.args.text.now c.push_subpool.new.text c.push_origin.new.text (trimmed c.args.leak.now.grant.area ++ codes ": " ++ left_text c.args.leak.now.bytes c.args.leak.now.grant.place.len ++ codes " bytes at " ++ hex 8 c.args.leak.now.grant.place.addr ++ codes " stay in " ++ subpool_words c.args.leak.now.grant.subpool c.args.leak.now.grant.owner) (origin_text c.args.leak.now.grant) (trailing c.args.text.now c.push_str-3.new.self c.push_subpool.new.text (trimmed c.args.leak.now.grant.area ++ codes ": " ++ left_text c.args.leak.now.bytes c.args.leak.now.grant.place.len ++ codes " bytes at " ++ hex 8 c.args.leak.now.grant.place.addr ++ codes " stay in ") (subpool_words c.args.leak.now.grant.subpool c.args.leak.now.grant.owner) (trailing c.args.text.now c.push_word.new.self c.push_str-3.new.self (trimmed c.args.leak.now.grant.area ++ codes ": " ++ left_text c.args.leak.now.bytes c.args.leak.now.grant.place.len ++ codes " bytes at " ++ hex 8 c.args.leak.now.grant.place.addr) (codes " stay in ") (trailing c.args.text.now c.push_str-2.new.self c.push_word.new.self (trimmed c.args.leak.now.grant.area ++ codes ": " ++ left_text c.args.leak.now.bytes c.args.leak.now.grant.place.len ++ codes " bytes at ") (hex 8 c.args.leak.now.grant.place.addr) (trailing c.args.text.now c.push_left.new.text c.push_str-2.new.self (trimmed c.args.leak.now.grant.area ++ codes ": " ++ left_text c.args.leak.now.bytes c.args.leak.now.grant.place.len) (codes " bytes at ") (trailing c.args.text.now c.push_str.new.self c.push_left.new.text (trimmed c.args.leak.now.grant.area ++ codes ": ") (left_text c.args.leak.now.bytes c.args.leak.now.grant.place.len) (trailing c.args.text.now c.push_name.new.self c.push_str.new.self (trimmed c.args.leak.now.grant.area) (codes ": ") (c.push_name.ensures.text) (c.push_str.ensures.text)) (c.push_left.ensures.text ∙ ap (λ n. c.push_str.new.self ++ left_text c.args.leak.now.bytes n) len)) (c.push_str-2.ensures.text)) (c.push_word.ensures.text ∙ ap (λ n. c.push_str-2.new.self ++ hex 8 n) addr)) (c.push_str-3.ensures.text)) (c.push_subpool.ensures.text)) (c.push_origin.ensures.text))
