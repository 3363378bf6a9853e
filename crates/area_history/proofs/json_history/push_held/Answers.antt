use Rattle.std.proofs.Common.{◌≡◌, ◌++◌, ◌∙◌, ap, codes}
use Rattle.area_history.specs.JsonHistories.{counts_members, side_word}
use Rattle.line_text.proofs.Appending.{trailing}
use Rattle.area_history.proofs.json_history.push_held.Goals as goal

pub returns-clause-text : goal.returns-clause-text
returns-clause-text c = (trailing c.args.text.now c.push_str-3.new.self c.push_counts.new.text (codes "{\"event\":\"held\",\"side\":\"" ++ side_word c.args.side.now ++ codes "\"") (counts_members c.args.held.now) (trailing c.args.text.now c.push_str-2.new.self c.push_str-3.new.self (codes "{\"event\":\"held\",\"side\":\"" ++ side_word c.args.side.now) (codes "\"") (trailing c.args.text.now c.push_str.new.self c.push_str-2.new.self (codes "{\"event\":\"held\",\"side\":\"") (side_word c.args.side.now) (c.push_str.ensures.text) (c.push_str-2.ensures.text ∙ ap (λ w. c.push_str.new.self ++ w) c.side_word.ensures.word)) (c.push_str-3.ensures.text)) (c.push_counts.ensures.text))
