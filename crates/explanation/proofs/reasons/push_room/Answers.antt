use Rattle.std.proofs.Common.{◌++◌, codes, decimal}
use Rattle.line_text.proofs.Appending.{trailing}
use Rattle.explanation.proofs.reasons.push_room.Goals as goal

pub returns-clause-text : goal.returns-clause-text
returns-clause-text c = (trailing c.args.text.now c.push_decimal-3.new.self c.push_str-4.new.self (codes "; free runs: " ++ decimal c.args.room.now.runs ++ codes "; free pages: " ++ decimal c.args.room.now.below ++ codes " below, " ++ decimal c.args.room.now.above) (codes " above. (") (trailing c.args.text.now c.push_str-3.new.self c.push_decimal-3.new.self (codes "; free runs: " ++ decimal c.args.room.now.runs ++ codes "; free pages: " ++ decimal c.args.room.now.below ++ codes " below, ") (decimal c.args.room.now.above) (trailing c.args.text.now c.push_decimal-2.new.self c.push_str-3.new.self (codes "; free runs: " ++ decimal c.args.room.now.runs ++ codes "; free pages: " ++ decimal c.args.room.now.below) (codes " below, ") (trailing c.args.text.now c.push_str-2.new.self c.push_decimal-2.new.self (codes "; free runs: " ++ decimal c.args.room.now.runs ++ codes "; free pages: ") (decimal c.args.room.now.below) (trailing c.args.text.now c.push_decimal.new.self c.push_str-2.new.self (codes "; free runs: " ++ decimal c.args.room.now.runs) (codes "; free pages: ") (trailing c.args.text.now c.push_str.new.self c.push_decimal.new.self (codes "; free runs: ") (decimal c.args.room.now.runs) c.push_str.ensures.text c.push_decimal.ensures.text) c.push_str-2.ensures.text) c.push_decimal-2.ensures.text) c.push_str-3.ensures.text) c.push_decimal-3.ensures.text) c.push_str-4.ensures.text)
