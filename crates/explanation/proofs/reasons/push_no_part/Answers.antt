use Rattle.std.proofs.Common.{◌++◌, codes, decimal}
use Rattle.explanation.specs.ReasonTexts.{named, room_text}
use Rattle.line_text.proofs.Appending.{trailing}
use Rattle.explanation.proofs.reasons.push_no_part.Goals as goal

pub returns-clause-text : goal.returns-clause-text
returns-clause-text c = (trailing c.args.text.now c.push_room.new.text c.push_str-6.new.self (codes "Pool " ++ named c.args.request.now ++ codes ": no room for " ++ decimal c.args.cells ++ codes " cells of " ++ decimal c.args.size ++ codes " bytes; the largest area that fits has " ++ decimal c.args.room.now.longest ++ codes " bytes" ++ room_text c.args.room.now) (codes "rules 59, 61)") (trailing c.args.text.now c.push_str-5.new.self c.push_room.new.text (codes "Pool " ++ named c.args.request.now ++ codes ": no room for " ++ decimal c.args.cells ++ codes " cells of " ++ decimal c.args.size ++ codes " bytes; the largest area that fits has " ++ decimal c.args.room.now.longest ++ codes " bytes") (room_text c.args.room.now) (trailing c.args.text.now c.push_decimal-3.new.self c.push_str-5.new.self (codes "Pool " ++ named c.args.request.now ++ codes ": no room for " ++ decimal c.args.cells ++ codes " cells of " ++ decimal c.args.size ++ codes " bytes; the largest area that fits has " ++ decimal c.args.room.now.longest) (codes " bytes") (trailing c.args.text.now c.push_str-4.new.self c.push_decimal-3.new.self (codes "Pool " ++ named c.args.request.now ++ codes ": no room for " ++ decimal c.args.cells ++ codes " cells of " ++ decimal c.args.size ++ codes " bytes; the largest area that fits has ") (decimal c.args.room.now.longest) (trailing c.args.text.now c.push_decimal-2.new.self c.push_str-4.new.self (codes "Pool " ++ named c.args.request.now ++ codes ": no room for " ++ decimal c.args.cells ++ codes " cells of " ++ decimal c.args.size) (codes " bytes; the largest area that fits has ") (trailing c.args.text.now c.push_str-3.new.self c.push_decimal-2.new.self (codes "Pool " ++ named c.args.request.now ++ codes ": no room for " ++ decimal c.args.cells ++ codes " cells of ") (decimal c.args.size) (trailing c.args.text.now c.push_decimal.new.self c.push_str-3.new.self (codes "Pool " ++ named c.args.request.now ++ codes ": no room for " ++ decimal c.args.cells) (codes " cells of ") (trailing c.args.text.now c.push_str-2.new.self c.push_decimal.new.self (codes "Pool " ++ named c.args.request.now ++ codes ": no room for ") (decimal c.args.cells) (trailing c.args.text.now c.push_named.new.text c.push_str-2.new.self (codes "Pool " ++ named c.args.request.now) (codes ": no room for ") (trailing c.args.text.now c.push_str.new.self c.push_named.new.text (codes "Pool ") (named c.args.request.now) c.push_str.ensures.text c.push_named.ensures.text) c.push_str-2.ensures.text) c.push_decimal.ensures.text) c.push_str-3.ensures.text) c.push_decimal-2.ensures.text) c.push_str-4.ensures.text) c.push_decimal-3.ensures.text) c.push_str-5.ensures.text) c.push_room.ensures.text) c.push_str-6.ensures.text)
