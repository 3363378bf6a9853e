use Rattle.std.proofs.Common.{◌++◌, codes, decimal}
use Rattle.explanation.specs.ReasonTexts.{least_of, room_text}
use Rattle.mvs_model.specs.Reasons.{number_of}
use Rattle.line_text.proofs.Appending.{trailing}
use Rattle.explanation.proofs.reasons.push_shortage.Goals as goal

pub returns-clause-text : goal.returns-clause-text
returns-clause-text c = (trailing c.args.text.now c.push_room.new.text c.push_str-4.new.self (decimal (least_of c.args.request.now) ++ codes " bytes requested in SP " ++ decimal (number_of c.args.request.now) ++ codes ", but the largest area that fits has " ++ decimal c.args.room.now.longest ++ codes " bytes" ++ room_text c.args.room.now) (codes "rule 12)") (trailing c.args.text.now c.push_str-3.new.self c.push_room.new.text (decimal (least_of c.args.request.now) ++ codes " bytes requested in SP " ++ decimal (number_of c.args.request.now) ++ codes ", but the largest area that fits has " ++ decimal c.args.room.now.longest ++ codes " bytes") (room_text c.args.room.now) (trailing c.args.text.now c.push_decimal-3.new.self c.push_str-3.new.self (decimal (least_of c.args.request.now) ++ codes " bytes requested in SP " ++ decimal (number_of c.args.request.now) ++ codes ", but the largest area that fits has " ++ decimal c.args.room.now.longest) (codes " bytes") (trailing c.args.text.now c.push_str-2.new.self c.push_decimal-3.new.self (decimal (least_of c.args.request.now) ++ codes " bytes requested in SP " ++ decimal (number_of c.args.request.now) ++ codes ", but the largest area that fits has ") (decimal c.args.room.now.longest) (trailing c.args.text.now c.push_decimal-2.new.self c.push_str-2.new.self (decimal (least_of c.args.request.now) ++ codes " bytes requested in SP " ++ decimal (number_of c.args.request.now)) (codes ", but the largest area that fits has ") (trailing c.args.text.now c.push_str.new.self c.push_decimal-2.new.self (decimal (least_of c.args.request.now) ++ codes " bytes requested in SP ") (decimal (number_of c.args.request.now)) (trailing c.args.text.now c.push_decimal.new.self c.push_str.new.self (decimal (least_of c.args.request.now)) (codes " bytes requested in SP ") (rw (c.least.ensures) at c.push_decimal.ensures.text) c.push_str.ensures.text) (rw (c.number.ensures) at c.push_decimal-2.ensures.text)) c.push_str-2.ensures.text) c.push_decimal-3.ensures.text) c.push_str-3.ensures.text) c.push_room.ensures.text) c.push_str-4.ensures.text)
