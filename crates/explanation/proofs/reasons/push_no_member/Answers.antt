use Rattle.std.proofs.Common.{◌++◌, codes, decimal}
use Rattle.explanation.specs.ReasonTexts.{members_before, room_text}
use Rattle.line_text.proofs.Appending.{trailing}
use Rattle.explanation.proofs.reasons.push_no_member.Goals as goal

pub returns-clause-text : goal.returns-clause-text
returns-clause-text c = (trailing c.args.text.now c.push_room.new.text c.push_str-6.new.self (codes "Member " ++ decimal c.args.member ++ codes " of the list requests " ++ decimal c.args.short.now.bytes ++ codes " bytes, but " ++ members_before c.args.member ++ codes "the largest area that fits has " ++ decimal c.args.short.now.room.longest ++ codes " bytes" ++ room_text c.args.short.now.room) (codes "rule 22)") (trailing c.args.text.now c.push_str-5.new.self c.push_room.new.text (codes "Member " ++ decimal c.args.member ++ codes " of the list requests " ++ decimal c.args.short.now.bytes ++ codes " bytes, but " ++ members_before c.args.member ++ codes "the largest area that fits has " ++ decimal c.args.short.now.room.longest ++ codes " bytes") (room_text c.args.short.now.room) (trailing c.args.text.now c.push_decimal-3.new.self c.push_str-5.new.self (codes "Member " ++ decimal c.args.member ++ codes " of the list requests " ++ decimal c.args.short.now.bytes ++ codes " bytes, but " ++ members_before c.args.member ++ codes "the largest area that fits has " ++ decimal c.args.short.now.room.longest) (codes " bytes") (trailing c.args.text.now c.push_str-4.new.self c.push_decimal-3.new.self (codes "Member " ++ decimal c.args.member ++ codes " of the list requests " ++ decimal c.args.short.now.bytes ++ codes " bytes, but " ++ members_before c.args.member ++ codes "the largest area that fits has ") (decimal c.args.short.now.room.longest) (trailing c.args.text.now c.push_before.new.text c.push_str-4.new.self (codes "Member " ++ decimal c.args.member ++ codes " of the list requests " ++ decimal c.args.short.now.bytes ++ codes " bytes, but " ++ members_before c.args.member) (codes "the largest area that fits has ") (trailing c.args.text.now c.push_str-3.new.self c.push_before.new.text (codes "Member " ++ decimal c.args.member ++ codes " of the list requests " ++ decimal c.args.short.now.bytes ++ codes " bytes, but ") (members_before c.args.member) (trailing c.args.text.now c.push_decimal-2.new.self c.push_str-3.new.self (codes "Member " ++ decimal c.args.member ++ codes " of the list requests " ++ decimal c.args.short.now.bytes) (codes " bytes, but ") (trailing c.args.text.now c.push_str-2.new.self c.push_decimal-2.new.self (codes "Member " ++ decimal c.args.member ++ codes " of the list requests ") (decimal c.args.short.now.bytes) (trailing c.args.text.now c.push_decimal.new.self c.push_str-2.new.self (codes "Member " ++ decimal c.args.member) (codes " of the list requests ") (trailing c.args.text.now c.push_str.new.self c.push_decimal.new.self (codes "Member ") (decimal c.args.member) c.push_str.ensures.text c.push_decimal.ensures.text) c.push_str-2.ensures.text) c.push_decimal-2.ensures.text) c.push_str-3.ensures.text) c.push_before.ensures.text) c.push_str-4.ensures.text) c.push_decimal-3.ensures.text) c.push_str-5.ensures.text) c.push_room.ensures.text) c.push_str-6.ensures.text)
