use Rattle.std.proofs.Common.{◌++◌, codes, decimal}
use Rattle.mvs_model.specs.Name.{trimmed}
use Rattle.line_text.proofs.Appending.{trailing}
use Rattle.explanation.proofs.reasons.push_holder.Goals as goal

pub returns-in-Subpool-clause-text : goal.returns-in-Subpool-clause-text
returns-in-Subpool-clause-text c = rw (c.in-Subpool.is) (trailing c.args.text.now c.push_str-in-Subpool-2.new.self c.push_name.new.self (codes " is held by SP " ++ decimal c.in-Subpool.number ++ codes " of ") (trimmed c.in-Subpool.owner) (trailing c.args.text.now c.push_decimal.new.self c.push_str-in-Subpool-2.new.self (codes " is held by SP " ++ decimal c.in-Subpool.number) (codes " of ") (trailing c.args.text.now c.push_str-in-Subpool.new.self c.push_decimal.new.self (codes " is held by SP ") (decimal c.in-Subpool.number) c.push_str-in-Subpool.ensures.text (rw (c.from.ensures, c.get.ensures.value) at c.push_decimal.ensures.text)) c.push_str-in-Subpool-2.ensures.text) c.push_name.ensures.text)

pub returns-in-Unowned-clause-text : goal.returns-in-Unowned-clause-text
returns-in-Unowned-clause-text c = rw (c.in-Unowned.is) c.push_str-in-Unowned.ensures.text

pub returns-in-Part-clause-text : goal.returns-in-Part-clause-text
returns-in-Part-clause-text c = rw (c.in-Part.is) (trailing c.args.text.now c.push_str-in-Part.new.self c.push_name-in-Part.new.self (codes " is in pool ") (trimmed c.in-Part.name) c.push_str-in-Part.ensures.text c.push_name-in-Part.ensures.text)
