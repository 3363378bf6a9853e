use Rattle.std.proofs.Common.{◌++◌, codes, decimal}
use Rattle.mvs_model.specs.Name.{trimmed}
use Rattle.line_text.proofs.Appending.{trailing}
use Rattle.area_history.proofs.json_history.push_end.Goals as goal

pub returns-clause-text : goal.returns-clause-text
returns-clause-text c = (trailing c.args.text.now c.push_str-2.new.self c.push_decimal.new.self (codes "\"by\":\"end\",\"task\":\"" ++ trimmed c.args.task.now ++ codes "\",\"line\":") (decimal c.args.event.now.line) (trailing c.args.text.now c.push_name.new.self c.push_str-2.new.self (codes "\"by\":\"end\",\"task\":\"" ++ trimmed c.args.task.now) (codes "\",\"line\":") (trailing c.args.text.now c.push_str.new.self c.push_name.new.self (codes "\"by\":\"end\",\"task\":\"") (trimmed c.args.task.now) (c.push_str.ensures.text) (c.push_name.ensures.text)) (c.push_str-2.ensures.text)) (c.push_decimal.ensures.text))
