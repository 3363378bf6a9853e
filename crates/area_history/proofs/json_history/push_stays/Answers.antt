use Rattle.std.proofs.Common.{◌++◌, codes}
use Rattle.area_history.specs.JsonHistories.{counts_members}
use Rattle.line_text.proofs.Appending.{trailing}
use Rattle.area_history.proofs.json_history.push_stays.Goals as goal

pub returns-clause-text : goal.returns-clause-text
returns-clause-text c = (trailing c.args.text.now c.push_str.new.self c.push_counts.new.text (codes "{\"event\":\"stays\"") (counts_members c.args.stays.now) (c.push_str.ensures.text) (c.push_counts.ensures.text))
