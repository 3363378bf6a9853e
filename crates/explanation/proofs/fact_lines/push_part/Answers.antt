use Rattle.std.proofs.Common.{◌++◌, codes, decimal}
use Rattle.mvs_model.specs.Name.{trimmed}
use Rattle.explanation.specs.FactTexts.{cells_text, place_text}
use Rattle.line_text.proofs.Appending.{trailing}
use Rattle.explanation.proofs.fact_lines.push_part.Goals as goal

pub returns-clause-text : goal.returns-clause-text
returns-clause-text c = (trailing c.args.text.now c.push_place.new.text c.push_str-5.new.self (codes "Pool " ++ trimmed c.args.pool.now ++ codes " has a new part for " ++ cells_text c.args.cells ++ codes " of " ++ decimal c.args.size ++ codes " bytes: " ++ place_text c.args.place) (codes ". (rule 57)") (trailing c.args.text.now c.push_str-4.new.self c.push_place.new.text (codes "Pool " ++ trimmed c.args.pool.now ++ codes " has a new part for " ++ cells_text c.args.cells ++ codes " of " ++ decimal c.args.size ++ codes " bytes: ") (place_text c.args.place) (trailing c.args.text.now c.push_decimal.new.self c.push_str-4.new.self (codes "Pool " ++ trimmed c.args.pool.now ++ codes " has a new part for " ++ cells_text c.args.cells ++ codes " of " ++ decimal c.args.size) (codes " bytes: ") (trailing c.args.text.now c.push_str-3.new.self c.push_decimal.new.self (codes "Pool " ++ trimmed c.args.pool.now ++ codes " has a new part for " ++ cells_text c.args.cells ++ codes " of ") (decimal c.args.size) (trailing c.args.text.now c.push_cells.new.text c.push_str-3.new.self (codes "Pool " ++ trimmed c.args.pool.now ++ codes " has a new part for " ++ cells_text c.args.cells) (codes " of ") (trailing c.args.text.now c.push_str-2.new.self c.push_cells.new.text (codes "Pool " ++ trimmed c.args.pool.now ++ codes " has a new part for ") (cells_text c.args.cells) (trailing c.args.text.now c.push_name.new.self c.push_str-2.new.self (codes "Pool " ++ trimmed c.args.pool.now) (codes " has a new part for ") (trailing c.args.text.now c.push_str.new.self c.push_name.new.self (codes "Pool ") (trimmed c.args.pool.now) c.push_str.ensures.text c.push_name.ensures.text) c.push_str-2.ensures.text) c.push_cells.ensures.text) c.push_str-3.ensures.text) c.push_decimal.ensures.text) c.push_str-4.ensures.text) c.push_place.ensures.text) c.push_str-5.ensures.text)
