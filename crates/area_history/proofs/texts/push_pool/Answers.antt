use Rattle.std.proofs.Common.{◌≡◌, ◌++◌, ◌∙◌, ap, codes, decimal}
use Rattle.mvs_model.specs.Name.{trimmed}
use Rattle.explanation.specs.FactTexts.{subpool_words}
use Rattle.area_history.specs.Pools.{pool_bytes}
use Rattle.area_history.specs.LeakTexts.{built_text, number_text, parts_text}
use Rattle.line_text.proofs.Appending.{trailing}
use Rattle.area_history.proofs.texts.push_pool.Goals as goal

pub returns-clause-text : goal.returns-clause-text
returns-clause-text c = (trailing c.args.text.now c.push_subpool.new.text c.push_built.new.text (codes "Pool " ++ trimmed c.args.pool.now.built.pool ++ codes ": " ++ number_text (pool_bytes c.args.pool.now) ++ codes " bytes in " ++ parts_text c.args.pool.now.parts ++ codes " in " ++ subpool_words c.args.pool.now.built.subpool c.args.pool.now.built.owner) (built_text c.args.pool.now) (trailing c.args.text.now c.push_str-4.new.self c.push_subpool.new.text (codes "Pool " ++ trimmed c.args.pool.now.built.pool ++ codes ": " ++ number_text (pool_bytes c.args.pool.now) ++ codes " bytes in " ++ parts_text c.args.pool.now.parts ++ codes " in ") (subpool_words c.args.pool.now.built.subpool c.args.pool.now.built.owner) (trailing c.args.text.now c.push_parts.new.text c.push_str-4.new.self (codes "Pool " ++ trimmed c.args.pool.now.built.pool ++ codes ": " ++ number_text (pool_bytes c.args.pool.now) ++ codes " bytes in " ++ parts_text c.args.pool.now.parts) (codes " in ") (trailing c.args.text.now c.push_str-3.new.self c.push_parts.new.text (codes "Pool " ++ trimmed c.args.pool.now.built.pool ++ codes ": " ++ number_text (pool_bytes c.args.pool.now) ++ codes " bytes in ") (parts_text c.args.pool.now.parts) (trailing c.args.text.now c.push_number.new.text c.push_str-3.new.self (codes "Pool " ++ trimmed c.args.pool.now.built.pool ++ codes ": " ++ number_text (pool_bytes c.args.pool.now)) (codes " bytes in ") (trailing c.args.text.now c.push_str-2.new.self c.push_number.new.text (codes "Pool " ++ trimmed c.args.pool.now.built.pool ++ codes ": ") (number_text (pool_bytes c.args.pool.now)) (trailing c.args.text.now c.push_name.new.self c.push_str-2.new.self (codes "Pool " ++ trimmed c.args.pool.now.built.pool) (codes ": ") (trailing c.args.text.now c.push_str.new.self c.push_name.new.self (codes "Pool ") (trimmed c.args.pool.now.built.pool) (c.push_str.ensures.text) (c.push_name.ensures.text)) (c.push_str-2.ensures.text)) (c.push_number.ensures.text ∙ ap (λ n. c.push_str-2.new.self ++ number_text n) c.bytes.ensures)) (c.push_str-3.ensures.text)) (c.push_parts.ensures.text)) (c.push_str-4.ensures.text)) (c.push_subpool.ensures.text)) (c.push_built.ensures.text))
