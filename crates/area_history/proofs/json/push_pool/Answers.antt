use Rattle.std.proofs.Common.{◌≡◌, ◌++◌, ◌∙◌, ap, codes, decimal}
use Rattle.mvs_model.specs.Name.{trimmed}
use Rattle.area_history.specs.Pools.{pool_bytes}
use Rattle.area_history.specs.JsonReports.{capped, origin_members, subpool_members}
use Rattle.line_text.proofs.Appending.{trailing}
use Rattle.area_history.proofs.json.push_pool.Goals as goal

pub returns-clause-text : goal.returns-clause-text
returns-clause-text c = (trailing c.args.text.now c.push_origin.new.text c.push_str-4.new.self (codes "{\"event\":\"pool_left\",\"name\":\"" ++ trimmed c.args.pool.now.built.pool ++ codes "\",\"bytes\":" ++ capped (pool_bytes c.args.pool.now) ++ codes ",\"parts\":" ++ decimal c.args.pool.now.parts ++ subpool_members c.args.pool.now.built.subpool c.args.pool.now.built.owner ++ origin_members c.args.pool.now.built.task c.args.pool.now.built.line) (codes "}\n") (trailing c.args.text.now c.push_subpool.new.text c.push_origin.new.text (codes "{\"event\":\"pool_left\",\"name\":\"" ++ trimmed c.args.pool.now.built.pool ++ codes "\",\"bytes\":" ++ capped (pool_bytes c.args.pool.now) ++ codes ",\"parts\":" ++ decimal c.args.pool.now.parts ++ subpool_members c.args.pool.now.built.subpool c.args.pool.now.built.owner) (origin_members c.args.pool.now.built.task c.args.pool.now.built.line) (trailing c.args.text.now c.push_decimal.new.self c.push_subpool.new.text (codes "{\"event\":\"pool_left\",\"name\":\"" ++ trimmed c.args.pool.now.built.pool ++ codes "\",\"bytes\":" ++ capped (pool_bytes c.args.pool.now) ++ codes ",\"parts\":" ++ decimal c.args.pool.now.parts) (subpool_members c.args.pool.now.built.subpool c.args.pool.now.built.owner) (trailing c.args.text.now c.push_str-3.new.self c.push_decimal.new.self (codes "{\"event\":\"pool_left\",\"name\":\"" ++ trimmed c.args.pool.now.built.pool ++ codes "\",\"bytes\":" ++ capped (pool_bytes c.args.pool.now) ++ codes ",\"parts\":") (decimal c.args.pool.now.parts) (trailing c.args.text.now c.push_capped.new.text c.push_str-3.new.self (codes "{\"event\":\"pool_left\",\"name\":\"" ++ trimmed c.args.pool.now.built.pool ++ codes "\",\"bytes\":" ++ capped (pool_bytes c.args.pool.now)) (codes ",\"parts\":") (trailing c.args.text.now c.push_str-2.new.self c.push_capped.new.text (codes "{\"event\":\"pool_left\",\"name\":\"" ++ trimmed c.args.pool.now.built.pool ++ codes "\",\"bytes\":") (capped (pool_bytes c.args.pool.now)) (trailing c.args.text.now c.push_name.new.self c.push_str-2.new.self (codes "{\"event\":\"pool_left\",\"name\":\"" ++ trimmed c.args.pool.now.built.pool) (codes "\",\"bytes\":") (trailing c.args.text.now c.push_str.new.self c.push_name.new.self (codes "{\"event\":\"pool_left\",\"name\":\"") (trimmed c.args.pool.now.built.pool) (c.push_str.ensures.text) (c.push_name.ensures.text)) (c.push_str-2.ensures.text)) (c.push_capped.ensures.text ∙ ap (λ n. c.push_str-2.new.self ++ capped n) c.bytes.ensures)) (c.push_str-3.ensures.text)) (c.push_decimal.ensures.text)) (c.push_subpool.ensures.text)) (c.push_origin.ensures.text)) (c.push_str-4.ensures.text))
