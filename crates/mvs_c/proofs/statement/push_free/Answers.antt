-- The pieces are in this order.
use Rattle.std.proofs.Common.{◌++◌, codes}
use Rattle.mvs_model.specs.Spelling.{absolute_text}
use Rattle.mvs_c.specs.Asks.{name_text}
use Rattle.mvs_c.proofs.Pieces.{trailing}
use Rattle.mvs_c.proofs.statement.push_free.Goals as goal

pub returns-clause-text : goal.returns-clause-text
returns-clause-text c =
    trailing c.args.text.now c.push_str-2.new.self c.push_address.new.text (codes "CPOOL FREE,CPID=" ++ name_text c.args.ask.now.name ++ codes ",CELL=") (absolute_text c.args.ask.now.address) (trailing c.args.text.now c.push_name.new.text c.push_str-2.new.self (codes "CPOOL FREE,CPID=" ++ name_text c.args.ask.now.name) (codes ",CELL=") (trailing c.args.text.now c.push_str.new.self c.push_name.new.text (codes "CPOOL FREE,CPID=") (name_text c.args.ask.now.name) c.push_str.ensures.text c.push_name.ensures.text) c.push_str-2.ensures.text) c.push_address.ensures.text
