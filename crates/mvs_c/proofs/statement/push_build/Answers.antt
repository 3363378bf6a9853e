-- The pieces are in this order.
use Rattle.std.proofs.Common.{◌++◌, ◌∙◌, ap, codes, decimal}
use Rattle.mvs_c.specs.Asks.{location_value, name_text, or_else}
use Rattle.mvs_c.specs.Statements.{loc_word}
use Rattle.mvs_c.proofs.Pieces.{trailing, after_two}
use Rattle.mvs_c.proofs.statement.push_build.Goals as goal

pub returns-clause-text : goal.returns-clause-text
returns-clause-text c =
    trailing c.args.text.now c.push_str-2.new.self c.push_str-3.new.self (codes "CPOOL BUILD,CPID=" ++ name_text c.args.ask.now.name ++ codes ",CSIZE=" ++ decimal c.args.ask.now.length ++ codes ",PCELLCT=" ++ decimal c.args.ask.now.primary ++ codes ",SCELLCT=" ++ decimal (or_else c.args.ask.now.secondary c.args.ask.now.primary) ++ codes ",SP=" ++ decimal c.args.ask.now.subpool ++ codes ",LOC=") (loc_word (location_value c.args.ask.now.location)) (trailing c.args.text.now c.push_number-4.new.text c.push_str-2.new.self (codes "CPOOL BUILD,CPID=" ++ name_text c.args.ask.now.name ++ codes ",CSIZE=" ++ decimal c.args.ask.now.length ++ codes ",PCELLCT=" ++ decimal c.args.ask.now.primary ++ codes ",SCELLCT=" ++ decimal (or_else c.args.ask.now.secondary c.args.ask.now.primary) ++ codes ",SP=" ++ decimal c.args.ask.now.subpool) (codes ",LOC=") (after_two c.args.text.now c.push_number-3.new.text c.push_number-4.new.text (codes "CPOOL BUILD,CPID=" ++ name_text c.args.ask.now.name ++ codes ",CSIZE=" ++ decimal c.args.ask.now.length ++ codes ",PCELLCT=" ++ decimal c.args.ask.now.primary ++ codes ",SCELLCT=" ++ decimal (or_else c.args.ask.now.secondary c.args.ask.now.primary)) (codes ",SP=") (decimal c.args.ask.now.subpool) (after_two c.args.text.now c.push_number-2.new.text c.push_number-3.new.text (codes "CPOOL BUILD,CPID=" ++ name_text c.args.ask.now.name ++ codes ",CSIZE=" ++ decimal c.args.ask.now.length ++ codes ",PCELLCT=" ++ decimal c.args.ask.now.primary) (codes ",SCELLCT=") (decimal (or_else c.args.ask.now.secondary c.args.ask.now.primary)) (after_two c.args.text.now c.push_number.new.text c.push_number-2.new.text (codes "CPOOL BUILD,CPID=" ++ name_text c.args.ask.now.name ++ codes ",CSIZE=" ++ decimal c.args.ask.now.length) (codes ",PCELLCT=") (decimal c.args.ask.now.primary) (after_two c.args.text.now c.push_name.new.text c.push_number.new.text (codes "CPOOL BUILD,CPID=" ++ name_text c.args.ask.now.name) (codes ",CSIZE=") (decimal c.args.ask.now.length) (trailing c.args.text.now c.push_str.new.self c.push_name.new.text (codes "CPOOL BUILD,CPID=") (name_text c.args.ask.now.name) c.push_str.ensures.text c.push_name.ensures.text) c.push_number.ensures.text) c.push_number-2.ensures.text) (c.push_number-3.ensures.text ∙ ap (λ n. c.push_number-2.new.text ++ codes ",SCELLCT=" ++ decimal n) c.or_else.ensures)) c.push_number-4.ensures.text) c.push_str-2.ensures.text) (c.push_str-3.ensures.text ∙ ap (λ t. c.push_str-2.new.self ++ t) (c.loc_word.ensures.text ∙ ap loc_word c.location_or_res.ensures))
