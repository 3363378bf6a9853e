-- The pieces are in this order.
use Rattle.std.proofs.Common.{◌++◌, ◌∙◌, ap, codes, decimal}
use Rattle.mvs_model.specs.Spelling.{absolute_text}
use Rattle.mvs_c.specs.Asks.{form_value}
use Rattle.mvs_c.specs.Statements.{area_key, cond_text, free_text, length_key}
use Rattle.mvs_c.proofs.Pieces.{trailing, after_two}
use Rattle.mvs_c.proofs.statement.push_release.Goals as goal

pub returns-clause-text : goal.returns-clause-text
returns-clause-text c =
    trailing c.args.text.now c.push_number-2.new.text c.push_str-3.new.self (free_text (form_value c.args.ask.now.form) ++ length_key (form_value c.args.ask.now.form) ++ decimal c.args.ask.now.length ++ area_key (form_value c.args.ask.now.form) ++ absolute_text c.args.ask.now.address ++ codes ",SP=" ++ decimal c.args.ask.now.subpool) (cond_text (form_value c.args.ask.now.form)) (after_two c.args.text.now c.push_address.new.text c.push_number-2.new.text (free_text (form_value c.args.ask.now.form) ++ length_key (form_value c.args.ask.now.form) ++ decimal c.args.ask.now.length ++ area_key (form_value c.args.ask.now.form) ++ absolute_text c.args.ask.now.address) (codes ",SP=") (decimal c.args.ask.now.subpool) (trailing c.args.text.now c.push_str-2.new.self c.push_address.new.text (free_text (form_value c.args.ask.now.form) ++ length_key (form_value c.args.ask.now.form) ++ decimal c.args.ask.now.length ++ area_key (form_value c.args.ask.now.form)) (absolute_text c.args.ask.now.address) (trailing c.args.text.now c.push_number.new.text c.push_str-2.new.self (free_text (form_value c.args.ask.now.form) ++ length_key (form_value c.args.ask.now.form) ++ decimal c.args.ask.now.length) (area_key (form_value c.args.ask.now.form)) (after_two c.args.text.now c.push_str.new.self c.push_number.new.text (free_text (form_value c.args.ask.now.form)) (length_key (form_value c.args.ask.now.form)) (decimal c.args.ask.now.length) (c.push_str.ensures.text ∙ ap (λ t. c.args.text.now ++ t) (c.free_text.ensures.text ∙ ap free_text c.form_value-form.ensures)) (c.push_number.ensures.text ∙ ap (λ t. c.push_str.new.self ++ t ++ decimal c.args.ask.now.length) (c.length_key.ensures.text ∙ ap length_key c.form_value-form.ensures))) (c.push_str-2.ensures.text ∙ ap (λ t. c.push_number.new.text ++ t) (c.area_key.ensures.text ∙ ap area_key c.form_value-form.ensures))) c.push_address.ensures.text) c.push_number-2.ensures.text) (c.push_str-3.ensures.text ∙ ap (λ t. c.push_number-2.new.text ++ t) (c.cond_text.ensures.text ∙ ap cond_text c.form_value-form.ensures))
