-- The pieces are in this order.
use Rattle.std.proofs.Common.{◌++◌, ◌∙◌, ℕ, ap, codes, if◌then◌else◌}
use Rattle.mvs_c.specs.Asks.{gifts_value, name_text}
use Rattle.mvs_c.specs.Statements.{set_text}
use Rattle.mvs_c.proofs.Pieces.{trailing, after_two}
use Rattle.mvs_c.proofs.statement.push_attach.Goals as goal

pub returns : goal.returns
returns c =
    after_two c.args.text.now c.push_set-2.new.text c.push_residence.new.text
    (codes "ATTACH TASK=" ++ name_text c.args.ask.now.name ++ set_text (codes ",GSPL=") (gifts_value c.args.ask.now).given ++ set_text (codes ",SHSPL=") (gifts_value c.args.ask.now).shared)
    (if c.args.ask.now.keeps_zero then codes ",SZERO=NO" else codes ",SZERO=YES") (if c.args.ask.now.above then codes ",RES=ABOVE" else codes ",RES=BELOW")
    (trailing c.args.text.now c.push_set.new.text c.push_set-2.new.text
    (codes "ATTACH TASK=" ++ name_text c.args.ask.now.name ++ set_text (codes ",GSPL=") (gifts_value c.args.ask.now).given) (set_text (codes ",SHSPL=") (gifts_value c.args.ask.now).shared)
    (trailing c.args.text.now c.push_name.new.text c.push_set.new.text
    (codes "ATTACH TASK=" ++ name_text c.args.ask.now.name) (set_text (codes ",GSPL=") (gifts_value c.args.ask.now).given)
    (trailing c.args.text.now c.push_str.new.self c.push_name.new.text (codes "ATTACH TASK=") (name_text c.args.ask.now.name) c.push_str.ensures.text c.push_name.ensures.text)
    (c.if-not-push_set.ensures.text ∙ ap (λ (n : ℕ). c.push_name.new.text ++ set_text (codes ",GSPL=") n) c.set_of.ensures))
    (c.if-not-push_set-2.ensures.text ∙ ap (λ (n : ℕ). c.push_set.new.text ++ set_text (codes ",SHSPL=") n) c.set_of-2.ensures))
    c.push_residence.ensures
