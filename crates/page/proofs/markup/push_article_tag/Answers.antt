use Rattle.std.proofs.Common.{◌++◌, codes, decimal}
use Rattle.page.specs.Markup.{escaped}
use Rattle.line_text.proofs.Appending.{trailing}
use Rattle.page.proofs.markup.push_article_tag.Goals as goal

pub returns : goal.returns
returns c =
    trailing c.args.item.now.items c.push_tag.new.item.items c.push_tag-4.new.item.items (codes "<article id=\"l") (escaped (decimal c.args.number) ++ (codes "\" class=\"" ++ (c.args.how.now ++ (codes "\">")))) c.in_ok-push_tag.ensures
    (trailing c.push_tag.new.item.items c.push_number.new.item.items c.push_tag-4.new.item.items (escaped (decimal c.args.number)) (codes "\" class=\"" ++ (c.args.how.now ++ (codes "\">"))) c.in_ok-push_number.ensures
    (trailing c.push_number.new.item.items c.push_tag-2.new.item.items c.push_tag-4.new.item.items (codes "\" class=\"") (c.args.how.now ++ (codes "\">")) c.in_ok-push_tag-2.ensures
    (trailing c.push_tag-2.new.item.items c.push_tag-3.new.item.items c.push_tag-4.new.item.items (c.args.how.now) (codes "\">") c.in_ok-push_tag-3.ensures
    (c.in_ok-push_tag-4.ensures))))
