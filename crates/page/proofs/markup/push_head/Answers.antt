use Rattle.std.proofs.Common.{◌++◌, codes, decimal, ap, ◌∙◌}
use Rattle.page.specs.Markup.{article_tag, escaped, shown_line}
use Rattle.line_text.proofs.Appending.{trailing}
use Rattle.page.proofs.markup.push_head.Goals as goal

pub returns : goal.returns
returns c =
    trailing c.args.item.now.items c.push_article_tag.new.item.items c.push_tag-3.new.item.items (article_tag c.args.number c.args.how.now) (codes "\n<h2>" ++ (escaped (decimal c.args.number) ++ (codes " <code>" ++ (shown_line c.args.line.now ++ (codes "</code></h2>\n"))))) c.in_ok-push_article_tag.ensures
    (trailing c.push_article_tag.new.item.items c.push_tag.new.item.items c.push_tag-3.new.item.items (codes "\n<h2>") (escaped (decimal c.args.number) ++ (codes " <code>" ++ (shown_line c.args.line.now ++ (codes "</code></h2>\n")))) c.in_ok-push_tag.ensures
    (trailing c.push_tag.new.item.items c.push_number.new.item.items c.push_tag-3.new.item.items (escaped (decimal c.args.number)) (codes " <code>" ++ (shown_line c.args.line.now ++ (codes "</code></h2>\n"))) c.in_ok-push_number.ensures
    (trailing c.push_number.new.item.items c.push_tag-2.new.item.items c.push_tag-3.new.item.items (codes " <code>") (shown_line c.args.line.now ++ (codes "</code></h2>\n")) c.in_ok-push_tag-2.ensures
    (trailing c.push_tag-2.new.item.items c.push_escaped.new.item.items c.push_tag-3.new.item.items (shown_line c.args.line.now) (codes "</code></h2>\n") (c.in_ok-push_escaped.ensures ∙ ap (λ x. c.push_tag-2.new.item.items ++ escaped x) c.front.ensures)
    (c.in_ok-push_tag-3.ensures)))))
