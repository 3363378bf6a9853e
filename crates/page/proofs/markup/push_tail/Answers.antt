use Rattle.std.proofs.Common.{◌++◌, codes}
use Rattle.page.specs.Markup.{escaped, words_of}
use Rattle.line_text.proofs.Appending.{trailing}
use Rattle.page.proofs.markup.push_tail.Goals as goal

pub returns : goal.returns
returns c =
    trailing c.args.item.now.items c.push_tag.new.item.items c.push_tag-3.new.item.items (codes "<p>") (words_of c.args.explanation.now ++ (codes "</p>\n<pre class=\"d\">" ++ (escaped c.args.changes.now ++ (codes "</pre>\n</article>\n")))) c.in_ok-push_tag.ensures
    (trailing c.push_tag.new.item.items c.push_words.new.item.items c.push_tag-3.new.item.items (words_of c.args.explanation.now) (codes "</p>\n<pre class=\"d\">" ++ (escaped c.args.changes.now ++ (codes "</pre>\n</article>\n"))) c.in_ok-push_words.ensures
    (trailing c.push_words.new.item.items c.push_tag-2.new.item.items c.push_tag-3.new.item.items (codes "</p>\n<pre class=\"d\">") (escaped c.args.changes.now ++ (codes "</pre>\n</article>\n")) c.in_ok-push_tag-2.ensures
    (trailing c.push_tag-2.new.item.items c.push_escaped.new.item.items c.push_tag-3.new.item.items (escaped c.args.changes.now) (codes "</pre>\n</article>\n") c.in_ok-push_escaped.ensures
    (c.in_ok-push_tag-3.ensures))))
