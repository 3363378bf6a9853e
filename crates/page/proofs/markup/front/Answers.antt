use Rattle.std.proofs.Common.{sym, arith}
use Rattle.std.proofs.lemmas.List.{length-take-le, take_all}
use Rattle.page.proofs.markup.front.Goals as goal

pub slice_bounds-result-end : goal.slice_bounds-result-end
slice_bounds-result-end c = sym (length-take-le 255 c.args.line.now (omega (arith, c.if-line-gt-MOST_LINE_BYTES.true)))

pub returns-else-line-gt-MOST_LINE_BYTES : goal.returns-else-line-gt-MOST_LINE_BYTES
returns-else-line-gt-MOST_LINE_BYTES c = sym (take_all 255 c.args.line.now (omega (arith, c.if-line-gt-MOST_LINE_BYTES.false)))
