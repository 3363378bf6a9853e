use Rattle.std.proofs.Common.{◌<◌, arith, ◌∙◌}
use Rattle.language_server.specs.Differences.{line_count}
use Rattle.language_server.proofs.Noting.{difference_more}
use Rattle.language_server.proofs.document.Document.push_each_difference.Goals as goal

pub loop-number-preserved : goal.loop-number-preserved
loop-number-preserved c =
    let less : c.loop-number.number < line_count c.args.self.now.text = (let t = c.loop-number-test.true in let e = c.line_count-number-end.ensures in omega (arith, t, e)) in
    difference_more c.args.self.now c.loop-number.notes.items c.push_difference.new.notes.items c.loop-number.number (line_count c.args.self.now.text) less c.in_ok-push_difference.ensures ∙ c.loop-number.invariant
