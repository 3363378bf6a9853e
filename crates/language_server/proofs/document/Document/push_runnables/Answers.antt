use Rattle.std.proofs.Common.{rules, ◌<◌, ◌+◌, ◌∙◌}
use Rattle.language_server.proofs.Hovering.{runnable_more}
use Rattle.language_server.proofs.document.Document.push_runnables.Goals as goal

pub loop-line-preserved : goal.loop-line-preserved
loop-line-preserved c =
    let less : c.loop-line.line < c.args.last + 1 = search rules in
    runnable_more c.args.self.now c.loop-line.script.items c.push_runnable.new.script.items c.loop-line.line (c.args.last + 1) less c.in_ok-push_runnable.ensures ∙ c.loop-line.invariant
