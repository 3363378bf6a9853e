use Rattle.std.proofs.Common.{◌∙◌, ap}
use Rattle.std.proofs.lemmas.List.{take_all}
use Rattle.mvs_model.specs.Lines.{ended_text}
use Rattle.shell.proofs.Lines.{written_line}
use Rattle.shell.proofs.script.SessionScript.text.Goals as goal

pub loop-line-init : goal.loop-line-init
loop-line-init c = c.new-text.ensures.items

pub loop-line-preserved : goal.loop-line-preserved
loop-line-preserved c =
    written_line c.deref-line-items.result.now c.loop-line.line-index c.line-item.result c.bytes.result.now c.line-item.is c.loop-line-test.true c.bytes.ensures c.loop-line.text.items c.extend_from_slice.new.self.items c.push.new.self.items c.loop-line.invariant
    c.in_ok-extend_from_slice.ensures.items c.in_ok-push.ensures.items

pub returns : goal.returns
returns c = c.loop-line.invariant ∙ ap ended_text (take_all c.loop-line.line-index c.deref-line-items.result.now c.loop-line-test.false ∙ c.deref-line-items.ensures.value ∙ c.self.view_is)
