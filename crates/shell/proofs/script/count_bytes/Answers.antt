use Rattle.std.proofs.Common.{◌≤◌, ◌+◌, ◌∙◌, ap, arith, length, refl, take}
use Rattle.std.proofs.lemmas.List.{take_all}
use Rattle.mvs_model.specs.Lines.{ended_text}
use Rattle.shell.proofs.Lines.{counted_line, first_ended}
use Rattle.shell.proofs.script.count_bytes.Goals as goal

pub loop-line-init : goal.loop-line-init
loop-line-init c = refl

pub overflow_add-bytes-in-loop-line : goal.overflow_add-bytes-in-loop-line
overflow_add-bytes-in-loop-line c =
    let a = counted_line c.args.lines.now c.loop-line.line-index c.line-item.result c.bytes.result.now c.line-item.is c.loop-line-test.true c.bytes.ensures c.loop-line.bytes c.loop-line.invariant in
    let b = first_ended (c.loop-line.line-index + 1) c.args.lines.now in
    let few : length (ended_text c.args.lines.now) ≤ 16777215 = c.requires in
    omega (arith, a, b, few)

pub loop-line-preserved : goal.loop-line-preserved
loop-line-preserved c = counted_line c.args.lines.now c.loop-line.line-index c.line-item.result c.bytes.result.now c.line-item.is c.loop-line-test.true c.bytes.ensures c.loop-line.bytes c.loop-line.invariant

pub returns : goal.returns
returns c = c.loop-line.invariant ∙ ap (λ x. length (ended_text x)) (take_all c.loop-line.line-index c.args.lines.now c.loop-line-test.false)
