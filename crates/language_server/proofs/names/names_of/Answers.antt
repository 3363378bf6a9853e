use Rattle.std.proofs.Common.{arith, ◌∙◌}
use Rattle.language_server.proofs.Naming.{lines_more}
use Rattle.language_server.proofs.names.names_of.Goals as goal

pub lines-preserved : goal.lines-preserved
lines-preserved c =
    let lines = rw c.in-Some.is at c.split_line.ensures.lines in
    let whole = rw c.in-Some.is at c.split_line.ensures.whole in
    let room = c.lines.invariant.room in
    let steps = c.lines.invariant.steps in
    let numbers = c.lines.invariant.numbers in
    let more = c.step_after-step.ensures.more in
    record {
      names = lines_more c.lines.number c.lines.step c.step_after-step.result c.lines.place c.lines.rest.now c.split_line.result.0.now c.in-Some.next.now c.lines.found.items c.add_line.new.found.items c.step_after-step.ensures.step c.in_ok-add_line.ensures lines ∙ c.lines.invariant.names;
      room = omega (arith, whole, room);
      steps = omega (arith, steps, more);
      numbers = omega (arith, numbers);
    }
