use Rattle.std.proofs.Common.{arith, ◌∙◌}
use Rattle.language_server.proofs.Naming.{operands_more}
use Rattle.language_server.proofs.names.Statement.add_field.Goals as goal

pub operands-preserved : goal.operands-preserved
operands-preserved c =
    let parts = rw c.in-Some.is at c.split_operand.ensures.parts in
    let whole = rw c.in-Some.is at c.split_operand.ensures.whole in
    let room = c.operands.invariant.room in
    record {
      names = operands_more c.args.self.now c.operands.place c.operands.rest.now c.split_operand.result.0.now c.in-Some.next.now c.operands.found.items c.add_operand.new.found.items c.in_ok-add_operand.ensures parts ∙ c.operands.invariant.names;
      room = omega (arith, whole, room);
    }
