use Rattle.judge.proofs.Begun.{one_begun}
use Rattle.judge.proofs.openings.begins_with.Goals as goal

pub returns : goal.returns
returns c = one_begun c.args.continued.now.line_number c.args.continued.now.task c.args.continued.now.text.now c.args.front.now _ c.in_ok-is_begun.ensures
