use Rattle.editor_messages.specs.Messages.{json_of}
use Rattle.editor_messages.specs.Serving.{HasCancellation}
use Rattle.editor_messages.proofs.cancelled.is_cancelled.Given as goal

abbrev pub invariant-loop : goal.invariant-loop
invariant-loop l = HasCancellation (json_of l.id) l.rest → HasCancellation (json_of l.id) l.arrived
