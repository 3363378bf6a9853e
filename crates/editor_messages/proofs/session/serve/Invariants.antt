use Rattle.editor_messages.specs.Serving.{IsRunning}
use Rattle.editor_messages.proofs.session.serve.Given as goal

abbrev pub invariant-steps : goal.invariant-steps
invariant-steps g l =
    IsRunning g.A.Answers.may_answer g.A.Answers.may_lack g.A.Answers.may_notice g.R.Read.remaining g.W.Write.contents l.fn.reader l.fn.writer l.reader l.writer l.fn.answers l._step l.input l.server
