use Rattle.std.proofs.Common.{arith}
use Rattle.editor_messages.proofs.Running.{not_yet, ran_out}
use Rattle.editor_messages.proofs.session.serve.Goals as goal

pub steps-init : goal.steps-init
steps-init g c =
    not_yet g.A.Answers.may_answer g.A.Answers.may_lack g.A.Answers.may_notice g.R.Read.remaining g.W.Write.contents c.args.reader.now c.args.writer.now c.args.answers c.new-input.result c.new-server.result
    c.new-input.ensures.rest c.new-input.ensures.skipped c.new-server.ensures.phase c.new-server.ensures.answers

pub returns : goal.returns
returns g c =
    ran_out g.A.Answers.may_answer g.A.Answers.may_lack g.A.Answers.may_notice g.R.Read.remaining g.W.Write.contents c.args.reader.now c.args.writer.now c.args.answers c.steps.reader c.steps.writer c.steps._step c.steps.input c.steps.server
    (omega arith) c.steps.invariant
