use Rattle.std.proofs.Common.{◌≡◌, subst, sym}
use Rattle.editor_messages.specs.declared.frames.Frame.TheVariants as frame
use Rattle.editor_messages.specs.Frames.{frame_of}
use Rattle.editor_messages.proofs.Running.{after_read, after_turn}
use Rattle.editor_messages.proofs.server.Server.step.Goals as goal

pub returns-in-Incomplete : goal.returns-in-Incomplete
returns-in-Incomplete g c = λ begun steps first first_writer running.
    after_read g.A.Answers.may_answer g.A.Answers.may_lack g.A.Answers.may_notice g.R.Read.remaining g.W.Write.contents first first_writer begun c.args.reader.now c.read.new.reader c.args.writer.now steps c.args.input.now c.read.new.input c.args.self.now c.status.result c.read.result
    (subst (λ l. frame_of l ≡ frame.Incomplete) c.rest.ensures (sym c.in-Incomplete.ensures.exact)) c.status.ensures c.read.ensures running

pub returns-in_default : goal.returns-in_default
returns-in_default g c = λ begun steps first first_writer running.
    after_turn g.A.Answers.may_answer g.A.Answers.may_lack g.A.Answers.may_notice g.R.Read.remaining g.W.Write.contents first first_writer begun c.args.reader.now c.args.writer.now c.take_turn.new.writer steps c.args.input.now c.take_turn.new.input c.args.self.now c.take_turn.new.self c.take_turn.result
    c.take_turn.ensures running
