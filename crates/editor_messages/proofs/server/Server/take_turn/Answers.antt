use Rattle.std.proofs.Common.{[], length, subst, sym}
use Rattle.std.proofs.KnownBytes.{Appends-nil}
use Rattle.editor_messages.specs.Frames.{IsWithin}
use Rattle.editor_messages.specs.declared.server.Turn.TheVariants as variant
use Rattle.editor_messages.proofs.Running.{mapped_ok, sends, turn_of}
use Rattle.editor_messages.proofs.server.Server.take_turn.Goals as goal

pub turn-requires : goal.turn-requires
turn-requires g c = subst (λ l. IsWithin c.args.frame (length l)) (sym c.rest.ensures) c.requires.within

pub returns-in-Sent : goal.returns-in-Sent
returns-in-Sent g c =
    let turn = mapped_ok c.turn.result c.map_err.result _ _ c.in_ok-sent.field-0 c.turn.ensures c.map_err.ensures.cases c.in_ok-sent.was in
    sends g.A.Answers.may_answer g.A.Answers.may_lack g.A.Answers.may_notice g.W.Write.contents c.args.writer.now c.send.new.writer c.args.input.now c.send.new.input c.args.self.now c.turn.new.self c.args.frame c.in-Sent.sent.items c.deref.result.now c.send.result c.requires.frame c.deref.ensures.value
    (turn_of g.A.Answers.may_answer g.A.Answers.may_lack g.A.Answers.may_notice c.args.frame c.rest.result.now c.args.input.now.rest c.args.self.now c.turn.new.self c.in_ok-sent.field-0 (variant.Sent c.in-Sent.sent) c.requires.frame c.rest.ensures c.in-Sent.is turn)
    c.send.ensures

pub returns-in-Exit : goal.returns-in-Exit
returns-in-Exit g c =
    let turn = mapped_ok c.turn.result c.map_err.result _ _ c.in_ok-sent.field-0 c.turn.ensures c.map_err.ensures.cases c.in_ok-sent.was in (
      (c.turn.new.self, turn_of g.A.Answers.may_answer g.A.Answers.may_lack g.A.Answers.may_notice c.args.frame c.rest.result.now c.args.input.now.rest c.args.self.now c.turn.new.self c.in_ok-sent.field-0 (variant.Exit c.in-Exit.status) c.requires.frame c.rest.ensures c.in-Exit.is turn),
      Appends-nil (g.W.Write.contents c.args.writer.now.inner),
    )
