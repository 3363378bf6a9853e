use Rattle.std.proofs.Common.{refl, subst, sym}
use Rattle.editor_messages.specs.Messages.{json_of}
use Rattle.editor_messages.specs.Serving.{HasCancellation, first, later}
use Rattle.editor_messages.proofs.cancelled.is_cancelled.Goals as goal

pub returns-then-cancels : goal.returns-then-cancels
returns-then-cancels c = λ same. c.loop.invariant (first c.in-Content.start c.in-Content.end (sym c.in-Content.ensures.exact) (c.if-cancels.ensures refl))

pub loop-preserved : goal.loop-preserved
loop-preserved c = λ found. c.loop.invariant (later c.in-Content.start c.in-Content.end (sym c.in-Content.ensures.exact) (subst (HasCancellation (json_of c.args.id.now)) c.after-rest.ensures found))
