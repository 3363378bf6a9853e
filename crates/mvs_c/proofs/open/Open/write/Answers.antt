use Rattle.std.proofs.Common.{sym, subst}
use Rattle.mvs_job.specs.LineEvents.{WalkValue}
use Rattle.mvs_job.specs.Valued.{WritesOf}
use Rattle.mvs_c.specs.Opens.{LastIsAvailable}
use Rattle.mvs_c.proofs.Unwritten.{unwritten}
use Rattle.mvs_c.proofs.open.Open.write.Goals as goal

-- what the session lends is as before where no bytes are written
pub invariant_of-self-else-written : goal.invariant_of-self-else-written
invariant_of-self-else-written c =
    let w = c.self.inside.session.walk in
    subst (λ (walk : WalkValue). LastIsAvailable walk c.self.inside.last) (sym (unwritten w.step w.number w.read w.request w.reply c.args.place c.args.bytes.now c.write-written.new.self.walk (subst (λ written. WritesOf w c.args.place c.args.bytes.now written c.write-written.new.self.walk) c.if-written.false c.write-written.ensures.written))) c.self.invariant
