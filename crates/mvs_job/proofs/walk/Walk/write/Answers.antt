use Rattle.mvs_job.proofs.Valuing.{wrote, not_wrote}
use Rattle.mvs_job.proofs.walk.Walk.write.Goals.{in-Some, in-None}
use Rattle.mvs_job.proofs.walk.Walk.write.Goals as goal

pub returns : goal.returns
returns c = rw (← c.self.view_is) (elim c.match-self.branch [
  | in-Some w ↦ rw (w.result-is, w.self-inside-is) (wrote c.self.inside.job c.self.inside.number c.self.inside.read c.self.inside.request c.self.inside.reply c.args.place c.args.bytes.now w.write.result w.in-Some.job w.write.new.self w.in-Some.is w.write.ensures)
  | in-None w ↦ rw (w.result-is, w.self-inside-is) (not_wrote c.self.inside.job c.self.inside.number c.self.inside.read c.self.inside.request c.self.inside.reply c.args.place c.args.bytes.now w.in-None.is)
])
