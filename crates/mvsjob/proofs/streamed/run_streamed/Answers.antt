use Rattle.std.proofs.Common.{ap}
use Rattle.mvsjob.proofs.Streaming.{written_answers, written_ok, written_front, written_before}
use Rattle.mvsjob.proofs.streamed.run_streamed.Goals as goal

pub returns-clause-ok : goal.returns-clause-ok
returns-clause-ok g c =
    written_ok (g.R.Read.remaining c.new-reader.result.inner.inner) (g.R.Read.remaining c.args.reader.inner) (g.R.Read.remaining c.run_job-ended.new.reader.inner.inner)
    (g.W.Write.contents c.args.writer.now.inner) (g.W.Write.contents c.run_job-ended.new.writer.inner)
    (ap (λ k. g.R.Read.remaining k.inner) c.new-reader.ensures.inner) c.run_job-ended.result c.run_job-ended.ensures.ok

pub returns-clause-fault : goal.returns-clause-fault
returns-clause-fault g c =
    written_front (g.R.Read.remaining c.new-reader.result.inner.inner) (g.R.Read.remaining c.args.reader.inner) (g.R.Read.remaining c.run_job-ended.new.reader.inner.inner)
    (g.W.Write.contents c.args.writer.now.inner) (g.W.Write.contents c.run_job-ended.new.writer.inner)
    (ap (λ k. g.R.Read.remaining k.inner) c.new-reader.ensures.inner) c.run_job-ended.result c.run_job-ended.ensures.fault

pub returns-clause-memory : goal.returns-clause-memory
returns-clause-memory g c =
    written_before (g.R.Read.remaining c.new-reader.result.inner.inner) (g.R.Read.remaining c.args.reader.inner) (g.R.Read.remaining c.run_job-ended.new.reader.inner.inner)
    (g.W.Write.contents c.args.writer.now.inner) (g.W.Write.contents c.run_job-ended.new.writer.inner)
    (ap (λ k. g.R.Read.remaining k.inner) c.new-reader.ensures.inner) c.run_job-ended.result c.run_job-ended.ensures.memory

pub returns-clause-answered : goal.returns-clause-answered
returns-clause-answered g c =
    written_answers (g.R.Read.remaining c.new-reader.result.inner.inner) (g.R.Read.remaining c.args.reader.inner) (g.R.Read.remaining c.run_job-ended.new.reader.inner.inner)
    (g.W.Write.contents c.args.writer.now.inner) (g.W.Write.contents c.run_job-ended.new.writer.inner)
    (ap (λ k. g.R.Read.remaining k.inner) c.new-reader.ensures.inner) c.run_job-ended.result c.run_job-ended.ensures.answered
