use Rattle.std.proofs.Common.{Ok, ap}
use Rattle.mvs_job.specs.Consuming.{WritesText}
use Rattle.mvs_job.specs.Streams.{StopsText}
use Rattle.mvs_job.proofs.Forgetting.{ended_text, given_up_text}
use Rattle.mvs_job.proofs.Printed.{err_so, ok_so}
use Rattle.mvsjob.proofs.Streaming.{written_by, written_part}
use Rattle.mvsjob.proofs.streamed.stream_to.Goals as goal

pub returns-clause-ok : goal.returns-clause-ok
returns-clause-ok g c =
    written_by (g.R.Read.remaining c.new-reader.result.inner.inner) (g.R.Read.remaining c.args.reader.inner) (g.R.Read.remaining c.run_source-ended.new.reader.inner.inner)
    (g.W.Write.contents c.args.writer.now.inner) (g.W.Write.contents c.run_source-ended.new.writer.inner)
    (ap (λ k. g.R.Read.remaining k.inner) c.new-reader.ensures.inner) (λ outcome script written. WritesText g.C.Consumer.piece script written (Ok outcome)) c.run_source-ended.result
    (ok_so c.run_source-ended.result _ _ c.run_source-ended.ensures.ok (λ o h. ended_text g.C.Consumer.piece _ _ _ _ _ _ o h))

pub returns-clause-fault : goal.returns-clause-fault
returns-clause-fault g c =
    written_part (g.R.Read.remaining c.new-reader.result.inner.inner) (g.R.Read.remaining c.args.reader.inner) (g.R.Read.remaining c.run_source-ended.new.reader.inner.inner)
    (g.W.Write.contents c.args.writer.now.inner) (g.W.Write.contents c.run_source-ended.new.writer.inner)
    (ap (λ k. g.R.Read.remaining k.inner) c.new-reader.ensures.inner) (λ fault consumed script written. StopsText g.C.Consumer.piece consumed script written fault) c.run_source-ended.result
    (err_so c.run_source-ended.result _ _ c.run_source-ended.ensures.fault (λ fault h. given_up_text g.C.Consumer.piece _ _ _ _ _ _ fault h))
