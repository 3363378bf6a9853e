use Rattle.std.proofs.Common.{Ok, ap}
use Rattle.mvs_job.proofs.Printed.{ok_so}
use Rattle.page.specs.Pages.{IsPage, IsShown, StopsPage}
use Rattle.mvsjob.proofs.Streaming.{written_by, written_part, written_whole}
use Rattle.mvsjob.proofs.streamed.stream_page.Goals as goal

pub returns-clause-page : goal.returns-clause-page
returns-clause-page g c =
    written_by (g.R.Read.remaining c.new-reader.result.inner.inner) (g.R.Read.remaining c.args.reader.inner) (g.R.Read.remaining c.write_page_from-ended.new.reader.inner.inner)
    (g.W.Write.contents c.args.writer.now.inner) (g.W.Write.contents c.write_page_from-ended.new.writer.inner)
    (ap (λ k. g.R.Read.remaining k.inner) c.new-reader.ensures.inner) (λ outcome script text. IsPage c.args.frame.now script text (Ok outcome)) c.write_page_from-ended.result c.write_page_from-ended.ensures.page

pub returns-clause-shown : goal.returns-clause-shown
returns-clause-shown g c =
    written_whole (g.R.Read.remaining c.new-reader.result.inner.inner) (g.R.Read.remaining c.args.reader.inner) (g.R.Read.remaining c.write_page_from-ended.new.reader.inner.inner)
    (g.W.Write.contents c.args.writer.now.inner) (g.W.Write.contents c.write_page_from-ended.new.writer.inner)
    (ap (λ k. g.R.Read.remaining k.inner) c.new-reader.ensures.inner) (λ outcome script text. IsShown c.args.frame.now script text outcome) c.write_page_from-ended.result c.write_page_from-ended.ensures.shown

pub returns-clause-fault : goal.returns-clause-fault
returns-clause-fault g c =
    written_part (g.R.Read.remaining c.new-reader.result.inner.inner) (g.R.Read.remaining c.args.reader.inner) (g.R.Read.remaining c.write_page_from-ended.new.reader.inner.inner)
    (g.W.Write.contents c.args.writer.now.inner) (g.W.Write.contents c.write_page_from-ended.new.writer.inner)
    (ap (λ k. g.R.Read.remaining k.inner) c.new-reader.ensures.inner) (λ fault consumed script text. StopsPage c.args.frame.now consumed script text fault) c.write_page_from-ended.result c.write_page_from-ended.ensures.fault
