use Rattle.std.proofs.Common.{Err, Ok, subst}
use Rattle.mvs_job.proofs.Printed.{err_so, ok_so}
use Rattle.mvsjob.specs.Streaming.{WritesPageOf}
use Rattle.mvsjob.proofs.Streaming.{page_of}
use Rattle.mvsjob.proofs.streamed.stream_two_pages.Goals as goal

pub returns-then-is_err-clause-fault : goal.returns-then-is_err-clause-fault
returns-then-is_err-clause-fault g c =
    let before = g.W.Write.contents c.args.writer.now.inner in
    let mid = g.W.Write.contents c.stream_page-first.new.writer.inner in
    err_so c.stream_page-first.result.ended _ _ c.stream_page-first.ensures.fault (λ fault h. subst (λ f. WritesPageOf (g.R.Read.remaining c.args.first.inner) before mid f (Err fault)) c.as_bytes.ensures.value h)

pub returns-clause-pages : goal.returns-clause-pages
returns-clause-pages g c =
    let before = g.W.Write.contents c.args.writer.now.inner in
    let mid = g.W.Write.contents c.stream_page-first.new.writer.inner in
    let after = g.W.Write.contents c.stream_page-second.new.writer.inner in
    let run = c.stream_page-second.result in
    let second = subst (λ f. WritesPageOf (g.S.Read.remaining c.args.second.inner) mid after f run.ended) c.as_bytes-2.ensures.value (page_of (g.S.Read.remaining c.args.second.inner) mid after _ run.ended c.stream_page-second.ensures.page c.stream_page-second.ensures.fault) in
    ok_so c.stream_page-first.result.ended _ _ c.stream_page-first.ensures.page
    (λ outcome h. (mid, subst (λ f. WritesPageOf (g.R.Read.remaining c.args.first.inner) before mid f (Ok outcome)) c.as_bytes.ensures.value h, second))
