use Rattle.std.proofs.lemmas.Result.{err_from_is_err_and}
use Rattle.mvs_job.proofs.Feeding.{fed_first_on, fed_first_fault, fed_first_stopped}
use Rattle.mvs_job.proofs.stream.Stream.feed_first.Goals as goal

pub returns-then-continues-clause-bytes : goal.returns-then-continues-clause-bytes
returns-then-continues-clause-bytes g c first = fed_first_on g.C.Consumer.piece (g.C.Consumer.knows first) _ _ c.args.bytes.now _ _ _ _ _ _ c.requires.some _ c.if-continues.true (c.in_ok-continues.ensures.bytes first)

pub returns-else-continues-clause-bytes : goal.returns-else-continues-clause-bytes
returns-else-continues-clause-bytes g c first = fed_first_fault g.C.Consumer.piece (g.C.Consumer.knows first) _ _ c.args.bytes.now _ c.feed.new.self.walk _ c.feed.new.consumer _ c.feed.new.self.line c.requires.some _ c.if-continues.false (c.in_ok-continues.ensures.bytes first)

pub returns-in_err-continues-clause-bytes : goal.returns-in_err-continues-clause-bytes
returns-in_err-continues-clause-bytes g c first =
    let p = err_from_is_err_and c.from_residual.result c.from_residual.ensures.1 in
    rw (p.1, p.2) (fed_first_stopped g.C.Consumer.piece (g.C.Consumer.knows first) _ _ c.args.bytes.now _ c.feed.new.self.walk _ c.feed.new.consumer _ c.feed.new.self.line c.requires.some c.in_err-continues.field-0.0 (c.in_err-continues.ensures.bytes first))
