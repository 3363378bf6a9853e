use Rattle.std.proofs.lemmas.Result.{err_from_is_err_and}
use Rattle.mvs_job.proofs.Feeding.{fed_whole_on, fed_whole_fault, fed_whole_stopped}
use Rattle.mvs_job.proofs.stream.Stream.feed_whole.Goals as goal

pub returns-then-continues-clause-bytes : goal.returns-then-continues-clause-bytes
returns-then-continues-clause-bytes g c first =
    fed_whole_on g.C.Consumer.piece (g.C.Consumer.knows first) _ _ c.args.bytes.now _ c.run_entry.new.walk _ _ c.args.end _ _ c.requires.end c.requires.pending c.in_ok-continues.ensures.number c.requires.pending _ c.if-continues.true (c.in_ok-continues.ensures.ran first)

pub returns-else-continues-clause-bytes : goal.returns-else-continues-clause-bytes
returns-else-continues-clause-bytes g c first =
    fed_whole_fault g.C.Consumer.piece (g.C.Consumer.knows first) _ _ c.args.bytes.now _ c.run_entry.new.walk _ c.run_entry.new.consumer c.args.end _ c.args.self.now.line c.requires.end c.requires.pending c.in_ok-continues.ensures.number c.requires.pending _ c.if-continues.false (c.in_ok-continues.ensures.ran first)

pub returns-in_err-continues-clause-bytes : goal.returns-in_err-continues-clause-bytes
returns-in_err-continues-clause-bytes g c first =
    let p = err_from_is_err_and c.from_residual.result c.from_residual.ensures.1 in
    rw (p.1, p.2) (fed_whole_stopped g.C.Consumer.piece (g.C.Consumer.knows first) _ _ c.args.bytes.now _ c.run_entry.new.walk _ c.run_entry.new.consumer c.args.end _ c.args.self.now.line c.requires.end c.requires.pending c.in_err-continues.ensures.number c.requires.pending c.in_err-continues.field-0.0 (c.in_err-continues.ensures.ran first))
