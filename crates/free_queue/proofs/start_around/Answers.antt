use Rattle.std.proofs.Common.{arith, inl, inr}
use Rattle.free_queue.specs.Runs.{page_of}
use Rattle.free_queue.proofs.Queues.{same_trans, start_takes}
use Rattle.free_queue.proofs.start_around.Goals as goal

pub returns-clause-same : goal.returns-clause-same
returns-clause-same c =
    let p = c.args.page in
    λ d within. same_trans (page_of c.args.region.now p) (page_of c.put_run-rest.new.region p) (page_of c.put_run.new.region p) d (c.put_run-rest.ensures.same d (inl within.1)) (c.put_run.ensures.same d (inr within.0))

pub returns-clause-queue : goal.returns-clause-queue
returns-clause-queue c =
    let p = c.args.page in
    start_takes (page_of c.args.region.now p) (page_of c.put_run-rest.new.region p) (page_of c.put_run.new.region p) c.args.from c.args.n c.put_run-rest.result c.put_run.result _ _ c.requires.some c.requires.inside c.put_run-rest.ensures.queue c.put_run.ensures.queue (omega arith) (omega (arith, c.requires.inside))
