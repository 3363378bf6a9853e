use Rattle.free_queue.specs.Runs.{page_of}
use Rattle.free_queue.proofs.Queues.{put, put_none}
use Rattle.free_queue.proofs.put_run.Goals as goal

pub returns-then-at-stop-clause-queue : goal.returns-then-at-stop-clause-queue
returns-then-at-stop-clause-queue c = λ rs q.
    put (page_of c.args.region.now c.args.page) (page_of c.set.new.region c.args.page) c.args.at c.args.stop c.args.next c.if-at-stop.true c.requires.inside c.requires.whole.0 c.requires.whole.1 c.set.ensures.next c.set.ensures.len c.set.ensures.same rs q

pub returns-else-at-stop-clause-queue : goal.returns-else-at-stop-clause-queue
returns-else-at-stop-clause-queue c = λ rs q. put_none (page_of c.args.region.now c.args.page) c.args.at c.args.stop c.args.next c.if-at-stop.false rs q c.requires.order
