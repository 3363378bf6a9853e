use Rattle.std.proofs.Common.{sym, ◌∙◌, eqb-true, eq-eqb}
use Rattle.free_queue.specs.Runs.{page_of}
use Rattle.free_queue.proofs.Queues.{whole_all, all_whole}
use Rattle.free_queue.proofs.is_whole.Goals as goal

pub returns-then-head-eq0 : goal.returns-then-head-eq0
returns-then-head-eq0 c = λ rs q. (
  λ yes. whole_all rs (page_of c.args.region.now c.args.page) c.args.head q c.if-head-eq0.true (sym c.len.ensures ∙ eqb-true c.len.result 4096 yes),
  λ all. eq-eqb c.len.result 4096 (c.len.ensures ∙ (all_whole rs (page_of c.args.region.now c.args.page) c.args.head q all).1),
)

pub returns-else-head-eq0 : goal.returns-else-head-eq0
returns-else-head-eq0 c = λ rs q. (
  λ yes. absurd (c.if-head-eq0.false (eqb-true c.args.head 0 yes)),
  λ all. eq-eqb c.args.head 0 (all_whole rs (page_of c.args.region.now c.args.page) c.args.head q all).0,
)
