use Rattle.mvs_job.proofs.Latest.{Passed}
use Rattle.mvs_job.proofs.name_origins.NameOrigins.naming.Given as goal

abbrev pub invariant-names : goal.invariant-names
invariant-names l = Passed l.job l.self l.addr l.self-inside.order.items l.at

abbrev pub decreases-names : goal.decreases-names
decreases-names l = l.at
