use Rattle.schedules.proofs.Distinct.{inserted}
use Rattle.schedules.proofs.Mapped.{mapped_on}
use Rattle.schedules.proofs.outcomes.Outcomes.insert.Goals as goal

pub returns-clause-added : goal.returns-clause-added
returns-clause-added c =
    mapped_on c.insert.result c.map_err.result _ c.map_err.ensures.cases
    (λ added is k.
    inserted c.args.self.now.found.keys c.insert.new.self.keys c.args.outcome (λ v. v.items) added (rw (is) at c.insert.ensures.keys) (rw (is) at c.insert.ensures.added) k)
