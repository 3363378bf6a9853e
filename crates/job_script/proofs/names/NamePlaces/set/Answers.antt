use Rattle.std.proofs.Common.{sym, subst}
use Rattle.std.specs.FinMap as map
use Rattle.job_script.specs.Areas.{AreAreas}
use Rattle.job_script.proofs.Named.{set_entries, areas_set, mapped_ok}
use Rattle.job_script.proofs.names.NamePlaces.set.Goals as goal

pub returns-clause-ok : goal.returns-clause-ok
returns-clause-ok c =
    let set = rw (mapped_ok c.insert.result c.map_err.result _ _ c.map_err.ensures.cases c.in_ok-map_err.was) at c.insert.ensures.updates in
    rw (← c.self.view_is) (set_entries _ _ c.args.name c.args.place (λ q. set.0 q))

pub invariant_of-self-2 : goal.invariant_of-self-2
invariant_of-self-2 c =
    let set = rw (mapped_ok c.insert.result c.map_err.result _ _ c.map_err.ensures.cases c.in_ok-map_err.was) at c.insert.ensures.updates in
    subst AreAreas (sym (set_entries _ _ c.args.name c.args.place (λ q. set.0 q))) (areas_set (map.from_entries c.self.inside.places.entries) c.args.name c.args.place c.self.invariant c.requires)
