use Rattle.std.proofs.Common.{◌≡◌, sym, ◌∙◌}
use Rattle.std.specs.FinMap as map
use Rattle.job_script.proofs.Named.{get_entries, area_of}
use Rattle.job_script.proofs.names.NamePlaces.get.Goals as goal

pub returns-clause-place : goal.returns-clause-place
returns-clause-place c = rw (← c.self.view_is) (c.copied.ensures ∙ c.get.ensures.value ∙ sym (get_entries c.args.name.now c.self.inside.places.entries))

pub returns-clause-area : goal.returns-clause-area
returns-clause-area c =
    let is : c.copied.result ≡ map.get (map.from_entries c.self.inside.places.entries) c.args.name.now =
    c.copied.ensures ∙ c.get.ensures.value ∙ sym (get_entries c.args.name.now c.self.inside.places.entries) in
    area_of c.copied.result (λ p e. c.self.invariant c.args.name.now p (sym is ∙ e))
