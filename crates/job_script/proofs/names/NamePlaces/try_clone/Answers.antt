use Rattle.std.proofs.Common.{sym, subst, ap, ◌∙◌}
use Rattle.std.specs.FinMap as map
use Rattle.mvs_model.specs.Name.{name_cmp}
use Rattle.job_script.specs.Areas.{AreAreas}
use Rattle.job_script.proofs.Named.{mapped_ok, zip_same}
use Rattle.job_script.proofs.names.NamePlaces.try_clone.Goals as goal

pub invariant_of-result : goal.invariant_of-result
invariant_of-result c =
    let copied = rw (mapped_ok c.clone.result c.map_err.result _ _ c.map_err.ensures.cases c.in_ok-places.was) at c.clone.ensures.cases in
    subst (λ es. AreAreas (map.from_entries {R = name_cmp} es)) (sym (zip_same _ _ copied)) c.self.invariant

pub returns : goal.returns
returns c =
    let copied = rw (mapped_ok c.clone.result c.map_err.result _ _ c.map_err.ensures.cases c.in_ok-places.was) at c.clone.ensures.cases in
    ap (λ es. map.from_entries {R = name_cmp} es) (zip_same _ _ copied) ∙ c.self.view_is
