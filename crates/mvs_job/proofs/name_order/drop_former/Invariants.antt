use Rattle.std.specs.FinMap as map
use Rattle.std.proofs.lemmas.List.Filters.{FiltersInPlace}
use Rattle.mvs_model.specs.Name.{name_cmp}
use Rattle.mvs_job.specs.NameOrder.{is_latest}
use Rattle.mvs_job.proofs.name_order.drop_former.Given as goal

abbrev pub invariant-names : goal.invariant-names
invariant-names l = FiltersInPlace (is_latest (map.from_entries {R = name_cmp} l.numbers.entries)) l.initial.order.items l.order.items l.kept l.at
