use Rattle.std.proofs.Common.{◌∙◌, List, ap, subst}
use Rattle.std.specs.List.Sorted.{IsPermutation, IsSorted}
use Rattle.mvs_model.specs.declared.name.Name.{Name}
use Rattle.mvs_model.specs.Name.{name_cmp}
use Rattle.mvs_job.proofs.SortedNames.{sorted_same}
use Rattle.mvs_job.proofs.copying.copy_fallen.Goals as goal

pub returns : goal.returns
returns c =
    let copied = c.copy_names.ensures ∙ c.names.ensures.names in
    sorted_same c.args.fallen.now c.new.result
    (subst (λ (l : List Name). IsSorted name_cmp l) c.names.ensures.names c.names.ensures.sorted) c.new.ensures.sorted
    (subst (λ (l : List Name). IsPermutation l c.new.result) copied c.new.ensures.same)
