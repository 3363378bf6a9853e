use Rattle.std.proofs.Common.{ℕ, List, sym, ap, subst, cond, ◌∙◌, ◌∷◌}
use Rattle.std.specs.List.{insert}
use Rattle.std.specs.List.Sorted.{IsPermutation}
use Rattle.std.specs.Result.{is_ok}
use Rattle.std.proofs.lemmas.List.Sorted.{IsPermutation-insert}
use Rattle.mvs_model.specs.declared.name.Name.{Name}
use Rattle.mvs_job.proofs.name_order.put_in_order.Goals as goal

pub returns-clause-ok : goal.returns-clause-ok
returns-clause-ok c =
    let old : List (Name × ℕ) = c.args.order.now.items in
    let one : Name × ℕ = (c.args.name, c.args.number) in
    let is = c.insert.ensures.items ∙ ap (λ b. cond b (insert old c.count_up_to-at.result one) old) (sym c.map_err.ensures.variant ∙ ap is_ok c.in_ok-map_err.was) in
    subst (IsPermutation (one ∷ old)) (sym is) (IsPermutation-insert old c.count_up_to-at.result one)
