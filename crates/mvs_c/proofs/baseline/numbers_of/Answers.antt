use Rattle.std.proofs.Common.{◌≡◌, ℕ, ◌+◌, [], ◌∷◌, ◌++◌, List, Bool, length, ap, sym, ◌∙◌, arith}
use Rattle.std.proofs.lemmas.List.{length-append}
use Rattle.std.specs.Option.{is_some}
use Rattle.mvs_model.specs.Reports.{each_below}
use Rattle.request_forms.specs.SubpoolLabels.{entry_owner}
use Rattle.mvs_job.proofs.Numbers.{each_next, each_none}
use Rattle.mvs_c.proofs.baseline.numbers_of.Goals as goal

pub loop-n-init : goal.loop-n-init
loop-n-init c = record {
  count = ap length c.empty-numbers.ensures;
  each = c.empty-numbers.ensures ∙ sym (each_none (λ n. is_some (entry_owner c.args.job.now.state.owners c.args.task.now n) ∷ []));
}

pub loop-n-preserved : goal.loop-n-preserved
loop-n-preserved c =
    let has = λ (n : ℕ). is_some (entry_owner c.args.job.now.state.owners c.args.task.now n) in
    let row = λ (n : ℕ). has n ∷ [] in
    let n = c.loop-n.n in
    let is : c.has_number.result ≡ has n = c.has_number.ensures ∙ ap has c.of.ensures in
    record {
      count = ap length c.push.ensures ∙ length-append c.loop-n.numbers (c.has_number.result ∷ []) ∙ ap (λ m. m + 1) c.loop-n.invariant.count;
      each = c.push.ensures ∙ ap (λ (z : List Bool). z ++ c.has_number.result ∷ []) c.loop-n.invariant.each ∙ ap (λ b. each_below n row ++ b ∷ []) is ∙ sym (each_next row n);
    }
