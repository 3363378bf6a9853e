use Rattle.std.proofs.Common.{ℕ, ◌++◌, List, append-nil, append_assoc, ap, sym, ◌∙◌, arith}
use Rattle.mvs_model.specs.Reports.{each_below}
use Rattle.request_forms.specs.Facts.{listed}
use Rattle.mvs_job.proofs.Numbers.{each_next, each_none}
use Rattle.page.specs.declared.change.Change.{Change}
use Rattle.page.specs.Changes.{held_change}
use Rattle.page.proofs.changes.push_held.Goals as goal

pub loop-n-init : goal.loop-n-init
loop-n-init c = record {
  few = omega arith;
  each = sym (append-nil c.args.changes.now) ∙ ap (λ (z : List Change). c.args.changes.now ++ z) (sym (each_none (λ n. listed (held_change c.args.job.now c.args.mother.now c.args.subtask.now n))));
}

pub loop-n-preserved : goal.loop-n-preserved
loop-n-preserved c =
    let change = held_change c.args.job.now c.args.mother.now c.args.subtask.now in
    let row = λ (n : ℕ). listed (change n) in
    record {
      few = omega (arith, c.push_some.ensures.len, c.loop-n.invariant.few);
      each = c.push_some.ensures.changes
          ∙ ap (λ (z : List Change). z ++ listed c.held_change.result) c.loop-n.invariant.each
          ∙ append_assoc c.args.changes.now (each_below c.loop-n.n row) (listed c.held_change.result)
          ∙ ap (λ (z : List Change). c.args.changes.now ++ z) (ap (λ v. each_below c.loop-n.n row ++ listed v) (c.held_change.ensures ∙ ap change c.of.ensures) ∙ sym (each_next row c.loop-n.n));
    }
