use Rattle.std.proofs.Common.{◌==◌, ◌||◌, ℕ, Bool, None, slice_index_or, ap, ◌∙◌}
use Rattle.mvs_model.specs.Finite.{has}
use Rattle.mvs_model.specs.Storage.{is_one_of}
use Rattle.task_owner.proofs.Places.{same_default}
use Rattle.request_forms.proofs.Owning.{no_entry_yet, one_entry_more}
use Rattle.request_forms.proofs.facts.subpools_among.Goals as goal

pub loop-entry-init : goal.loop-entry-init
loop-entry-init c = λ s. no_entry_yet (λ n. has (λ r. r == s) (slice_index_or c.args.entries.now n None)) _ (ap (λ xs. is_one_of xs s) c.empty-subpools.ensures)

pub loop-entry-preserved : goal.loop-entry-preserved
loop-entry-preserved c = λ s.
    let test : ℕ → Bool = λ n. has (λ r. r == s) (slice_index_or c.args.entries.now n None) in
    let n = c.loop-entry.entry-index in
    let entry = c.entry-item.is ∙ same_default c.args.entries.now n c.entry-item.result None c.loop-entry-test.true in
    one_entry_more n test _ _ (c.loop-entry.invariant s) (c.insert_entry.ensures s ∙ ap (λ v. has (λ r. r == s) v || is_one_of c.loop-entry.subpools s) entry)
