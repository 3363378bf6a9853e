use Rattle.std.proofs.Common.{[], drop, sym, subst, ap, ◌∙◌, append-nil}
use Rattle.std.specs.Prelude.{◌==◌, unwrap_or, slice_get}
use Rattle.job_script.specs.Parted.{IsEnd}
use Rattle.job_script.proofs.Cut.{first_word, after_ends, end_of_end}
use Rattle.job_script.proofs.split_once.next_word.Goals as goal

pub returns-in-None : goal.returns-in-None
returns-in-None c =
    let parts = rw c.in-None.is at c.split_once.ensures.parts in
    let first = first_word c.skip_blanks.result.now c.split_once.result.0.now [] c.skip_blanks.ensures.start c.split_once.ensures.before parts in
    record {
      word = first.0 ∙ ap (λ ws. unwrap_or (slice_get ws 0) []) c.skip_blanks.ensures.words;
      rest = first.1 ∙ ap (drop 1) c.skip_blanks.ensures.words;
      end = (c.args.text.now, sym (append-nil c.args.text.now));
    }

pub returns-in-Some : goal.returns-in-Some
returns-in-Some c =
    let parts = rw c.in-Some.is at c.split_once.ensures.parts in
    let after = rw c.in-Some.is at c.split_once.ensures.after in
    let first = first_word c.skip_blanks.result.now c.split_once.result.0.now _ c.skip_blanks.ensures.start c.split_once.ensures.before parts in
    record {
      word = first.0 ∙ ap (λ ws. unwrap_or (slice_get ws 0) []) c.skip_blanks.ensures.words;
      rest = first.1 ∙ ap (drop 1) c.skip_blanks.ensures.words;
      end = end_of_end c.args.text.now c.skip_blanks.result.now c.in-Some.rest.now c.skip_blanks.ensures.end
          (subst (IsEnd c.skip_blanks.result.now) (sym after.1) (after_ends (λ b. b == 32) c.skip_blanks.result.now));
    }
