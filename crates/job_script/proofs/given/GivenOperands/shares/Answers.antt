use Rattle.std.proofs.Common.{sym, ◌∙◌}
use Rattle.std.specs.Prelude.{◌||◌}
use Rattle.mvs_model.specs.Reading.{numbers_in}
use Rattle.job_script.specs.Rows.{key_text}
use Rattle.job_script.specs.GivenOperands.{by_place}
use Rattle.job_script.specs.Rules.{is_shared_number}
use Rattle.job_script.proofs.Conflicts.{shares_apart}
use Rattle.job_script.proofs.given.GivenOperands.shares.Goals as goal

pub returns : goal.returns
returns c =
    let os = by_place c.args.self.now in
    let one = c.text-one.ensures.text in
    let list = c.text-list.ensures.text in
    let other = c.text-other.ensures.text in
    let others = c.text-others.ensures.text in
    (λ i. ((c.is_common.ensures i || c.is_common-2.ensures i) || c.is_common-3.ensures i) || c.is_common-4.ensures i)
    ∙ (λ i.
    ((is_shared_number (numbers_in (one i)) (numbers_in (other i)) || is_shared_number (numbers_in (one i)) (numbers_in (others i)))
    || is_shared_number (numbers_in (list i)) (numbers_in (other i))) || is_shared_number (numbers_in (list i)) (numbers_in (others i)))
    ∙ sym (shares_apart (numbers_in (os.under (key_text c.args.one))) (numbers_in (os.under (key_text c.args.list))) (numbers_in (os.under (key_text c.args.other))) (numbers_in (os.under (key_text c.args.others))))
