use Rattle.std.proofs.Common.{sym, ap, ◌∙◌}
use Rattle.mvs_model.specs.Reading.{numbers_in}
use Rattle.job_script.specs.GivenOperands.{option_now}
use Rattle.job_script.specs.Items.{items_in}
use Rattle.job_script.specs.Rules.{is_shared_number}
use Rattle.job_script.proofs.Conflicts.{shared_numbers, shares_nothing}
use Rattle.job_script.proofs.checks.is_common.Goals as goal

pub returns-in_default-other : goal.returns-in_default-other
returns-in_default-other c =
    shares_nothing (numbers_in (option_now c.args.one)) ∙ ap (λ o. is_shared_number (numbers_in (option_now c.args.one)) (numbers_in (option_now o))) (sym c.in_default-other.is)

pub returns : goal.returns
returns c =
    c.is_shared.ensures
    ∙ shared_numbers 0 0 (items_in c.listed.result.now) (items_in c.listed-2.result.now)
    ∙ (λ i. is_shared_number (c.listed.ensures.numbers i) (c.listed-2.ensures.numbers i))
    ∙ (λ i. is_shared_number (numbers_in (option_now (sym c.in-Some.is i))) (numbers_in (option_now (sym c.in-Some-other.is i))))
