use Rattle.std.proofs.Common.{◌∙◌}
use Rattle.job_script.proofs.SameNumbers.{digits_number}
use Rattle.job_script.proofs.digits.is_number.Goals as goal

pub returns-in_default : goal.returns-in_default
returns-in_default c = c.are_digits.ensures ∙ digits_number c.args.text.now c.in_default.len_at_least
