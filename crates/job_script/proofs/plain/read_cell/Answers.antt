use Rattle.std.proofs.Common.{ap}
use Rattle.std.specs.Prelude.{codes, ◌++◌}
use Rattle.job_script.proofs.PlainLines.{of_text}
use Rattle.job_script.proofs.plain.read_cell.Goals as goal

pub returns-in-Some : goal.returns-in-Some
returns-in-Some c = of_text _ _ _ (ap (λ t. codes " CPOOL " ++ t) c.in-Some.ensures) c.read_get.ensures

pub returns-in-Some-strip_prefix : goal.returns-in-Some-strip_prefix
returns-in-Some-strip_prefix c = of_text _ _ _ (ap (λ t. codes " CPOOL " ++ t) c.in-Some-strip_prefix.ensures) c.read_get-in-Some-strip_prefix.ensures

pub returns : goal.returns
returns c = of_text _ _ _ (ap (λ t. codes " CPOOL " ++ t) c.in_ok-rest.ensures) c.read_free.ensures
