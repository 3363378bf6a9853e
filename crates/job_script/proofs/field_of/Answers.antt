use Rattle.std.proofs.Common.{[], sym, ap, ◌∙◌}
use Rattle.std.specs.Prelude.{unwrap_or, slice_get}
use Rattle.job_script.proofs.Cut.{field_first}
use Rattle.job_script.proofs.Stating.{field_after, not_return}
use Rattle.job_script.proofs.field_of.Goals as goal

pub returns-in-Region : goal.returns-in-Region
returns-in-Region c =
    let rest = c.args.rest.now in
    field_first c.skip_blanks.result.now c.skip_blanks.ensures.start ∙ ap (λ ws. unwrap_or (slice_get ws 0) []) c.skip_blanks.ensures.words ∙ sym (field_after c.args.operation rest (not_return c.args.operation c.in-Region.is))
