use Rattle.std.proofs.Common.{ap, ◌∙◌}
use Rattle.std.specs.Prelude.{bytes_eq}
use Rattle.std.specs.List.{list_any}
use Rattle.job_script.specs.Rows.{as_keyword}
use Rattle.diagnosis.proofs.Places.{any_map}
use Rattle.diagnosis.proofs.refused.takes.Goals as goal

pub returns : goal.returns
returns c = c.have.ensures ∙ any_map as_keyword (λ k. bytes_eq k.key c.args.key.now) c.keywords.result.now ∙ ap (list_any (λ k. bytes_eq k.key c.args.key.now)) c.keywords.ensures.row
