use Rattle.mvs_laws.proofs.Going.{pages_kept}
use Rattle.mvs_laws.proofs.laws.page_rule.Goals as goal

pub returns : goal.returns
returns c = pages_kept
