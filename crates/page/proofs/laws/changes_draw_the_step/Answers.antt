use Rattle.page.proofs.DrawnRuns.{changes_draw, each_is_drawn}
use Rattle.page.proofs.laws.changes_draw_the_step.Goals as goal

pub returns-clause-drawn : goal.returns-clause-drawn
returns-clause-drawn c = each_is_drawn

pub returns-clause-shown : goal.returns-clause-shown
returns-clause-shown c = changes_draw c.well_formed-2.ensures
