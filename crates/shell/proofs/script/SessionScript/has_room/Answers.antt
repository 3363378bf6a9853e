use Rattle.std.proofs.Common.{◌≤◌, length, subst}
use Rattle.mvs_model.specs.Numbers.{most_script_bytes}
use Rattle.shell.proofs.Lines.{few_lines}
use Rattle.shell.proofs.script.SessionScript.has_room.Goals as goal

pub returns-clause-few : goal.returns-clause-few
returns-clause-few c = subst (λ x. length x ≤ most_script_bytes) c.self.view_is (few_lines _ _ c.self.invariant)
