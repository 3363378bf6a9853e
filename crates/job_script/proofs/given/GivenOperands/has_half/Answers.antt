use Rattle.std.proofs.Common.{sym, ap, ◌∙◌}
use Rattle.std.specs.List.{list_any}
use Rattle.mvs_model.specs.Reading.{is_half}
use Rattle.job_script.specs.Rows.{as_rule}
use Rattle.job_script.specs.GivenOperands.{by_place}
use Rattle.job_script.proofs.Conflicts.{any_map}
use Rattle.job_script.proofs.given.GivenOperands.has_half.Goals as goal

pub loop-rule-init : goal.loop-rule-init
loop-rule-init c = record {
  on = sym (any_map as_rule (is_half (by_place c.args.self.now)) c.args.rules.now) ∙ ap (list_any (is_half (by_place c.args.self.now))) c.requires.rules;
}
