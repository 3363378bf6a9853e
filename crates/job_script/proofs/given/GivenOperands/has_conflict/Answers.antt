use Rattle.std.proofs.Common.{refl, sym, ap, subst, ◌∙◌}
use Rattle.std.specs.List.{list_any, AllByRecursion}
use Rattle.mvs_model.specs.Reading.{is_conflict}
use Rattle.job_script.specs.Rows.{as_rule}
use Rattle.job_script.specs.Rules.{IsFit}
use Rattle.job_script.specs.GivenOperands.{by_place}
use Rattle.job_script.proofs.Conflicts.{any_map, all_map, rules_fit}
use Rattle.job_script.proofs.given.GivenOperands.has_conflict.Goals as goal

pub loop-rule-init : goal.loop-rule-init
loop-rule-init c =
    let g = by_place c.args.self.now in
    let rules = c.args.rules.now in
    record {
      fit = all_map (IsFit g) as_rule rules (subst (AllByRecursion (IsFit g)) (sym c.requires.rules) (rules_fit c.args.self.now c.requires.read c.args.self.now.row refl));
      on = sym (any_map as_rule (is_conflict g) rules) ∙ ap (list_any (is_conflict g)) c.requires.rules;
    }
