use Rattle.std.proofs.Common.{◌≡◌, drop}
use Rattle.std.specs.List.{list_any, AllByRecursion}
use Rattle.mvs_model.specs.Reading.{is_conflict}
use Rattle.job_script.specs.Rows.{row_at, as_rule}
use Rattle.job_script.specs.Rules.{IsFit}
use Rattle.job_script.specs.GivenOperands.{by_place}
use Rattle.job_script.proofs.given.GivenOperands.has_conflict.Given as goal

abbrev pub invariant-loop-rule : goal.invariant-loop-rule
invariant-loop-rule l = record {
  fit : AllByRecursion (λ rule. IsFit (by_place l.self) (as_rule rule)) (drop l.rule-index l.rules);
  on : list_any (λ rule. is_conflict (by_place l.self) (as_rule rule)) (drop l.rule-index l.rules) ≡ list_any (is_conflict (by_place l.self)) (row_at l.self.row).rules;
}
