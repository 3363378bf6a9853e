use Rattle.std.proofs.Common.{◌≡◌, drop}
use Rattle.std.specs.Prelude.{◌&&◌, not, is_some}
use Rattle.std.specs.List.{list_any}
use Rattle.mvs_model.specs.Reading.{lacks_keyword}
use Rattle.job_script.specs.Rows.{row_at, key_text}
use Rattle.job_script.specs.GivenOperands.{by_place}
use Rattle.job_script.proofs.given.GivenOperands.lacks_keyword.Given as goal

abbrev pub invariant-loop-keyword : goal.invariant-loop-keyword
invariant-loop-keyword l =
    list_any (λ k. k.required && not (is_some ((by_place l.self).under (key_text k.key)))) (drop l.keyword-index l.self.keywords.now) ≡ lacks_keyword (row_at l.self.row) (by_place l.self)
