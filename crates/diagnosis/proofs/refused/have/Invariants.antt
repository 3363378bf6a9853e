use Rattle.std.proofs.Common.{◌≡◌, drop}
use Rattle.std.specs.Prelude.{bytes_eq}
use Rattle.std.specs.List.{list_any}
use Rattle.job_script.specs.Rows.{key_text}
use Rattle.diagnosis.proofs.refused.have.Given as goal

abbrev pub invariant-loop-keyword : goal.invariant-loop-keyword
invariant-loop-keyword l = list_any (λ k. bytes_eq (key_text k.key) l.key) (drop l.keyword-index l.keywords) ≡ list_any (λ k. bytes_eq (key_text k.key) l.key) l.keywords
