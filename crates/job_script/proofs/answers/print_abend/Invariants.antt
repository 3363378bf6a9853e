use Rattle.std.proofs.Common.{take, ◌≡◌, ◌++◌, codes}
use Rattle.std.specs.List.{flat_map}
use Rattle.std.specs.Io.KnownBytes.{Appends}
use Rattle.mvs_model.specs.Name.{trimmed}
use Rattle.mvs_model.specs.Texts.{reply_line, code_text}
use Rattle.job_script.proofs.answers.print_abend.Given as goal

abbrev pub invariant-loop-name : goal.invariant-loop-name
invariant-loop-name g l = record {
  so_far : Appends (g.W.Write.contents l.fn.writer.inner) (g.W.Write.contents l.writer.inner)
      (reply_line l.line_number l.task (codes "ABEND " ++ code_text l.fn.code) ++ flat_map (λ x. reply_line l.line_number x (codes "ENDED WITH " ++ trimmed l.task)) (take l.name-index l.fallen));
  same : l.writer.failed ≡ l.fn.writer.failed;
}
