use Rattle.std.proofs.Common.{◌≡◌, ◌+◌, ◌≤◌, ◌++◌, length, true}
use Rattle.mvs_model.specs.Lines.{ended_text, lines_of}
use Rattle.language_server.specs.Runnable.{emptied, faults_from}
use Rattle.language_server.proofs.runnable.without_faults.Given as goal

abbrev pub invariant-lines : goal.invariant-lines
invariant-lines l = record {
  script : l.run.script.items ++ ended_text (emptied l.first (lines_of l.rest)) ≡ ended_text (emptied true (lines_of l.text));
  faults : l.run.faults.items ++ faults_from l.number l.first (lines_of l.rest) ≡ faults_from 0 true (lines_of l.text);
  room : l.number + length l.rest ≤ length l.text;
}

abbrev pub decreases-lines : goal.decreases-lines
decreases-lines l = length l.rest
