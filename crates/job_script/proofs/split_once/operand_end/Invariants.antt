use Rattle.std.proofs.Common.{◌≡◌, ◌≤◌, ◌+◌, drop}
use Rattle.job_script.specs.Parted.{end_from}
use Rattle.job_script.proofs.split_once.operand_end.Given as goal

abbrev pub invariant-loop-i : goal.invariant-loop-i
invariant-loop-i l = record {
  small : l.opened ≤ l.i;
  end : l.i + end_from l.opened (drop l.i l.text) ≡ end_from 0 l.text;
}
