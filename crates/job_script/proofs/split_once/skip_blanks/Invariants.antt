use Rattle.std.proofs.Common.{◌≡◌, drop}
use Rattle.mvs_model.specs.Reading.{words}
use Rattle.job_script.proofs.split_once.skip_blanks.Given as goal

abbrev pub invariant-loop-i : goal.invariant-loop-i
invariant-loop-i l = words (drop l.i l.text) ≡ words l.text
