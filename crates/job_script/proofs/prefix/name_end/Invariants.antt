use Rattle.std.proofs.Common.{◌≡◌, take, true}
use Rattle.std.specs.List.{list_all}
use Rattle.mvs_model.specs.Reading.{is_name_byte}
use Rattle.job_script.proofs.prefix.name_end.Given as goal

abbrev pub invariant-loop-i : goal.invariant-loop-i
invariant-loop-i l = record {
  bytes : list_all is_name_byte (take l.i l.text) ≡ true;
}
