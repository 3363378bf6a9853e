use Rattle.std.proofs.Common.{◌≡◌, take, true}
use Rattle.std.specs.List.{list_all}
use Rattle.mvs_model.specs.Reading.{is_hex_digit}
use Rattle.job_script.proofs.prefix.hex_end.Given as goal

abbrev pub invariant-loop-i : goal.invariant-loop-i
invariant-loop-i l = record {
  digits : list_all is_hex_digit (take l.i l.text) ≡ true;
}
