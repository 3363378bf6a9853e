use Rattle.std.proofs.Common.{◌≡◌, ◌<◌, ◌≤◌, ◌^◌, take, true}
use Rattle.std.specs.List.{list_all}
use Rattle.mvs_model.specs.Reading.{is_digit, number}
use Rattle.job_script.proofs.prefix.digits_in_front.Given as goal

abbrev pub invariant-loop-i : goal.invariant-loop-i
invariant-loop-i l = record {
  digits : list_all is_digit (take l.i l.text) ≡ true;
  value : l.value ≡ number (take l.i l.text);
  small : l.value < 10 ^ l.i;
  few : l.i ≤ 10;
}
