use Rattle.std.proofs.Common.{◌≡◌, ◌<◌, ◌^◌, drop}
use Rattle.std.specs.List.{list_all}
use Rattle.mvs_model.specs.Reading.{is_digit}
use Rattle.mvs_model.proofs.ReadingLoops.{counted}
use Rattle.job_script.proofs.digits.read_number.Given as goal

abbrev pub invariant-loop-byte : goal.invariant-loop-byte
invariant-loop-byte l = record {
  digits : list_all is_digit (drop l.byte-index l.text) ≡ list_all is_digit l.text;
  value : counted l.value (drop l.byte-index l.text) ≡ counted 0 l.text;
  small : l.value < 10 ^ l.byte-index;
}
