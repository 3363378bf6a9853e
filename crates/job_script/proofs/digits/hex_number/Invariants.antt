use Rattle.std.proofs.Common.{◌≡◌, ◌<◌, ◌^◌, drop, true}
use Rattle.std.specs.List.{list_all}
use Rattle.mvs_model.specs.Reading.{is_hex_digit}
use Rattle.mvs_model.proofs.ReadingLoops.{hex_counted}
use Rattle.job_script.proofs.digits.hex_number.Given as goal

abbrev pub invariant-loop-byte : goal.invariant-loop-byte
invariant-loop-byte l = record {
  digits : list_all is_hex_digit (drop l.byte-index l.text) ≡ true;
  value : hex_counted l.value (drop l.byte-index l.text) ≡ hex_counted 0 l.text;
  small : l.value < 16 ^ l.byte-index;
}
