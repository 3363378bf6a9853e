use Rattle.std.proofs.Common.{◌≡◌, ◌≤◌, ◌+◌, ◌*◌, ◌++◌, length, true}
use Rattle.std.specs.List.{list_all}
use Rattle.mvs_model.specs.Reading.{hex_bytes, quoted, is_hex_digit}
use Rattle.job_script.proofs.values.bytes.Given as goal

abbrev pub invariant-bytes : goal.invariant-bytes
invariant-bytes l = record {
  on : l.list ++ hex_bytes l.rest ≡ hex_bytes (quoted l.fn.text);
  digits : list_all is_hex_digit l.rest ≡ true;
  few : 2 * length l.list + length l.rest ≤ 200;
}

abbrev pub decreases-bytes : goal.decreases-bytes
decreases-bytes l = length l.rest
