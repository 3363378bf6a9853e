use Rattle.std.proofs.Common.{◌≡◌, ◌+◌, drop}
use Rattle.std.specs.List.{position_or_len}
use Rattle.mvs_c.specs.Asks.{ends_name}
use Rattle.mvs_c.proofs.ask.text_len.Given as goal

abbrev pub invariant-loop-i : goal.invariant-loop-i
invariant-loop-i l = l.i + position_or_len ends_name (drop l.i l.bytes) ≡ position_or_len ends_name l.bytes
