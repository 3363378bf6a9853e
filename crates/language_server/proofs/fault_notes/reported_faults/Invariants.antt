use Rattle.std.proofs.Common.{◌≡◌, ◌++◌, drop}
use Rattle.language_server.specs.FaultNotes.{reported_faults, reported_from}
use Rattle.language_server.proofs.fault_notes.reported_faults.Given as goal

abbrev pub invariant-loop-found : goal.invariant-loop-found
invariant-loop-found l = l.reported.items ++ reported_from l.is_found (drop l.found-index l.faults) ≡ reported_faults l.faults
