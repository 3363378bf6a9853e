use Rattle.std.proofs.Common.{◌≡◌, ◌++◌, drop}
use Rattle.std.specs.Prelude.{map}
use Rattle.job_script.specs.Operations.{operation_text}
use Rattle.language_server.specs.Proposals.{operation_proposal}
use Rattle.language_server.proofs.proposals.Proposals.push_operations.Given as goal

abbrev pub invariant-loop-operation : goal.invariant-loop-operation
invariant-loop-operation l =
    l.self ++ map operation_proposal (map operation_text (drop l.operation-index l.operations)) ≡ l.fn.self ++ map operation_proposal (map operation_text l.operations)
