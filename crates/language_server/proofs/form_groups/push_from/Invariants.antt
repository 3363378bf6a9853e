use Rattle.std.proofs.Common.{◌≡◌, ◌++◌, drop}
use Rattle.std.specs.Prelude.{map}
use Rattle.job_script.specs.Operations.{operation_text}
use Rattle.language_server.specs.Hovers.{group_blocks}
use Rattle.language_server.proofs.form_groups.push_from.Given as goal

abbrev pub invariant-loop-form : goal.invariant-loop-form
invariant-loop-form l =
    l.found.items ++ group_blocks (operation_text l.operation) l.forms (map (λ form. form.now) (drop l.form-index l.rest))
    ≡ l.fn.found.items ++ group_blocks (operation_text l.operation) l.fn.first (map (λ form. form.now) l.rest)
