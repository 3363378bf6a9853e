use Rattle.std.proofs.Common.{◌≡◌, ◌++◌, drop}
use Rattle.std.specs.Prelude.{map}
use Rattle.job_script.specs.Operations.{operation_text}
use Rattle.language_server.specs.Proposals.{form_proposal}
use Rattle.language_server.proofs.proposals.Proposals.push_forms.Given as goal

abbrev pub invariant-loop-form : goal.invariant-loop-form
invariant-loop-form l =
    l.self ++ map (form_proposal (operation_text l.operation)) (map (λ form. form.now) (drop l.form-index l.forms))
    ≡ l.fn.self ++ map (form_proposal (operation_text l.operation)) (map (λ form. form.now) l.forms)
