use Rattle.std.proofs.Common.{inl, refl, subst}
use Rattle.std.specs.Prelude.{OnOk}
use Rattle.std.proofs.lemmas.Result.{err_from_is_err_and}
use Rattle.request_forms.specs.Taking.{TakesPool}
use Rattle.request_forms.specs.Machine.{task_name}
use Rattle.request_forms.proofs.Cases.{not_valid}
use Rattle.request_forms.proofs.machine.Machine.build.Goals as goal

pub returns-in_err-number-clause-answer : goal.returns-in_err-number-clause-answer
returns-in_err-number-clause-answer c = let p = err_from_is_err_and c.from_residual.result c.from_residual.ensures.1 in rw (p.1, p.2, c.in_err-number.ensures.0) ((inl (not_valid c.args.number c.in_err-number.ensures.1, refl), refl))

pub returns-clause-answer : goal.returns-clause-answer
returns-clause-answer c = rw (← c.in_ok-number.ensures.1) c.build_pool.ensures.answer

pub returns-clause-hints : goal.returns-clause-hints
returns-clause-hints c = subst (λ n. OnOk c.build_pool.result (TakesPool c.args.self.now.state (task_name c.args.self.now c.args.t) n c.args.pool.now c.args.plan.now c.args.hints c.build_pool.new.self.state)) c.in_ok-number.ensures.1 c.build_pool.ensures.hints
