use Rattle.std.proofs.Common.{ap, inl, inr, refl, subst}
use Rattle.mvs_model.specs.Changes.{ListGrant}
use Rattle.mvs_model.specs.Owners.{effective_task}
use Rattle.mvs_model.specs.declared.refusal.Refusal.TheVariants.{Member}
use Rattle.std.proofs.lemmas.Result.{err_from_is_err_and}
use Rattle.request_forms.specs.Lists.{IsMemberShort, list_wants}
use Rattle.request_forms.specs.Taking.{TakesAreas}
use Rattle.request_forms.specs.Machine.{task_name}
use Rattle.request_forms.proofs.Cases.{is_valid, not_valid}
use Rattle.request_forms.proofs.Listing.{lacks_short, member_is}
use Rattle.request_forms.proofs.machine.Machine.obtain_list.Goals as goal

pub returns-in_err-number-clause-answer : goal.returns-in_err-number-clause-answer
returns-in_err-number-clause-answer c = λ form. let p = err_from_is_err_and c.from_residual.result c.from_residual.ensures.1 in rw (p.1, p.2, c.in_err-number.ensures.0) ((inl (not_valid c.args.number c.in_err-number.ensures.1, refl), refl))

pub returns-in-Err-clause-answer : goal.returns-in-Err-clause-answer
returns-in-Err-clause-answer c = λ form.
    let old = c.args.self.now.state in
    let t = task_name c.args.self.now c.args.t in
    let lack = c.in-Err.lack in
    let short = subst (λ n. IsMemberShort old (effective_task old.owners t n) n (list_wants c.args.lengths.now c.args.start) lack.member lack.short) c.in_ok-number.ensures.1 c.in-Err.ensures.granted.0 in
    let k = effective_task old.owners t c.args.number in
    (inr (is_valid c.args.number c.in_ok-number.ensures.0, inl (short.0, lacks_short old k c.args.number lack.short k c.args.number (list_wants c.args.lengths.now c.args.start) short.0 short.2, ap Member short.1)), c.in-Err.ensures.granted.1)

pub returns-in-Err-clause-left : goal.returns-in-Err-clause-left
returns-in-Err-clause-left c = λ form k e.
    let old = c.args.self.now.state in
    let t = task_name c.args.self.now c.args.t in
    let lack = c.in-Err.lack in
    subst (λ m. IsMemberShort old (effective_task old.owners t c.args.number) c.args.number (list_wants c.args.lengths.now c.args.start) m lack.short) (member_is lack.member k e)
    (subst (λ n. IsMemberShort old (effective_task old.owners t n) n (list_wants c.args.lengths.now c.args.start) lack.member lack.short) c.in_ok-number.ensures.1 c.in-Err.ensures.granted.0)

pub returns-in-Ok-clause-answer : goal.returns-in-Ok-clause-answer
returns-in-Ok-clause-answer c = λ form.
    let old = c.args.self.now.state in
    let t = task_name c.args.self.now c.args.t in
    let grant = subst (λ n. ListGrant old (effective_task old.owners t n) n (list_wants c.args.lengths.now c.args.start) c.in-Ok.places c.obtain_areas.new.self.state) c.in_ok-number.ensures.1 c.in-Ok.ensures.granted in
    ((is_valid c.args.number c.in_ok-number.ensures.0, (tt, tt)), (c.in-Ok.places, refl, grant))

pub returns-in-Ok-clause-hints : goal.returns-in-Ok-clause-hints
returns-in-Ok-clause-hints c = subst (λ n. TakesAreas c.args.self.now.state (task_name c.args.self.now c.args.t) n c.args.lengths.now c.args.start c.args.hints.now c.in-Ok.places c.obtain_areas.new.self.state) c.in_ok-number.ensures.1 c.in-Ok.ensures.hints
