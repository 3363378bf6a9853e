use Rattle.std.proofs.Common.{inl, inr, refl, subst}
use Rattle.mvs_model.specs.Want.{want_of}
use Rattle.mvs_model.specs.Changes.{GrantTo, ShortOf}
use Rattle.mvs_model.specs.Owners.{effective_task}
use Rattle.mvs_model.specs.Requests.{side_for}
use Rattle.mvs_model.proofs.StepCases.{no_grant}
use Rattle.mvs_model.proofs.StorageLaws.{round8_some}
use Rattle.std.proofs.lemmas.Result.{err_from_is_err_and}
use Rattle.request_forms.specs.Taking.{TakesArea}
use Rattle.request_forms.specs.Machine.{task_name}
use Rattle.request_forms.proofs.Cases.{is_valid, not_valid}
use Rattle.request_forms.proofs.machine.Machine.obtain.Goals as goal

pub returns-in_err-number-clause-answer : goal.returns-in_err-number-clause-answer
returns-in_err-number-clause-answer c = let p = err_from_is_err_and c.from_residual.result c.from_residual.ensures.1 in rw (p.1, p.2, c.in_err-number.ensures.0) ((inl (not_valid c.args.number c.in_err-number.ensures.1, refl), refl))

pub returns-in-None-clause-answer : goal.returns-in-None-clause-answer
returns-in-None-clause-answer c =
    let old = c.args.self.now.state in
    let t = task_name c.args.self.now c.args.t in
    let want = want_of c.args.ask.now (side_for old t c.args.form c.args.ask.now.loc) in
    let short = subst (λ n. ShortOf old (effective_task old.owners t n) n want) c.in_ok-number.ensures.1 c.in-None.ensures.granted.0 in
    (inr (is_valid c.args.number c.in_ok-number.ensures.0, inl (short, refl)), c.in-None.ensures.granted.1)

pub returns-in-Some-clause-answer : goal.returns-in-Some-clause-answer
returns-in-Some-clause-answer c =
    let old = c.args.self.now.state in
    let t = task_name c.args.self.now c.args.t in
    let new = c.obtain_area.new.self.state in
    let want = want_of c.args.ask.now (side_for old t c.args.form c.args.ask.now.loc) in
    let p = c.in-Some.place in
    let grant = subst (λ n. GrantTo old (effective_task old.owners t n) n want p new) c.in_ok-number.ensures.1 c.in-Some.ensures.granted in
    let enough : ShortOf old (effective_task old.owners t c.args.number) c.args.number want → ⊥ = λ s. no_grant old (effective_task old.owners t c.args.number) c.args.number want p new (round8_some c.args.ask.now.least c.in-Some.ensures.some) s grant in
    ((is_valid c.args.number c.in_ok-number.ensures.0, (enough, tt)), (p, refl, grant))

pub returns-in-Some-clause-hints : goal.returns-in-Some-clause-hints
returns-in-Some-clause-hints c = subst (λ n. TakesArea c.args.self.now.state (task_name c.args.self.now c.args.t) c.args.form n c.args.ask.now c.args.hints c.in-Some.place) c.in_ok-number.ensures.1 c.in-Some.ensures.hints
