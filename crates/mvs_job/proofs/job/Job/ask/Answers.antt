use Rattle.std.proofs.Common.{◌≡◌, refl, sym, ap, subst, ◌∙◌}
use Rattle.std.proofs.lemmas.Result.{err_from_is_err_and}
use Rattle.std.specs.Prelude.{MatchOption, ◌⊎◌}
use Rattle.mvs_model.specs.Answers.{Answer}
use Rattle.mvs_model.specs.Job.{JobValue}
use Rattle.mvs_model.specs.Memory.{SetsName}
use Rattle.mvs_model.specs.Resolving.{all_set, names_set, places_in, resolved}
use Rattle.mvs_model.specs.FullAnswers.{ended_with_in, full_answer}
use Rattle.mvs_model.specs.Runs.{Asks, Makes}
use Rattle.mvs_model.specs.Steps.{Step}
use Rattle.request_forms.specs.Taking.{Takes}
use Rattle.mvs_job.specs.Observing.{Fails, Passes}
use Rattle.mvs_job.specs.LineEvents.{Replies}
use Rattle.mvs_job.proofs.Serving.{made, made_by}
use Rattle.mvs_job.proofs.Observed.{heard_said, unheard}
use Rattle.mvs_job.proofs.Resolved.{areas_fit, answer_same, answer_lent}
use Rattle.mvs_job.proofs.job.Job.ask.Goals as goal

pub set_names-requires : goal.set_names-requires
set_names-requires g c =
    let st = c.self-2.inside.step.state in
    let step = subst (λ x. Step x c.args.task.now c.resolve.new.request c.settle_or_do.new.reply st) (ap (λ (j : JobValue). j.state) (sym c.self.view_is))
    (subst (λ x. Step c.args.self.now.state c.args.task.now c.resolve.new.request c.settle_or_do.new.reply x) (ap (λ (j : JobValue). j.state) (sym c.self-2.view_is)) c.settle_or_do.ensures.step) in
    areas_fit c.self.inside.names c.args.written.now c.resolve.new.request c.self.inside.step.state c.args.task.now c.settle_or_do.new.reply st c.in-Some.ensures c.self.invariant.bounded c.self-2.invariant step

pub returns-clause-served : goal.returns-clause-served
returns-clause-served g c =
    let old = c.args.self.now in
    let t = c.args.task.now in
    let a = c.args.written.now in
    let r = c.resolve.new.request in
    let reply = c.settle_or_do.new.reply in
    let view = c.self-2.view_is in
    let is = ap (λ (j : JobValue). j.state) (sym view) in
    let st = c.self-2.inside.step.state in
    let new : JobValue = record { state = st; names = c.set_names.new.names; abended = c.self-2.inside.step.abended; former = c.self-2.inside.former } in
    let step = subst (λ x. Step old.state t r reply x) is c.settle_or_do.ensures.step in
    let takes = subst (λ x. Takes c.args.hints.now old.state t r reply x) is c.settle_or_do.ensures.hinted in
    let rest = c.settle_or_do.ensures.rest in
    let names = c.in_ok-set_names.ensures.ok ∙ ap (λ n. all_set n (names_set a) (places_in reply)) (ap (λ (j : JobValue). j.names) view ∙ rest.0) in
    let resolves = ap (λ (j : JobValue). resolved j.names a) (sym c.self.view_is) ∙ c.in-Some.ensures in
    let m = made (Takes c.args.hints.now) old t a r reply new resolves step takes names (ap (λ (j : JobValue). j.abended) view ∙ rest.2) (ap (λ (j : JobValue). j.former) view ∙ rest.1) in
    let answers = c.answer_of.ensures.answer st t ∙ answer_same old.state t a r reply st step in
    subst (λ answer. Asks (Takes c.args.hints.now) old t a (resolved old.names a) answer new) (sym answers) m

-- the reply is that of the step
pub returns-clause-reply : goal.returns-clause-reply
returns-clause-reply g c =
    let old = c.args.self.now in
    let t = c.args.task.now in
    let a = c.args.written.now in
    let r = c.resolve.new.request in
    let reply = c.settle_or_do.new.reply in
    let view = c.self-2.view_is in
    let is = ap (λ (j : JobValue). j.state) (sym view) in
    let st = c.self-2.inside.step.state in
    let new : JobValue = record { state = st; names = c.set_names.new.names; abended = c.self-2.inside.step.abended; former = c.self-2.inside.former } in
    let step = subst (λ x. Step old.state t r reply x) is c.settle_or_do.ensures.step in
    let rest = c.settle_or_do.ensures.rest in
    let names = c.in_ok-set_names.ensures.ok ∙ ap (λ n. all_set n (names_set a) (places_in reply)) (ap (λ (j : JobValue). j.names) view ∙ rest.0) in
    let resolves = ap (λ (j : JobValue). resolved j.names a) (sym c.self.view_is) ∙ c.in-Some.ensures in
    let m = made_by (Replies reply) old t a r reply new step refl names (ap (λ (j : JobValue). j.abended) view ∙ rest.2) (ap (λ (j : JobValue). j.former) view ∙ rest.1) in
    let answers = c.answer_of.ensures.answer st t ∙ answer_same old.state t a r reply st step in
    subst (λ o. MatchOption o (reply ≡ c.args.reply.now) (λ asked. Makes (Replies reply) old t a asked (full_answer st (ended_with_in reply) t c.answer_of.result) new)) (sym resolves)
    (subst (λ answer. Makes (Replies reply) old t a r answer new) (sym answers) m)

pub returns-clause-full_answer : goal.returns-clause-full_answer
returns-clause-full_answer g c =
    let step = subst (λ x. Step c.args.self.now.state c.args.task.now c.resolve.new.request c.settle_or_do.new.reply x) (ap (λ (j : JobValue). j.state) (sym c.self-2.view_is)) c.settle_or_do.ensures.step in
    answer_lent c.args.self.now.state c.args.task.now c.resolve.new.request c.settle_or_do.new.reply c.self-2.inside.step.state c.answer_of.result step c.answer_of.ensures.shown

-- the request is kept
pub returns-clause-request : goal.returns-clause-request
returns-clause-request g c run named none =
    let a = c.args.written.now in
    let r = c.resolve.new.request in
    let kept = ap (λ (j : JobValue). j.names) c.self-2.view_is ∙ c.settle_or_do.ensures.rest.0 in
    let names = c.in_ok-set_names.ensures.ok ∙ ap (λ n. all_set n (names_set a) (places_in c.settle_or_do.new.reply)) kept ∙ ap (λ set. all_set c.args.self.now.names set (places_in c.settle_or_do.new.reply)) none in
    ap (λ n. resolved n a) names ∙ ap (λ (j : JobValue). resolved j.names a) (sym c.self.view_is) ∙ c.in-Some.ensures

-- what is heard of the request
pub returns-clause-observed : goal.returns-clause-observed
returns-clause-observed g c =
    let old = c.args.self.now in
    let t = c.args.task.now in
    let a = c.args.written.now in
    let r = c.resolve.new.request in
    let reply = c.settle_or_do.new.reply in
    let st = c.self-2.inside.step.state in
    let resolves = ap (λ (j : JobValue). resolved j.names a) (sym c.self.view_is) ∙ c.in-Some.ensures in
    subst (λ o. MatchOption o (c.settle_or_do.new.observer ≡ c.args.observer.now) (λ asked. Passes c.args.observer.now old t asked (full_answer st (ended_with_in reply) t c.answer_of.result) c.settle_or_do.new.observer ⊎ Fails g.O.Observer.heard c.args.observer.now old t asked (full_answer st (ended_with_in reply) t c.answer_of.result) c.settle_or_do.new.observer)) (sym resolves)
    (subst (λ (y : Answer). Passes c.args.observer.now old t r y c.settle_or_do.new.observer ⊎ Fails g.O.Observer.heard c.args.observer.now old t r y c.settle_or_do.new.observer) (sym (c.answer_of.ensures.answer st t))
    (heard_said g.O.Observer.heard c.args.observer.now c.settle_or_do.new.observer old t a r reply c.settle_or_do.new.self.state st c.requires.active c.settle_or_do.ensures.observed))

-- memory was wanting for a name
pub returns-in_err-set_names-clause-served : goal.returns-in_err-set_names-clause-served
returns-in_err-set_names-clause-served g c =
    let lacks = c.in_err-set_names.ensures.err in
    let sets : SetsName c.args.self.now c.args.task.now c.args.written.now = record {
      request = c.resolve.new.request;
      reply = c.settle_or_do.new.reply;
      new = c.settle_or_do.new.self.state;
      resolves = ap (λ (j : JobValue). resolved j.names c.args.written.now) (sym c.self.view_is) ∙ c.in-Some.ensures;
      step = c.settle_or_do.ensures.step;
      names = lacks.0;
      places = lacks.1;
    } in
    let p = err_from_is_err_and c.from_residual.result c.from_residual.ensures.1 in
    rw (p.1) sets

pub returns-in_err-set_names-clause-unheard : goal.returns-in_err-set_names-clause-unheard
returns-in_err-set_names-clause-unheard g c =
    let lacks = c.in_err-set_names.ensures.err in
    let p = err_from_is_err_and c.from_residual.result c.from_residual.ensures.1 in
    rw (p.1) (unheard g.O.Observer.heard c.args.observer.now c.settle_or_do.new.observer c.args.self.now c.args.task.now c.resolve.new.request c.settle_or_do.new.reply c.settle_or_do.new.self.state c.settle_or_do.ensures.observed lacks.1)
