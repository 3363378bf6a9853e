use Rattle.std.proofs.Common.{Ok, Some, refl, sym, ap, subst, ◌∙◌, []}
use Rattle.std.proofs.lemmas.Result.{err_from_is_err_and}
use Rattle.mvs_model.specs.Memory.{TakesMemory}
use Rattle.mvs_model.specs.Walk.{is_first}
use Rattle.mvs_model.specs.declared.line.Line.TheVariants as line
use Rattle.job_script.specs.LineMeaning.{filled}
use Rattle.mvs_job.specs.LineEvents.{KeepsRequestIn, WalkValue}
use Rattle.request_forms.specs.Taking.{Takes}
use Rattle.mvs_job.proofs.Serving.{ok_of, said_so, event_answered, event_began, stops_at_region, stops_at_request}
use Rattle.mvs_job.proofs.walk.Walk.execute.Goals as goal

pub returns-in-Some-clause-executed : goal.returns-in-Some-clause-executed
returns-in-Some-clause-executed g c =
    let old : WalkValue = record { step = c.self.inside.job; number = c.self.inside.number; read = c.self.inside.read; request = c.self.inside.request; reply = c.self.inside.reply } in
    let new : WalkValue = record { step = c.begin.new.job; number = c.self.inside.number; read = c.self.inside.read; request = c.self.inside.request; reply = c.self.inside.reply } in
    let of_card = sym c.card_of.ensures.card ∙ c.in-Some.is in
    rw (← c.self.view_is) (λ bytes reading. event_began (Takes c.args.hints.now) old new bytes (is_first old.step) (filled c.self.inside.read c.args.parsed) refl reading
    c.self.inside.read c.in-Statement.task c.in-Statement.statement c.in-Some.card c.in_ok-ended.ended (ap (filled c.self.inside.read) (ok_of c.args.parsed c.in_default.not-Err)) c.in-Statement.is of_card c.in_ok-ended.ensures.0 c.in_ok-ended.ensures.1)

pub returns-in_err-ended-clause-executed : goal.returns-in_err-ended-clause-executed
returns-in_err-ended-clause-executed g c =
    let old : WalkValue = record { step = c.self.inside.job; number = c.self.inside.number; read = c.self.inside.read; request = c.self.inside.request; reply = c.self.inside.reply } in
    let new : WalkValue = record { step = c.begin.new.job; number = c.self.inside.number; read = c.self.inside.read; request = c.self.inside.request; reply = c.self.inside.reply } in
    let of_card = sym c.card_of.ensures.card ∙ c.in-Some.is in
    let p = err_from_is_err_and c.from_residual.result c.from_residual.ensures.1 in
    rw (p.1, p.2, ← c.self.view_is) (λ bytes reading. stops_at_region (Takes c.args.hints.now) old new bytes (is_first old.step) (filled c.self.inside.read c.args.parsed) refl reading
    c.self.inside.read c.in-Statement.task c.in-Statement.statement c.in-Some.card c.in_err-ended.field-0.0.ended (ap (filled c.self.inside.read) (ok_of c.args.parsed c.in_default.not-Err)) c.in-Statement.is of_card c.in_err-ended.ensures)

pub returns-in_err-answer-clause-executed : goal.returns-in_err-answer-clause-executed
returns-in_err-answer-clause-executed g c =
    let old : WalkValue = record { step = c.self.inside.job; number = c.self.inside.number; read = c.self.inside.read; request = c.self.inside.request; reply = c.self.inside.reply } in
    let takes = subst (λ o. TakesMemory o (line.Statement c.in-Statement.task c.in-Statement.statement) []) (sym c.in-Some-job.is) c.in_err-answer.ensures.served in
    let p = err_from_is_err_and c.from_residual-in_err-answer.result c.from_residual-in_err-answer.ensures.1 in
    rw (p.1, p.2, ← c.self.view_is) (λ bytes reading. stops_at_request (Takes c.args.hints.now) old old bytes (is_first old.step) (filled c.self.inside.read c.args.parsed) refl reading
    c.self.inside.read c.in-Statement.task c.in-Statement.statement (ap (filled c.self.inside.read) (ok_of c.args.parsed c.in_default.not-Err)) c.in-Statement.is takes)

pub returns-clause-executed : goal.returns-clause-executed
returns-clause-executed g c =
    let old : WalkValue = record { step = c.self.inside.job; number = c.self.inside.number; read = c.self.inside.read; request = c.self.inside.request; reply = c.self.inside.reply } in
    let new : WalkValue = record { step = Some c.serve.new.self; number = c.self.inside.number; read = c.self.inside.read; request = c.serve.new.request; reply = c.serve.new.reply } in
    rw (← c.self.view_is) (λ bytes reading. event_answered (Takes c.args.hints.now) old new bytes (is_first old.step) (filled c.self.inside.read c.args.parsed) refl reading
    c.self.inside.read c.in-Statement.task c.in-Statement.statement c.in-Some-job.job c.serve.new.self c.in_ok-answer.answer (ap (filled c.self.inside.read) (ok_of c.args.parsed c.in_default.not-Err)) c.in-Statement.is (sym c.card_of.ensures.card ∙ c.in_default-card_of.is) c.in-Some-job.is refl c.in_ok-answer.ensures.served)

pub returns-clause-reply : goal.returns-clause-reply
returns-clause-reply g c = rw (← c.self.view_is) (λ bytes reading.
    let read = filled c.self.inside.read c.args.parsed in
    let said = said_so (is_first c.self.inside.job) _ bytes read (line.Statement c.in-Statement.task c.in-Statement.statement) refl reading (ap (filled c.self.inside.read) (ok_of c.args.parsed c.in_default.not-Err) ∙ ap (λ x. Ok x) c.in-Statement.is) in
    (c.in-Statement.statement, c.in-Some-job.job, c.serve.new.self, said, c.in-Some-job.is, refl, c.in_ok-answer.ensures.reply))

pub returns-clause-observed : goal.returns-clause-observed
returns-clause-observed g c = rw (← c.self.view_is) (λ bytes reading.
    let read = filled c.self.inside.read c.args.parsed in
    let said = said_so (is_first c.self.inside.job) _ bytes read (line.Statement c.in-Statement.task c.in-Statement.statement) refl reading (ap (filled c.self.inside.read) (ok_of c.args.parsed c.in_default.not-Err) ∙ ap (λ x. Ok x) c.in-Statement.is) in
    (c.in-Statement.statement, c.in-Some-job.job, c.serve.new.self, said, c.in-Some-job.is, refl, c.in_ok-answer.ensures.observed))

pub returns-clause-full_answer : goal.returns-clause-full_answer
returns-clause-full_answer g c = (c.serve.new.self, refl, c.in_ok-answer.ensures.full_answer)

pub returns-clause-request : goal.returns-clause-request
returns-clause-request g c = subst (λ l. KeepsRequestIn (Some c.serve.new.self) l c.in_ok-answer.answer c.serve.new.request) (sym c.in-Statement.is) c.in_ok-answer.ensures.request
