use Rattle.std.proofs.Common.{[], refl, subst, sym, ◌∙◌, ap}
use Rattle.std.proofs.lemmas.Result.{err_from_is_err_and}
use Rattle.mvs_job.specs.declared.explained.Explained.{Explained}
use Rattle.mvs_job.specs.Explaining.{IsExplanationText, explanation_text}
use Rattle.mvs_job.specs.Granting.{reports_grant}
use Rattle.mvs_job.specs.LineEvents.{IsReadIn, ServesAs, events_of_line}
use Rattle.mvs_job.specs.Looking.{IsLooking}
use Rattle.mvs_job.specs.NamedAddress.{names_after}
use Rattle.mvs_job.specs.Observing.{ObservesLine}
use Rattle.mvs_job.specs.Why.{OfNext, line_reason}
use Rattle.request_forms.specs.Taking.{Takes}
use Rattle.mvs_job.proofs.Kept.{keeps_lines, stops_naming}
use Rattle.mvs_job.proofs.Serving.{read_in, serves_before, serves_unconditionally, stops_before}
use Rattle.mvs_job.proofs.AfterLines.{keeps, kept_after, kept_same, line_keeps, looking_begun}
use Rattle.mvs_job.proofs.explained.Explained.serve.Goals as goal

pub returns-clause-executed : goal.returns-clause-executed
returns-clause-executed c =
    let w = c.args.walk.now in
    let w' = c.execute.new.self in
    let line = c.args.line.now in
    serves_unconditionally (Takes []) w w' line c.in_ok-line_event.line_event (serves_before (Takes []) w c.parse-parsed.new.self w' line c.parse-parsed.ensures.rest c.in_ok-line_event.line_event (c.in_ok-line_event.ensures.executed line c.parse-parsed.ensures.reading))

pub returns-clause-lines : goal.returns-clause-lines
returns-clause-lines c =
    let w = c.args.walk.now in
    let parsed = c.parse-parsed.new.self in
    let w' = c.execute.new.self in
    let line = c.args.line.now in
    let after = c.execute.new.observer in
    let step = ap (λ m. m.step) c.parse-parsed.ensures.rest in
    let tells : ServesAs w line c.in_ok-line_event.line_event w' = serves_unconditionally (Takes []) w w' line c.in_ok-line_event.line_event (serves_before (Takes []) w parsed w' line c.parse-parsed.ensures.rest c.in_ok-line_event.line_event (c.in_ok-line_event.ensures.executed line c.parse-parsed.ensures.reading)) in
    let reads : IsReadIn w.step line w'.read = subst (λ l. IsReadIn w.step line l) (sym c.execute.ensures.read) (subst (λ o. IsReadIn o line parsed.read) step (read_in parsed.step line parsed.read c.parse-parsed.result c.parse-parsed.ensures.reading c.parse-parsed.ensures.fault)) in
    let observed : ObservesLine keeps c.look_at.new.self w.step line c.in_ok-line_event.line_event w' after = subst (λ o. ObservesLine keeps c.look_at.new.self o line c.in_ok-line_event.line_event w' after) step (c.in_ok-line_event.ensures.observed line c.parse-parsed.ensures.reading) in
    let stays = line_keeps w.step w' line c.look_at.new.self after c.in_ok-line_event.line_event observed in
    let kept = c.in_ok-keep.ensures.lines in
    keeps_lines w w' line w'.read reads c.args.self.now.lines after.lines c.keep.new.self.lines (stays ∙ c.look_at.ensures.lines ∙ c.begin.ensures) c.in_ok-line_event.line_event tells
    (rw (c.number-number.ensures) at kept)

pub returns-clause-explained : goal.returns-clause-explained
returns-clause-explained c =
    let set = c.args.self.now.lines in
    let line = c.args.line.now in
    let w = c.args.walk.now in
    let parsed = c.parse-parsed.new.self in
    let w' = c.execute.new.self in
    let mid = c.look_at.new.self in
    let after = c.execute.new.observer in
    let x = c.keep.new.self in
    let events = events_of_line w.number w' c.in_ok-line_event.line_event in
    let step = ap (λ m. m.step) c.parse-parsed.ensures.rest in
    let tells : ServesAs w line c.in_ok-line_event.line_event w' = serves_unconditionally (Takes []) w w' line c.in_ok-line_event.line_event (serves_before (Takes []) w parsed w' line c.parse-parsed.ensures.rest c.in_ok-line_event.line_event (c.in_ok-line_event.ensures.executed line c.parse-parsed.ensures.reading)) in
    let reads : IsReadIn w.step line w'.read = subst (λ l. IsReadIn w.step line l) (sym c.execute.ensures.read) (subst (λ o. IsReadIn o line parsed.read) step (read_in parsed.step line parsed.read c.parse-parsed.result c.parse-parsed.ensures.reading c.parse-parsed.ensures.fault)) in
    let observed : ObservesLine keeps mid w.step line c.in_ok-line_event.line_event w' after = subst (λ o. ObservesLine keeps mid o line c.in_ok-line_event.line_event w' after) step (c.in_ok-line_event.ensures.observed line c.parse-parsed.ensures.reading) in
    let looks : IsLooking w.step c.begin.new.self w'.read mid = subst (λ o. IsLooking o c.begin.new.self w'.read mid) step (subst (λ l. IsLooking parsed.step c.begin.new.self l mid) (sym c.execute.ensures.read) c.look_at.ensures.looking) in
    let look = looking_begun w.step set c.begin.new.self w'.read mid c.begin.ensures looks in
    subst (λ (y : Explained). IsExplanationText w.step set line events w'.step (explanation_text y w'.read events w'.step)) (kept_same set line w'.read mid after x.lines x (line_reason w'.step w'.read after.why.reason c.in_ok-line_event.line_event) c.keep.ensures.why c.keep.ensures.naming c.keep.ensures.reason refl)
    ((kept_after set line w'.read mid after x.lines w w' reads look c.in_ok-line_event.line_event tells observed).0)

pub returns-clause-reason : goal.returns-clause-reason
returns-clause-reason c =
    let set = c.args.self.now.lines in
    let line = c.args.line.now in
    let w = c.args.walk.now in
    let parsed = c.parse-parsed.new.self in
    let w' = c.execute.new.self in
    let mid = c.look_at.new.self in
    let after = c.execute.new.observer in
    let step = ap (λ m. m.step) c.parse-parsed.ensures.rest in
    let tells : ServesAs w line c.in_ok-line_event.line_event w' = serves_unconditionally (Takes []) w w' line c.in_ok-line_event.line_event (serves_before (Takes []) w parsed w' line c.parse-parsed.ensures.rest c.in_ok-line_event.line_event (c.in_ok-line_event.ensures.executed line c.parse-parsed.ensures.reading)) in
    let reads : IsReadIn w.step line w'.read = subst (λ l. IsReadIn w.step line l) (sym c.execute.ensures.read) (subst (λ o. IsReadIn o line parsed.read) step (read_in parsed.step line parsed.read c.parse-parsed.result c.parse-parsed.ensures.reading c.parse-parsed.ensures.fault)) in
    let observed : ObservesLine keeps mid w.step line c.in_ok-line_event.line_event w' after = subst (λ o. ObservesLine keeps mid o line c.in_ok-line_event.line_event w' after) step (c.in_ok-line_event.ensures.observed line c.parse-parsed.ensures.reading) in
    let looks : IsLooking w.step c.begin.new.self w'.read mid = subst (λ o. IsLooking o c.begin.new.self w'.read mid) step (subst (λ l. IsLooking parsed.step c.begin.new.self l mid) (sym c.execute.ensures.read) c.look_at.ensures.looking) in
    let look = looking_begun w.step set c.begin.new.self w'.read mid c.begin.ensures looks in
    subst (λ r. OfNext w.step line (events_of_line w.number w' c.in_ok-line_event.line_event) r) (sym c.keep.ensures.reason) ((kept_after set line w'.read mid after c.keep.new.self.lines w w' reads look c.in_ok-line_event.line_event tells observed).1)

pub returns-in_err-keep-clause-executed : goal.returns-in_err-keep-clause-executed
returns-in_err-keep-clause-executed c =
    let w = c.args.walk.now in
    let parsed = c.parse-parsed.new.self in
    let w' = c.execute.new.self in
    let line = c.args.line.now in
    let step = ap (λ m. m.step) c.parse-parsed.ensures.rest in
    let tells : ServesAs w line c.in_ok-line_event.line_event w' = serves_unconditionally (Takes []) w w' line c.in_ok-line_event.line_event (serves_before (Takes []) w parsed w' line c.parse-parsed.ensures.rest c.in_ok-line_event.line_event (c.in_ok-line_event.ensures.executed line c.parse-parsed.ensures.reading)) in
    let reads : IsReadIn w.step line w'.read = subst (λ l. IsReadIn w.step line l) (sym c.execute.ensures.read) (subst (λ o. IsReadIn o line parsed.read) step (read_in parsed.step line parsed.read c.parse-parsed.result c.parse-parsed.ensures.reading c.parse-parsed.ensures.fault)) in
    let lacks = c.in_err-keep.ensures.err in
    let grant = ap (λ n. reports_grant (events_of_line n w' c.in_ok-line_event.line_event)) (sym c.number-number.ensures) ∙ lacks.1 in
    let p = err_from_is_err_and c.from_residual-in_err-keep.result c.from_residual-in_err-keep.ensures.1 in
    rw (p.1, p.2) (stops_naming w w' line w'.read reads c.in_ok-line_event.line_event tells lacks.0 grant)

pub returns-in_err-line_event-clause-executed : goal.returns-in_err-line_event-clause-executed
returns-in_err-line_event-clause-executed c =
    let p = err_from_is_err_and c.from_residual.result c.from_residual.ensures.1 in
    rw (p.1, p.2) (stops_before (Takes []) c.args.walk.now c.parse-parsed.new.self c.execute.new.self c.args.line.now c.parse-parsed.ensures.rest _ (c.in_err-line_event.ensures.executed c.args.line.now c.parse-parsed.ensures.reading))
