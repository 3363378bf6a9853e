use Rattle.std.proofs.Common.{inl, inr, Err, Ok, [], ap, map, subst, sym, ◌∙◌}
use Rattle.std.proofs.lemmas.Result.{err_from_is_err_and}
use Rattle.request_forms.specs.Taking.{Takes}
use Rattle.mvs_job.specs.LineEvents.{IsReadIn, ServesAs}
use Rattle.mvs_job.specs.Observing.{ObservesLine}
use Rattle.mvs_job.proofs.Accepting.{accepted_at, entry_stopped}
use Rattle.mvs_job.proofs.Serving.{read_in, serves_before, serves_unconditionally, stops_before}
use Rattle.mvs_job.proofs.Entries.{entry_any, entry_executed, entry_exhausted, entry_faulty}
use Rattle.mvs_job.specs.declared.consumer.End.TheVariants as end
use Rattle.schedules.specs.InOrder.{knows_with_numbers, renumbered, with_numbers}
use Rattle.schedules.proofs.Renumbering.{last_again, line_again}
use Rattle.schedules.proofs.in_order.run_entry_as.Goals as goal
use Rattle.schedules.proofs.in_order.run_entry_as.Goals.{in-Faulted, in_default}

pub returns-after-matches-clause-ran : goal.returns-after-matches-clause-ran
returns-after-matches-clause-ran g c first history leads known =
    let w = c.args.walk.now in
    let parsed = c.parse-parsed.new.self in
    let w' = c.execute.new.self in
    let line = c.args.line.now in
    let n = c.number-place.result in
    let mid = c.look.new.self in
    let step = ap (λ m. m.step) c.parse-parsed.ensures.rest in
    let executed : ServesAs w line c.in-Ok.line_event w' = serves_unconditionally (Takes []) w w' line c.in-Ok.line_event (serves_before (Takes []) w parsed w' line c.parse-parsed.ensures.rest c.in-Ok.line_event (c.in-Ok.ensures.executed line c.parse-parsed.ensures.reading)) in
    let reads : IsReadIn w.step line w'.read = subst (λ l. IsReadIn w.step line l) (sym c.execute.ensures.read) (subst (λ o. IsReadIn o line parsed.read) step (read_in parsed.step line parsed.read c.parse-parsed.result c.parse-parsed.ensures.reading c.parse-parsed.ensures.fault)) in
    let seen = subst (λ o. g.C.Consumer.sees mid o w'.read) step (subst (λ l. g.C.Consumer.sees mid parsed.step l) (sym c.execute.ensures.read) c.look.ensures.sees) in
    let observed = subst (λ o. ObservesLine g.C.Observer.heard mid o line c.in-Ok.line_event w' c.execute.new.observer) step (c.in-Ok.ensures.observed line c.parse-parsed.ensures.reading) in
    let accepts = accepted_at (with_numbers c.args.numbers.now g.C.Consumer.piece) g.C.Observer.heard g.C.Consumer.sees (knows_with_numbers c.args.numbers.now (g.C.Consumer.knows first)) _ _ c.execute.new.observer c.entry.new.self mid w w' line n c.in-Ok.line_event history {X = Unit {0}} (Ok tt) in
    let mine = c.look.ensures.knows first (map (renumbered c.args.numbers.now) history) known in
    elim c.match-matches.branch [
      | in-Faulted b ↦ rw (b.matches-is) (let r = entry_faulty w w' line reads n c.in-Ok.line_event _ c.number-place.ensures b.in-Faulted.is executed in let q = accepts r.0 (line_again c.args.numbers.now g.C.Consumer.piece g.C.Observer.heard g.C.Consumer.sees (g.C.Consumer.knows first) _ _ c.execute.new.observer c.entry.new.self n c.number_at-line_number.result line w' c.in-Ok.line_event {X = Unit {0}} (Ok tt) c.number_at-line_number.ensures (c.in_ok-entry-in-Ok.ensures.accepted first)) (inr (inl r.1)) r.2 leads seen observed mine in (r.0, r.1, q.0, q.1))
      | in_default b ↦ rw (b.matches-is) (let r = entry_executed w w' line reads n c.in-Ok.line_event c.number-place.ensures b.in_default.not-Faulted executed c.in-Ok.ensures.request in let q = accepts r.0 (line_again c.args.numbers.now g.C.Consumer.piece g.C.Observer.heard g.C.Consumer.sees (g.C.Consumer.knows first) _ _ c.execute.new.observer c.entry.new.self n c.number_at-line_number.result line w' c.in-Ok.line_event {X = Unit {0}} (Ok tt) c.number_at-line_number.ensures (c.in_ok-entry-in-Ok.ensures.accepted first)) (inl r.1.0) r.2 leads seen observed mine in (r.0, r.1.0, r.1.1, q.0, q.1))
    ]

pub returns-in_err-entry-in-Ok-clause-ran : goal.returns-in_err-entry-in-Ok-clause-ran
returns-in_err-entry-in-Ok-clause-ran g c first history leads known =
    let w = c.args.walk.now in
    let parsed = c.parse-parsed.new.self in
    let w' = c.execute.new.self in
    let line = c.args.line.now in
    let n = c.number-place.result in
    let mid = c.look.new.self in
    let step = ap (λ m. m.step) c.parse-parsed.ensures.rest in
    let executed : ServesAs w line c.in-Ok.line_event w' = serves_unconditionally (Takes []) w w' line c.in-Ok.line_event (serves_before (Takes []) w parsed w' line c.parse-parsed.ensures.rest c.in-Ok.line_event (c.in-Ok.ensures.executed line c.parse-parsed.ensures.reading)) in
    let reads : IsReadIn w.step line w'.read = subst (λ l. IsReadIn w.step line l) (sym c.execute.ensures.read) (subst (λ o. IsReadIn o line parsed.read) step (read_in parsed.step line parsed.read c.parse-parsed.result c.parse-parsed.ensures.reading c.parse-parsed.ensures.fault)) in
    let seen = subst (λ o. g.C.Consumer.sees mid o w'.read) step (subst (λ l. g.C.Consumer.sees mid parsed.step l) (sym c.execute.ensures.read) c.look.ensures.sees) in
    let observed = subst (λ o. ObservesLine g.C.Observer.heard mid o line c.in-Ok.line_event w' c.execute.new.observer) step (c.in-Ok.ensures.observed line c.parse-parsed.ensures.reading) in
    let r = entry_any w w' line reads n c.in-Ok.line_event c.number-place.ensures executed c.in-Ok.ensures.request in
    let q = accepted_at (with_numbers c.args.numbers.now g.C.Consumer.piece) g.C.Observer.heard g.C.Consumer.sees (knows_with_numbers c.args.numbers.now (g.C.Consumer.knows first)) _ _ c.execute.new.observer c.entry.new.self mid w w' line n c.in-Ok.line_event history {X = Unit {0}} (Err c.in_err-entry-in-Ok.field-0.0) r.0 (line_again c.args.numbers.now g.C.Consumer.piece g.C.Observer.heard g.C.Consumer.sees (g.C.Consumer.knows first) _ _ c.execute.new.observer c.entry.new.self n c.number_at-line_number.result line w' c.in-Ok.line_event {X = Unit {0}} (Err c.in_err-entry-in-Ok.field-0.0) c.number_at-line_number.ensures (c.in_err-entry-in-Ok.ensures.accepted first)) r.1 r.2 leads seen observed
    (c.look.ensures.knows first (map (renumbered c.args.numbers.now) history) known) in
    let p = err_from_is_err_and c.from_residual.result c.from_residual.ensures.1 in
    rw (p.1, p.2) (entry_stopped (with_numbers c.args.numbers.now g.C.Consumer.piece) g.C.Observer.heard g.C.Consumer.sees (knows_with_numbers c.args.numbers.now (g.C.Consumer.knows first)) _ _ c.execute.new.observer c.entry.new.self mid w w' line n c.in-Ok.line_event history (Unit {0}) c.in_err-entry-in-Ok.field-0.0 r.0 r.1 q)

pub returns-in_ok-end-in-Err-clause-ran : goal.returns-in_ok-end-in-Err-clause-ran
returns-in_ok-end-in-Err-clause-ran g c first history leads known =
    let w = c.args.walk.now in
    let line = c.args.line.now in
    let r = entry_exhausted w line c.number-place.result c.in-Err.stopped.ended c.number-place.ensures (stops_before (Takes []) w c.parse-parsed.new.self c.execute.new.self line c.parse-parsed.ensures.rest _ (c.in-Err.ensures.executed line c.parse-parsed.ensures.reading)) in
    let mine = subst (λ s. (knows_with_numbers c.args.numbers.now (g.C.Consumer.knows first)).has s history) (sym c.in-Err.ensures.unheard) (c.look.ensures.knows first (map (renumbered c.args.numbers.now) history) known) in
    let q = last_again c.args.numbers.now g.C.Consumer.piece (g.C.Consumer.knows first) _ _ c.execute.new.observer c.end.new.self c.number-place.result c.number_at-line_number.result c.execute.new.self (end.Exhausted c.in-Err.stopped.ended) {X = Unit {0}} (Ok tt) c.number_at-line_number.ensures (c.in_ok-end-in-Err.ensures.accepted first) history r.0 r.2.0 tt (r.2.1 ∙ leads) mine in
    inl (r.0, r.1, q.0, q.1)

pub returns-in_err-end-in-Err-clause-ran : goal.returns-in_err-end-in-Err-clause-ran
returns-in_err-end-in-Err-clause-ran g c first history leads known =
    let w = c.args.walk.now in
    let line = c.args.line.now in
    let r = entry_exhausted w line c.number-place.result c.in-Err.stopped.ended c.number-place.ensures (stops_before (Takes []) w c.parse-parsed.new.self c.execute.new.self line c.parse-parsed.ensures.rest _ (c.in-Err.ensures.executed line c.parse-parsed.ensures.reading)) in
    let mine = subst (λ s. (knows_with_numbers c.args.numbers.now (g.C.Consumer.knows first)).has s history) (sym c.in-Err.ensures.unheard) (c.look.ensures.knows first (map (renumbered c.args.numbers.now) history) known) in
    let q = last_again c.args.numbers.now g.C.Consumer.piece (g.C.Consumer.knows first) _ _ c.execute.new.observer c.end.new.self c.number-place.result c.number_at-line_number.result c.execute.new.self (end.Exhausted c.in-Err.stopped.ended) {X = Unit {0}} (Err c.in_err-end-in-Err.field-0.0) c.number_at-line_number.ensures (c.in_err-end-in-Err.ensures.accepted first) history r.0 r.2.0 tt (r.2.1 ∙ leads) mine in
    let p = err_from_is_err_and c.from_residual-in_err-end-in-Err.result c.from_residual-in_err-end-in-Err.ensures.1 in
    rw (p.1, p.2) (r.0, inr (inr r.1), q.0, q.1)
