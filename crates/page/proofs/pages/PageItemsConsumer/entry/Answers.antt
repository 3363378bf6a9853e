use Rattle.std.proofs.Common.{◌≡◌, ◌++◌, ◌∙◌, ap, subst, sym}
use Rattle.std.proofs.KnownBytes.{Keeps-refl}
use Rattle.std.proofs.lemmas.Result.{err_from_is_err_and}
use Rattle.mvs_model.specs.declared.line.Line.{Line}
use Rattle.mvs_job.specs.Explained.{set_by_entries}
use Rattle.mvs_job.specs.Explaining.{explanation_text}
use Rattle.mvs_job.specs.Looking.{IsLooking}
use Rattle.mvs_job.specs.NamedAddress.{names_after}
use Rattle.mvs_job.specs.LineEvents.{events_of_line}
use Rattle.mvs_job.specs.Trace.{Executed}
use Rattle.mvs_job.proofs.AfterLines.{line_keeps}
use Rattle.mvs_job.proofs.ExplainedLine.{executed_why, needs_names, set_next}
use Rattle.area_history.specs.Chronicles.{history_of}
use Rattle.area_history.specs.Histories.{FoundAt, findings_of, found_in, history_from, no_history, stays_at}
use Rattle.area_history.specs.HistoryTexts.{findings_text}
use Rattle.area_history.proofs.Recording.{findings_are, history_snoc, history_stays, kept_as, line_found, needs_some, next_history, stays_are}
use Rattle.page.proofs.Heard.{chronicle_sees, explained_sees}
use Rattle.page.proofs.Paged.{accepts_item, history_needs, item_needs, may_item, names_need}
use Rattle.page.specs.Items.{item_of_event}
use Rattle.page.specs.Pages.{IsWords}
use Rattle.page.proofs.pages.PageItemsConsumer.entry.Goals as goal

pub returns-in_err-keep-clause-accepted : goal.returns-in_err-keep-clause-accepted
returns-in_err-keep-clause-accepted g c first mid history e is follows seen observed known =
    let n = c.args.line_number in
    let line = c.args.line.now in
    let w = c.args.walk.now in
    let t = c.args.line_event.now in
    let lacks = c.in_err-keep.ensures.err in
    let p = err_from_is_err_and c.from_residual.result c.from_residual.ensures.1 in
    rw (p.1, p.2) ((names_need e e.kind (needs_names n line w e w.read is.read lacks.0 t lacks.1 is), Keeps-refl _), tt)

pub returns-in_err-keep-2-clause-accepted : goal.returns-in_err-keep-2-clause-accepted
returns-in_err-keep-2-clause-accepted g c first mid history e is follows seen observed known =
    let lacks = c.in_err-keep-2.ensures.err is.request in
    let p = err_from_is_err_and c.from_residual-in_err-keep-2.result c.from_residual-in_err-keep-2.ensures.1 in
    rw (p.1, p.2) ((history_needs e (needs_some c.args.line_number c.args.line.now c.args.walk.now c.args.line_event.now e is c.settle.new.self lacks), Keeps-refl _), tt)

pub returns-clause-accepted : goal.returns-clause-accepted
returns-clause-accepted g c first mid history e is follows seen observed known =
    let n = c.args.line_number in
    let line = c.args.line.now in
    let w = c.args.walk.now in
    let t = c.args.line_event.now in
    let self = c.args.self.now.explained in
    let x = c.keep.new.self in
    let events = events_of_line n w t in
    let heard = explained_sees mid c.args.self.now e.before line t w observed in
    let look = subst (λ set. IsLooking e.before set w.read mid.explained) known.0 seen.0 in
    let whys = executed_why n line w e (set_by_entries history) mid.explained self x look c.keep.ensures.why c.keep.ensures.naming t c.keep.ensures.reason is heard in
    let stays = line_keeps e.before w line mid.explained self t heard in
    let set = ap (λ s. names_after n s w.read events) (stays ∙ known.0) ∙ set_next n line w e history w.read is.read t is in
    let l = history_from no_history history in
    let old = c.args.self.now.chronicle in
    let new = c.keep-2.new.self in
    let hears = chronicle_sees mid c.args.self.now e.before line t w observed in
    let found = subst (λ h. FoundAt h e.before e.kind (found_in old.found)) known.1 (line_found mid.chronicle old seen.1 n line w e t is.of_line hears) in
    let left = ap (λ f. f.stays) c.keep-2.ensures.found ∙ c.settle.ensures.stays n ∙ stays_are n line w t e is (history_of old) l (history_stays n line w t e is mid.chronicle old hears ∙ known.1) in
    let findings = findings_are new.found (found_in old.found) (stays_at l e) (ap found_in c.keep-2.ensures.found ∙ c.settle.ensures.found) left in
    let kept = kept_as old c.settle.new.self new n w.read events w.step c.settle.ensures.same (c.in_ok-keep-2.ensures.ok is.request) in
    let next = next_history n line w t e is mid.chronicle old hears l new known.1 kept in
    let why = explanation_text x w.read events w.step in
    let words = why ++ findings_text new.found in
    let are : (said : Line) → e.kind ≡ Executed said → IsWords history e said words = λ said kind. record { why = why; explains = whys said kind; found = found_in old.found; shows = subst (λ k. FoundAt l e.before k (found_in old.found)) kind found; are = ap (λ f. why ++ findings_text f) findings } in
    accepts_item _ _ first c.write_item.new.self history e t (item_of_event n line w.read w t words) c.write_item.result (c.write_item.ensures.item is.request)
    (may_item n line w e history words t is are) (item_needs n line w e t is)
    (c.write_item.ensures.lines ∙ c.in_ok-keep.ensures.lines ∙ set, ap history_of c.write_item.ensures.history ∙ next ∙ sym (history_snoc no_history history e))
