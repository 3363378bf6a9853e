use Rattle.std.proofs.Common.{◌++◌, ◌∙◌, ap}
use Rattle.mvs_job.specs.Explaining.{explanation_text}
use Rattle.mvs_job.specs.LineEvents.{events_of_line}
use Rattle.area_history.specs.HistoryTexts.{findings_text}
use Rattle.page.proofs.pages.PageItems.put_explanation.Goals as goal

pub returns-clause-explanation : goal.returns-clause-explanation
returns-clause-explanation c number =
    let w = c.args.walk.now in
    let why = explanation_text c.args.self.now.explained w.read (events_of_line number w c.args.line_event.now) w.step in
    let empty = ap (λ v. v.items) c.new-words.ensures.inner ∙ c.room_of.ensures in
    let words = (c.in_ok-print_explanation.ensures.printed number).bytes ∙ ap (λ x. x ++ why) empty in
    let all = c.in_ok-print_findings.ensures.bytes ∙ ap (λ x. x ++ findings_text c.found.result.now) words in
    ap (λ v. v.items) c.into_inner.ensures ∙ all ∙ ap (λ f. why ++ findings_text f) c.found.ensures
