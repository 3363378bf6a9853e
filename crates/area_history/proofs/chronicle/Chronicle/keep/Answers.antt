use Rattle.std.proofs.Common.{[], ◌++◌, ◌∙◌, ap, inr, length, refl, sym}
use Rattle.std.specs.Prelude.{if◌then◌else◌, is_some}
use Rattle.mvs_job.specs.LineEvents.{events_of_line}
use Rattle.area_history.specs.Histories.{events_by}
use Rattle.area_history.specs.Ledgers.{granted_by}
use Rattle.area_history.proofs.Asked.{none_begun}
use Rattle.area_history.proofs.Recording.{err_maps, ok_maps}
use Rattle.area_history.proofs.chronicle.Chronicle.keep.Goals as goal

pub returns : goal.returns
returns c =
    let old = c.args.self.now in
    let n = c.args.number in
    let w = c.args.walk.now in
    let events = events_of_line n w c.args.line_event.now in
    let none = sym (none_begun n w c.args.line_event.now c.in_default.not-StepBegan) in
    let counted = ap (λ k. events_by n w.read events w.step k) c.len-areas.ensures in
    record {
      ok = ok_maps c.push_events.result (λ h has. record {
        areas = c.in_ok-push_granted.ensures.ok ∙ ap (λ l. old.areas ++ granted_by n l events w.step) c.read.ensures ∙ ap (λ b. if is_some b then [] else old.areas ++ granted_by n w.read events w.step) none;
        changes = h has ∙ ap (λ v. old.events ++ v) counted ∙ ap (λ b. if is_some b then [] else old.events ++ events_by n w.read events w.step (length old.areas)) none;
      }) c.push_events.ensures.ok;
      found = refl;
      err = err_maps c.push_events.result (λ h has. inr (λ none. h has (counted ∙ none))) c.push_events.ensures.err;
    }
