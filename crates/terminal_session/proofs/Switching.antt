-- A printer whose explanations are switched.
use Rattle.std.proofs.Common.{◌≡◌, ◌++◌, ℕ, ap, append_assoc, inl, inr, List, [], append-nil, Option, refl, sym, ◌∙◌}
use Rattle.mvs_model.specs.Job.{JobValue}
use Rattle.mvs_model.specs.Texts.{printing}
use Rattle.mvs_job.specs.declared.walk.LineEvent.{LineEvent}
use Rattle.mvs_job.specs.Explained.{explained, set_by_entries}
use Rattle.mvs_job.specs.Explaining.{NoLineIsStarred}
use Rattle.mvs_job.specs.LineEvents.{WalkValue}
use Rattle.mvs_job.specs.Looking.{KeepsExplained}
use Rattle.mvs_job.specs.Observing.{Hearing, ObservesLine}
use Rattle.mvs_job.specs.Trace.{Entry}
use Rattle.mvs_job.proofs.AfterLines.{keeps}
use Rattle.mvs_job.proofs.Hearing.{line_part}
use Rattle.mvs_job.proofs.Starred.{IsLeftOut, entry_out, none_left_out, out_both, printed_then, starred_are}
use Rattle.area_history.specs.Chronicles.{HearsHistory}
use Rattle.area_history.specs.Histories.{findings_of, history_from, no_history, stays_at, with_history}
use Rattle.area_history.specs.HistoryTexts.{findings_text}
use Rattle.area_history.specs.LeakTexts.{report_text}
use Rattle.area_history.specs.Ledgers.{leaks_at}
use Rattle.area_history.specs.Reporting.{with_leaks}
use Rattle.area_history.proofs.Printings.{entry_left, findings_out}
use Rattle.area_history.proofs.Recording.{hears}
use Rattle.terminal_session.specs.declared.switched.Switched.{Switched}
use Rattle.terminal_session.specs.Switching.{SwitchedArePrintings, SwitchedLeaksArePrintings, switched_history}

-- ---- what it keeps of a refusal

abbrev heard : Hearing Switched
heard old job t request refusal left new = KeepsExplained old.explained job t request refusal new.explained × HearsHistory old.chronicle job t request refusal new.chronicle

-- what its explanations hear
pub explained_sees : (mid self : Switched) (step : Option JobValue) (bytes : List ℕ) (t : LineEvent) (w : WalkValue) → ObservesLine heard mid step bytes t w self → ObservesLine keeps mid.explained step bytes t w self.explained
explained_sees mid self step bytes t w h = line_part mid self (λ s. s.explained) heard keeps (λ job t request refusal left k. k.0) step bytes t w h

-- what its history hears
pub chronicle_sees : (mid self : Switched) (step : Option JobValue) (bytes : List ℕ) (t : LineEvent) (w : WalkValue) → ObservesLine heard mid step bytes t w self → ObservesLine hears mid.chronicle step bytes t w self.chronicle
chronicle_sees mid self step bytes t w h = line_part mid self (λ s. s.chronicle) heard hears (λ job t request refusal left k. k.1) step bytes t w h

-- ---- what is written is the printing, and lines that begin with an asterisk

-- The text of an entry is the printing of its events, and what is left out.
abbrev IsPrintedThen : Entry → List ℕ → Type 0
IsPrintedThen e text = (why : List ℕ) × (text ≡ printing e.events ++ why) × IsLeftOut why

history_out : (history : List Entry) (e : Entry) (text : List ℕ) → (with_history findings_text explained).may history e text → IsPrintedThen e text
history_out history e text w =
    let findings = findings_of w.1 (stays_at (history_from no_history history) e) in
    let x = entry_out (set_by_entries history) e e.kind w.0 w.2 in
    (x.0 ++ findings_text findings, w.4 ∙ ap (λ t. t ++ findings_text findings) x.1 ∙ append_assoc (printing e.events) x.0 (findings_text findings), out_both x.0 (findings_text findings) x.2 (findings_out findings))

switched_out : (history : List Entry) (e : Entry) (text : List ℕ) → switched_history.may history e text → IsPrintedThen e text
switched_out history e text (inl is) = ([], is ∙ sym (append-nil (printing e.events)), none_left_out [] refl)
switched_out history e text (inr is) = history_out history e text is

pub switched_are : NoLineIsStarred → SwitchedArePrintings
switched_are none = starred_are switched_history (λ history e one more is. let w = switched_out history e one is in printed_then e.events one w.0 more w.1 w.2) none

pub switched_leaks_are : NoLineIsStarred → SwitchedLeaksArePrintings
switched_leaks_are none =
    starred_are (with_leaks report_text switched_history) (λ history e text more w. let x = switched_out history e w.0 w.1 in entry_left e w.0 x.0 more text (leaks_at history e) x.1 x.2 w.2) none
