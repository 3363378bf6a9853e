-- What is written of a run while its explanations may be switched off and on.
use Rattle.std.specs.Prelude.{◌≡◌, ◌⊎◌, ℕ, List, Ok}
use Rattle.mvs_model.specs.declared.outcome.Outcome.{Outcome}
use Rattle.mvs_model.specs.Runs.{IsPrinting}
use Rattle.mvs_job.specs.Consuming.{Known, Piece, WritesText}
use Rattle.mvs_job.specs.Explained.{explained, set_by_entries}
use Rattle.mvs_job.specs.Explaining.{without_starred}
use Rattle.mvs_job.specs.Printed.{printed}
use Rattle.area_history.specs.Chronicles.{IsHistory}
use Rattle.area_history.specs.Histories.{history_from, no_history, with_history}
use Rattle.area_history.specs.HistoryTexts.{findings_text}
use Rattle.area_history.specs.LeakTexts.{report_text}
use Rattle.area_history.specs.Reporting.{with_leaks}
use Rattle.terminal_session.specs.declared.switched.Switched.{Switched}

-- what is written for an entry: its events, or what another consumer writes; for each, memory may be needed
abbrev pub switched : Piece → Piece
switched piece = record { may = λ history e text. printed.may history e text ⊎ piece.may history e text; needs = λ e. Unit {0} }

-- with explanations and what the history of the storage says
abbrev pub switched_history : Piece
switched_history = switched (with_history findings_text explained)

-- What is known of a printer whose explanations are switched: it has the names that the entries have set, each with its line, and the
-- history of the storage.
abbrev pub knows_switched : Switched → Known Switched
knows_switched first = record {
  has = λ now entries. (now.explained.lines ≡ set_by_entries entries) × IsHistory now.chronicle (history_from no_history entries);
  had = λ now entries. Unit {0};
}

-- Without its lines that begin with an asterisk it is the printing of a run.
abbrev pub SwitchedArePrintings : Type 0
SwitchedArePrintings = (script text : List ℕ) (outcome : Outcome) → WritesText switched_history script text (Ok outcome) → IsPrinting script (without_starred text) outcome

-- So it is with reports of leaks.
abbrev pub SwitchedLeaksArePrintings : Type 0
SwitchedLeaksArePrintings = (script text : List ℕ) (outcome : Outcome) → WritesText (with_leaks report_text switched_history) script text (Ok outcome) → IsPrinting script (without_starred text) outcome
