-- What is written of a run with a report of leaks at the end of each step.
use Rattle.std.specs.Prelude.{◌≡◌, ◌≢◌, ◌⊎◌, ◌||◌, ◌&&◌, ◌==◌, ℕ, List, [], ◌∷◌, ◌++◌, Bool, true, Option, is_some, if◌then◌else◌, Ok}
use Rattle.std.specs.Io.KnownBytes.{Appends}
use Rattle.mvs_model.specs.declared.outcome.Outcome.{Outcome}
use Rattle.mvs_model.specs.Runs.{IsPrinting}
use Rattle.mvs_job.specs.Consuming.{Piece, WritesPieces, WritesText}
use Rattle.mvs_job.specs.Explained.{explained}
use Rattle.mvs_job.specs.Explaining.{without_starred}
use Rattle.mvs_job.specs.Printed.{printed}
use Rattle.mvs_job.specs.Trace.{Ends, Entry, IsTrace}
use Rattle.area_history.specs.declared.account.Account.{Account}
use Rattle.area_history.specs.declared.account.Leftovers.{Leftovers}
use Rattle.area_history.specs.Accounts.{IsLedger, summary_of}
use Rattle.area_history.specs.Ledgers.{Left, any_leak, begun, ends_step, granted_at, ledger_from, leaks_at, no_step, some_leak}
use Rattle.area_history.specs.LeakTexts.{report_text}

-- a text with another one after its first line
abbrev pub after_first_line : List ℕ → List ℕ → List ℕ
after_first_line more [] = more
after_first_line more (b ∷ text) = if b == 10 then b ∷ more ++ text else b ∷ after_first_line more text

-- whether a step ends with an entry, and another one begins
abbrev pub changes_step : Entry → Bool
changes_step e = ends_step e && is_some (begun e.events)

-- the text of an entry with a report: the report comes after the line about the end of the step, which is the first
abbrev pub with_report : List ℕ → Entry → List ℕ → List ℕ
with_report report e text = if changes_step e then after_first_line report text else text ++ report

-- the text of an entry with which a step ends in which this is left, or nothing
abbrev pub reported : (Leftovers → List ℕ) → Left → Entry → List ℕ → List ℕ
reported report left e text = if some_leak left then with_report (report (summary_of left)) e text else text

-- What is written for an entry: what another consumer writes, with a report of this form of the leaks of the step that ends. Memory may be needed
-- for the areas that a line is granted, and for the text of an entry with the end of a step.
abbrev pub with_leaks : (Leftovers → List ℕ) → Piece → Piece
with_leaks report piece = record {
  may = λ history e text. (one : List ℕ) × piece.may history e one × (text ≡ reported report (leaks_at history e) e one);
  needs = λ e. piece.needs e ⊎ (granted_at e ≢ []) ⊎ (changes_step e ≡ true);
}

-- A reporter has these entries: its account is that of the step that runs, and it knows whether a step ended with a leak so far.
pub record Knows (first now : Bool) (a : Account) (entries : List Entry) : Type 0 where
  pub ledger : IsLedger a (ledger_from no_step entries)
  pub leaked : now ≡ (any_leak no_step entries || first)

-- The text between two moments of a writer is what a consumer writes for these entries, a trace of the script that ends so, with reports
-- of leaks; and this is whether a step of them ends with a leak.
pub record IsReported (report : Leftovers → List ℕ) (piece : Piece) (before after : Option (List ℕ)) (script : List ℕ) (outcome : Outcome) (leaked : Bool) (entries : List Entry) : Type 0 where
  pub trace : IsTrace script entries (Ends outcome)
  pub text : List ℕ
  pub is : WritesPieces (with_leaks report piece) entries text
  pub appended : Appends before after text
  pub leaks : leaked ≡ any_leak no_step entries

-- The printing of a run, or one with explanations, with reports of leaks, is the printing of a run without its lines that begin with an
-- asterisk.
abbrev pub LeaksArePrintings : Type 0
LeaksArePrintings = (script text : List ℕ) (outcome : Outcome) → WritesText (with_leaks report_text printed) script text (Ok outcome) → IsPrinting script (without_starred text) outcome

abbrev pub ExplainedLeaksArePrintings : Type 0
ExplainedLeaksArePrintings = (script text : List ℕ) (outcome : Outcome) → WritesText (with_leaks report_text explained) script text (Ok outcome) → IsPrinting script (without_starred text) outcome
