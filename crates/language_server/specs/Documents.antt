-- A document: its faults, and what a run of it prints.
use Rattle.std.specs.Prelude.{◌≡◌, ◌⊎◌, ◌<◌, Bool, List, [], length, Option, Some, None, slice_get, ℕ, true}
use Rattle.mvs_model.specs.Lines.{lines_of}
use Rattle.language_server.specs.declared.runnable.FaultAt.{FaultAt}
use Rattle.language_server.specs.Runnable.{faults_from, without_faults}
use Rattle.language_server.specs.Leaks.{AreLeaks}
use Rattle.language_server.specs.Transcripts.{IsTranscript}
use Rattle.language_server.specs.LineOutputs.{LineOutputValue, line_outputs}

-- a document: its text, its faults, what a run printed for each line, whether that is all, and the reports of areas that were never
-- released
pub record DocumentValue : Type 0 where
  pub text : List ℕ
  pub faults : List FaultAt
  pub outputs : List LineOutputValue
  pub is_whole : Bool
  pub leaks : List ℕ

-- The document has this text and its faults; for each line what a run of the text, without the lines with a fault, prints for it; and the
-- reports of such a run.
pub record IsAnalysed (text : List ℕ) (d : DocumentValue) : Type 0 where
  pub printed : List ℕ
  pub is_text : d.text ≡ text
  pub is_run : IsTranscript (without_faults text) printed d.is_whole
  pub is_faults : d.faults ≡ faults_from 0 true (lines_of text)
  pub is_outputs : d.outputs ≡ line_outputs 1 (lines_of text) (lines_of printed)
  pub is_leaks : AreLeaks (without_faults text) d.leaks

-- what a run printed for a line: its answer, and the other lines
abbrev pub answer_of : Option LineOutputValue → List ℕ
answer_of None = []
answer_of (Some output) = output.answer

abbrev pub answer_at : DocumentValue → ℕ → List ℕ
answer_at d n = answer_of (slice_get d.outputs n)

abbrev pub others_of : Option LineOutputValue → List ℕ
others_of None = []
others_of (Some output) = output.others

abbrev pub others_at : DocumentValue → ℕ → List ℕ
others_at d n = others_of (slice_get d.outputs n)

-- A text is too long, or the script that is run of it.
abbrev pub IsTooLong : List ℕ → Type 0
IsTooLong text = (1048576 < length text) ⊎ (1048577 < length (without_faults text))
