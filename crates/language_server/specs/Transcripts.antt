-- What a run of a script prints, with explanations.
use Rattle.std.specs.Prelude.{◌≡◌, ℕ, Bool, true, false, List, length, Ok, Err}
use Rattle.mvs_model.specs.declared.outcome.Outcome.{Outcome}
use Rattle.mvs_job.specs.declared.printing.Stop.TheVariants as stop
use Rattle.mvs_job.specs.Explained.{IsExplained}

-- the most bytes that are shown
abbrev pub most_printed : ℕ
most_printed = 4194304

-- The text is what a run of the script prints, or a front of that, which has as many bytes as are shown.
abbrev pub IsTranscript : List ℕ → List ℕ → Bool → Type 0
IsTranscript script text true = (outcome : Outcome) × IsExplained script text (Ok outcome)
IsTranscript script text false = IsExplained script text (Err stop.Write) × (length text ≡ most_printed)
