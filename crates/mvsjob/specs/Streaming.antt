-- What is written of a script that is read as it comes.
use Rattle.std.specs.Prelude.{List, ℕ, Option, Result, Ok, Err}
use Rattle.std.specs.Io.KnownBytes.{Appends}
use Rattle.mvs_model.specs.declared.outcome.Outcome.{Outcome}
use Rattle.mvs_job.specs.declared.run.RunFault.{RunFault}
use Rattle.mvs_job.specs.Exchanging.{Exchanges, IsRest}
use Rattle.page.specs.Pages.{IsPage, StopsPage}

-- If it is known what is left to read, P holds for it and for what is written; otherwise for some bytes and what is written.
abbrev pub Writes : Option (List ℕ) → Option (List ℕ) → Option (List ℕ) → (List ℕ → List ℕ → Type 0) → Type 0
Writes left before after P = (script : List ℕ) × (written : List ℕ) × IsRest left script × Appends before after written × P script written

-- If it is known what is left to read, a front of it was consumed; and P holds for that front, for all of it, and for what is
-- written.
abbrev pub WritesPart : Option (List ℕ) → Option (List ℕ) → Option (List ℕ) → (List ℕ → List ℕ → List ℕ → Type 0) → Type 0
WritesPart unread before after P = (left : Option (List ℕ)) × Exchanges unread left before after P

-- What is written of a script that is read is the page of its run with this fixed part, or the beginning of one if the run stops.
abbrev pub WritesPageOf : Option (List ℕ) → Option (List ℕ) → Option (List ℕ) → List ℕ → Result Outcome RunFault → Type 0
WritesPageOf unread before after frame (Ok outcome) = Writes unread before after (λ script text. IsPage frame script text (Ok outcome))
WritesPageOf unread before after frame (Err fault) = WritesPart unread before after (λ consumed script text. StopsPage frame consumed script text fault)
