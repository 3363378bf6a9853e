-- What C gets of the running step.
use Rattle.std.specs.Prelude.{◌≡◌, ℕ, ◌+◌, ◌^◌, ◌<◌, ◌≤◌, true, false, List, length, replicate, slice_get, Option, Some, None, MatchBool, MatchOption, MatchResult, Result, Err}
use Rattle.std.specs.FinMap.{get}
use Rattle.mvs_model.specs.declared.name.Name.{Name}
use Rattle.mvs_model.specs.declared.report.SubpoolLine.{SubpoolLine}
use Rattle.mvs_model.specs.declared.report.MapRun.{MapRun as Pages}
use Rattle.mvs_model.specs.Changes.{Granted}
use Rattle.mvs_model.specs.Job.{JobValue}
use Rattle.mvs_model.specs.Owners.{is_active}
use Rattle.mvs_model.specs.Numbers.{subpool_numbers}
use Rattle.mvs_model.specs.Place.{IsPlace, place_at}
use Rattle.request_forms.specs.Reports.{HasNone, IsMapEnd, IsMapRun, IsSubpoolLine}
use Rattle.mvs_c.specs.declared.access.Subpool.{Subpool}
use Rattle.mvs_c.specs.declared.access.RunFields.{RunFields}
use Rattle.mvs_job.specs.LineEvents.{WalkValue}
use Rattle.mvs_job.specs.Valued.{WritesOf}
use Rattle.mvs_c.specs.Asks.{IsNamed, name_value}
use Rattle.mvs_c.specs.Opens.{OpenValue, keeps_bytes, without_line}
use Rattle.mvs_c.specs.Reasons.{no_why}
use Rattle.mvs_c.specs.Recording.{forgotten}

-- P holds of the step that runs, and one does.
abbrev pub InStep : OpenValue → (JobValue → Type 0) → Type 0
InStep o P = MatchOption o.session.walk.step ⊥ P

-- A number of bytes from an address on are a place, each byte of which can be accessed.
abbrev pub MayRead : OpenValue → ℕ → ℕ → Type 0
MayRead o address n = InStep o (λ job. IsPlace (place_at address n) × Granted job.state (place_at address n))

-- These are the bytes from an address on.
abbrev pub AreAt : OpenValue → ℕ → List ℕ → Type 0
AreAt o address bytes = InStep o (λ job. (k : ℕ) → k < length bytes → slice_get bytes k ≡ get job.state.bytes (address + k))

-- A buffer is filled with the bytes from an address on, or one of them may not be read, and it stays as it was.
pub record Reads (o : OpenValue) (address : ℕ) (before after : List ℕ) (status : ℕ) : Type 0 where
  pub len : length after ≡ length before
  pub filled : MayRead o address (length before) → AreAt o address after × (status ≡ 0)
  pub refused : (MayRead o address (length before) → ⊥) → (after ≡ before) × (status ≡ 36)

-- Bytes are written from an address on; or the job has ended, or one of them may not be written, and all stays as it was.
pub record WritesAt (old : OpenValue) (address : ℕ) (bytes : List ℕ) (new : OpenValue) (status : ℕ) : Type 0 where
  pub over : old.session.continues ≡ false → (new ≡ old) × (status ≡ 24)
  pub written : old.session.continues ≡ true → MayRead old address (length bytes)
      → (later : WalkValue) × WritesOf old.session.walk (place_at address (length bytes)) bytes true later × (new ≡ without_line later no_why (forgotten old.recorder) old.pages) × (status ≡ 0)
  pub refused : old.session.continues ≡ true → (MayRead old address (length bytes) → ⊥) → (new ≡ old) × (status ≡ 36)

-- A session returns bytes, or writes them, as these say; one without bytes does not.
abbrev pub AnswersRead : OpenValue → ℕ → List ℕ → List ℕ → ℕ → Type 0
AnswersRead o address before after status = MatchBool (keeps_bytes o) (Reads o address before after status) ((after ≡ before) × (status ≡ 68))

abbrev pub AnswersWrite : OpenValue → ℕ → List ℕ → OpenValue → ℕ → Type 0
AnswersWrite old address bytes new status = MatchBool (keeps_bytes old) (WritesAt old address bytes new status) ((new ≡ old) × (status ≡ 68))

-- One of several things is returned, or there is none, and nothing changes.
abbrev pub ReturnsOne : {X Y : Type 0} → Option X → (X → Y) → Y → Y → ℕ → Type 0
ReturnsOne found value_of before after status = MatchOption found ((after ≡ before) × (status ≡ 40)) (λ x. (after ≡ value_of x) × (status ≡ 0))

-- the number of bytes of a line of REPORT SP, and of REPORT MAP
abbrev pub subpool_bytes : ℕ
subpool_bytes = 20

abbrev pub run_bytes : ℕ
run_bytes = 28

-- a line of REPORT SP
abbrev pub subpool_value : SubpoolLine → Subpool
subpool_value l = record { size = subpool_bytes; number = l.number; owned = l.owned; plain = l.plain; pool = l.pool }

-- A task of this name is active in the step that runs.
abbrev pub IsActive : OpenValue → List ℕ → Type 0
IsActive o name = IsNamed name × InStep o (λ job. is_active job.state.owners (name_value name) ≡ true)

-- What is found of the first number, at or after one, that a task has; or there is no such task.
pub record FindsSubpool (o : OpenValue) (name : List ℕ) (from : ℕ) (found : Result SubpoolLine ℕ) : Type 0 where
  pub active : IsActive o name → InStep o (λ job. MatchResult found (IsSubpoolLine job.state (name_value name) from)
      (λ status. (status ≡ 40) × HasNone job.state.owners (name_value name) from subpool_numbers))
  pub unknown : (IsActive o name → ⊥) → found ≡ Err 48

-- The line that is found is returned, or nothing changes.
abbrev pub AnswersSubpool : OpenValue → List ℕ → ℕ → Subpool → Subpool → ℕ → Type 0
AnswersSubpool o name from before after status = (found : Result SubpoolLine ℕ) × FindsSubpool o name from found
    × MatchResult found (λ l. (after ≡ subpool_value l) × (status ≡ 0)) (λ refused. (after ≡ before) × (status ≡ refused))

-- what pages are assigned to: nothing; or the number and the owner of a subpool
abbrev pub holder_value : ℕ → ℕ → Option (ℕ × Name) → RunFields
holder_value addr len None = record { size = run_bytes; address = addr; length = len; assigned = false; number = 0; owner = replicate 8 32 }
holder_value addr len (Some label) = record { size = run_bytes; address = addr; length = len; assigned = true; number = label.0; owner = label.1 }

-- a line of REPORT MAP
abbrev pub run_value : Pages → RunFields
run_value p = holder_value p.addr p.len p.holder

-- What is found of the first run of pages at or after an address.
pub record FindsRun (o : OpenValue) (from : ℕ) (found : Option Pages) : Type 0 where
  pub low : from < 2 ^ 31 → MatchOption o.session.walk.step (found ≡ None) (λ job. MatchOption found (IsMapEnd job.state from) (IsMapRun job.state from))
  pub high : 2 ^ 31 ≤ from → found ≡ None
