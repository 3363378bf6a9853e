-- A typed line, and a job that is under way.
use Rattle.std.proofs.Common.{◌≡◌, ◌≢◌, ◌⊎◌, ◌<◌, ◌+◌, ℕ, inl, inr, Bool, true, false, List, [], ◌∷◌, ◌++◌, Option, Result, Ok, Err, refl, sym, ap, ◌∙◌, subst}
use Rattle.std.specs.Prelude.{IfErr, IfOk, OnOk, is_err}
use Rattle.std.specs.List.{AllByRecursion}
use Rattle.std.specs.Io.KnownBytes.{Consumes, Keeps}
use Rattle.mvs_model.specs.declared.outcome.Outcome.{Outcome}
use Rattle.mvs_model.specs.declared.outcome.Outcome.TheVariants.{ScriptFault}
use Rattle.mvs_model.specs.Lines.{IsUnended, ended_text}
use Rattle.mvs_model.specs.Numbers.{most_script_bytes}
use Rattle.mvs_job.specs.declared.printing.Stop.{Stop}
use Rattle.mvs_job.specs.declared.printing.Stop.TheVariants as stop
use Rattle.mvs_job.specs.declared.run.RunFault.{RunFault}
use Rattle.mvs_job.specs.declared.run.RunFault.TheVariants.{Memory, Read, ReadTooLong, Write}
use Rattle.mvs_job.specs.Consuming.{HasRun, Known, Leaves, Piece, RunsLast}
use Rattle.mvs_job.specs.LineEvents.{WalkValue}
use Rattle.mvs_job.specs.Streams.{fault_of}
use Rattle.shell.specs.Inputs.{ReadsLine}
use Rattle.shell.specs.Edits.{is_command, edit_of}
use Rattle.shell.specs.declared.edit.ScriptEdit.TheVariants as edit
use Rattle.terminal_session.specs.declared.session.JobStop.{JobStop}
use Rattle.terminal_session.specs.declared.session.JobStop.TheVariants as stopped
use Rattle.terminal_session.specs.declared.session.Step.{Step}
use Rattle.terminal_session.specs.declared.session.Step.TheVariants.{Again, Next, Quit}
use Rattle.terminal_session.specs.Sessions.{Fails, HasFault, IsOver, IsQuit, IsEdit, IsTyped, IsTypedFirst, IsUnderWay, Makes, MakesAll, RunsLines, Stops, StopsAt, EditsLines, text_of}
use Rattle.terminal_session.specs.Steps.{Accepted, EndsJob, Obeys, Steps}
use Rattle.terminal_session.proofs.Playing.{lines_run, run_cut, run_done, run_kept}
use Rattle.terminal_session.proofs.Typing.{makes_line, makes_next, makes_edit, typed_first, typed_line, typed_none, typed_part, typed_start}

pub on_ok : {X E : Type 0} (r : Result X E) (P Q : Type 0) → (P → Q) → OnOk r P → OnOk r Q
on_ok (Ok x) P Q f h = f h
on_ok (Err e) P Q f h = tt

pub never_err : {X E : Type 0} (r : Result X E) (P : Type 0) (b : Bool) → b ≡ is_err r → b ≡ false → OnOk r P → P
never_err (Ok x) P b e f h = h
never_err (Err x) P b e f h = absurd (let t : true ≡ false = sym e ∙ f in cc)

module _ (piece : Piece) {S : Type 0} (knows : Known S) (before : Option (List ℕ)) where
  pub stops_running : (now : Option (List ℕ)) (count : ℕ) (mid : List (List ℕ)) (s : S) (why : Stop) → Leaves piece knows before now (ended_text mid) s (Err why) → StopsAt piece knows before now count mid s (fault_of why)
  stops_running now count mid s stop.Memory h = inl h
  stops_running now count mid s stop.Write h = h

module _ (piece : Piece) {S : Type 0} (knows : Known S) (cleans : Bool) (unread before : Option (List ℕ)) (lines : List (List ℕ)) where
  -- ---- never further line

  stops_reading : (now : Option (List ℕ)) (count : ℕ) (mid : List (List ℕ)) (s : S) (fault : RunFault) → (fault ≡ Read) ⊎ ((fault ≡ ReadTooLong) × (most_script_bytes < count)) → RunsLines piece before now mid → StopsAt piece knows before now count mid s fault
  stops_reading now count mid s Read why run = run
  stops_reading now count mid s ReadTooLong (inl e) run = absurd (let f : ReadTooLong ≡ Read = e in cc)
  stops_reading now count mid s ReadTooLong (inr (e, long)) run = (run, inl long)
  stops_reading now count mid s Memory (inl e) run = absurd (let f : Memory ≡ Read = e in cc)
  stops_reading now count mid s Memory (inr (e, long)) run = absurd (let f : Memory ≡ ReadTooLong = e in cc)
  stops_reading now count mid s Write (inl e) run = absurd (let f : Write ≡ Read = e in cc)
  stops_reading now count mid s Write (inr (e, long)) run = absurd (let f : Write ≡ ReadTooLong = e in cc)

  module _ (left now : Option (List ℕ)) (was : Bool) (mid : List (List ℕ)) (w : WalkValue) (s : S) (job : IsUnderWay piece knows cleans unread left before now was lines mid w s) where
    pub flush_failed : (later : Option (List ℕ)) → Keeps now later → (count : ℕ) → Fails piece knows cleans unread left before later count lines s Write
    flush_failed later kept count = (job.typed, mid, typed_first unread left job.typed was job.read, job.makes, run_cut piece knows before later mid w s job.each (run_kept piece knows before now later mid w s job.run kept))

    module _ (further later : Option (List ℕ)) (kept : Keeps now later) where
      run : HasRun piece knows before later mid w s
      run = run_kept piece knows before now later mid w s job.run kept

      pub nothing_left : (ended : Bool) → ended ≡ true → Consumes left further []
          → (more : IsUnderWay piece knows cleans unread further before later ended lines mid w s) × IsOver cleans ended more.typed mid
      nothing_left ended e none = (record { typed = job.typed; read = typed_none unread left job.typed further was ended e job.read none; makes = job.makes; each = job.each; run = run }, inl e)

      pub read_failed : (count : ℕ) (fault : RunFault) → (part : List ℕ) × Consumes left further part × (was ≡ true → part ≡ []) → (fault ≡ Read) ⊎ ((fault ≡ ReadTooLong) × (most_script_bytes < count))
          → Fails piece knows cleans unread further before later count lines s fault
      read_failed count fault (part, more, none) why =
          (job.typed, mid, typed_part unread left job.typed further was part none job.read more, job.makes, stops_reading later count mid s fault why (lines_run piece knows before later mid w s run))

      -- ---- a line

      module _ (ended : Bool) (count : ℕ) (text l : List ℕ) (is : text ≡ text_of cleans l) (goes_on : was ≡ false) (unended : IsUnended l) (read : ReadsLine left further ended l) where
        typed : IsTyped unread further ended (job.typed ++ l ∷ [])
        typed = typed_line unread left job.typed further was ended l goes_on job.read unended read

        rest_at : (b : Bool) → ReadsLine left further b l → IsTypedFirst unread further job.typed
        rest_at false h = typed_part unread left job.typed further was (l ++ 10 ∷ []) (λ e. absurd (let f : true ≡ false = sym e ∙ goes_on in cc)) job.read h
        rest_at true h = typed_part unread left job.typed further was l (λ e. absurd (let f : true ≡ false = sym e ∙ goes_on in cc)) job.read h

        stays : (new : List (List ℕ)) → new ≡ mid → Makes cleans mid l new → IsUnderWay piece knows cleans unread further before later ended lines new w s
        stays new same made = record {
          typed = job.typed ++ l ∷ [];
          read = typed;
          makes = makes_next cleans lines job.typed mid l new job.makes made;
          each = subst (AllByRecursion IsUnended) (sym same) job.each;
          run = subst (λ x. HasRun piece knows before later x w s) (sym same) run;
        }

        pub obeyed : is_command text ≡ true → (new : List (List ℕ)) (result : Step) → Obeys (edit_of text) mid new result → Steps piece knows cleans unread further before later ended count lines new w s (Ok result)
        unfolding stays
        obeyed sure new Next (edits, same) = stays new same (makes_edit cleans mid text l is new sure edits)
        obeyed sure new Again (edits, other) =
            let so : IsEdit cleans l = subst (λ t. (is_command t ≡ true) × (edit_of t ≢ edit.Stays)) is (sure, other) in
            (job.typed, l, mid, typed, job.makes, so, makes_edit cleans mid text l is new sure edits, lines_run piece knows before later mid w s run)
        obeyed sure new Quit (edits, quit) =
            let so : IsQuit cleans l = subst (λ t. (is_command t ≡ true) × (edit_of t ≡ edit.Quit)) is (sure, quit) in
            (stays new (subst (λ t. EditsLines t mid new) quit edits) (makes_edit cleans mid text l is new sure edits), inr (inl (job.typed, l, refl, so)))

        pub accepted : is_command text ≡ false → (written : Option (List ℕ)) (new : List (List ℕ)) (w' : WalkValue) (s' : S) (result : Result Step RunFault) → Accepted piece knows before written count mid text new w' s' result
            → Steps piece knows cleans unread further before written ended count lines new w' s' result
        accepted never written new w' s' (Ok Next) (made, each, ran) =
            record { typed = job.typed ++ l ∷ []; read = typed; makes = makes_next cleans lines job.typed mid l new job.makes (makes_line cleans mid text l is new never made); each = each; run = ran }
        accepted never written new w' s' (Ok Again) h = absurd h
        accepted never written new w' s' (Ok Quit) h = absurd h
        accepted never written new w' s' (Err fault) (last, inl same, stops) = (job.typed, last, rest_at ended read, subst (MakesAll cleans lines job.typed) (sym same) job.makes, stops)
        accepted never written new w' s' (Err fault) (last, inr made, stops) =
            (job.typed ++ l ∷ [], last, typed_first unread further (job.typed ++ l ∷ []) ended typed, makes_next cleans lines job.typed mid l last job.makes (makes_line cleans mid text l is last never made), stops)

        pub run_before : HasRun piece knows before later mid w s
        run_before = run

  -- ---- the run of a job

  module _ (left now : Option (List ℕ)) (ended : Bool) (mid : List (List ℕ)) (w : WalkValue) (s : S) (job : IsUnderWay piece knows cleans unread left before now ended lines mid w s) (over : IsOver cleans ended job.typed mid) (later : Option (List ℕ)) (s' : S) where
    pub job_done : (outcome : Outcome) → RunsLast piece knows now later w s s' (Ok outcome) → Stops piece knows cleans unread left before later ended lines mid s' (stopped.Ended outcome)
    job_done outcome ran = (job.typed, job.read, job.makes, over, run_done piece knows before now later mid w s s' job.each job.run (Ok outcome) ran)

    pub job_cut : (count : ℕ) (why : Stop) → RunsLast piece knows now later w s s' (Err why) → Fails piece knows cleans unread left before later count lines s' (fault_of why)
    job_cut count why ran = (job.typed, mid, typed_first unread left job.typed ended job.read, job.makes, stops_running piece knows before later count mid s' why (run_done piece knows before now later mid w s s' job.each job.run (Err why) ran))

    pub over_stops : (r : Result JobStop RunFault) → EndsJob piece knows now later w s s' r → IfOk r (λ stop. Stops piece knows cleans unread left before later ended lines mid s' stop)
    over_stops (Ok (stopped.Ended outcome)) h = job_done outcome h
    over_stops (Ok stopped.Again) h = absurd h
    over_stops (Err fault) h = tt

    pub over_fails : (count : ℕ) (r : Result JobStop RunFault) → EndsJob piece knows now later w s s' r → IfErr r (λ fault. Fails piece knows cleans unread left before later count lines s' fault)
    over_fails count (Ok stop) h = tt
    over_fails count (Err fault) (why, e, ran) = subst (λ f. Fails piece knows cleans unread left before later count lines s' f) (sym e) (job_cut count why ran)

module _ (piece : Piece) {S : Type 0} (knows : Known S) (cleans : Bool) (unread before now : Option (List ℕ)) (ended : Bool) (lines : List (List ℕ)) (w : WalkValue) (s : S) where
  pub job_begun : AllByRecursion IsUnended lines → HasRun piece knows before now lines w s → IsUnderWay piece knows cleans unread unread before now ended lines lines w s
  job_begun each run = record { typed = []; read = typed_start unread ended; makes = refl; each = each; run = run }

  pub job_faulty : HasFault lines × Leaves piece knows before now (ended_text lines) s (Ok ScriptFault) → Stops piece knows cleans unread unread before now ended lines lines s (stopped.Ended ScriptFault)
  job_faulty (fault, leaves) = ([], typed_start unread ended, refl, inr (inr fault), leaves)

  pub job_stopped : (count : ℕ) (why : Stop) → Leaves piece knows before now (ended_text lines) s (Err why) → Fails piece knows cleans unread unread before now count lines s (fault_of why)
  job_stopped count why leaves = ([], lines, typed_first unread unread [] ended (typed_start unread ended), refl, stops_running piece knows before now count lines s why leaves)
