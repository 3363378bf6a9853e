-- A line that is no command, and a job whose lines are executed.
use Rattle.std.proofs.Common.{◌≡◌, ◌⊎◌, ◌+◌, ◌≤◌, ℕ, inl, inr, true, List, [], ◌∷◌, ◌++◌, length, Option, Result, Ok, Err, refl, sym, ◌∙◌, subst}
use Rattle.std.specs.List.{AllByRecursion}
use Rattle.mvs_model.specs.declared.line.Fault.{Fault}
use Rattle.mvs_model.specs.declared.line.Line.{Line}
use Rattle.mvs_model.specs.Lines.{IsUnended, ended_text}
use Rattle.mvs_model.specs.Numbers.{most_script_bytes}
use Rattle.mvs_model.specs.Reading.{FaultOf, LineOf}
use Rattle.mvs_model.specs.Walk.{is_first}
use Rattle.mvs_job.specs.declared.printing.Stop.{Stop}
use Rattle.mvs_job.specs.declared.run.RunFault.{RunFault}
use Rattle.mvs_job.specs.declared.run.RunFault.TheVariants.{Memory, Read, ReadTooLong, Write}
use Rattle.mvs_job.specs.Consuming.{HasRun, Known, Leaves, Piece, RunsNext}
use Rattle.mvs_job.specs.LineEvents.{WalkValue}
use Rattle.mvs_job.specs.Streams.{fault_of}
use Rattle.shell.specs.Scripts.{are_blank}
use Rattle.terminal_session.specs.declared.session.Step.TheVariants.{Next}
use Rattle.terminal_session.specs.Sessions.{with_line}
use Rattle.terminal_session.specs.Steps.{Accepted}
use Rattle.terminal_session.proofs.FirstLine.{lines_first}
use Rattle.terminal_session.proofs.KeptLines.{each_kept, line_kept, line_skipped}
use Rattle.terminal_session.proofs.Playing.{line_run, line_stopped, lines_run}
use Rattle.terminal_session.proofs.Stepping.{stops_running}

-- a line was parsed
pub run_parsed : (piece : Piece) {S : Type 0} (knows : Known S) (before now : Option (List ℕ)) (lines : List (List ℕ)) (w parsed : WalkValue) (s : S) → parsed ≡ record w { read = parsed.read } → HasRun piece knows before now lines w s → HasRun piece knows before now lines parsed s
run_parsed piece knows before now lines w parsed s rest p =
    subst (λ w. HasRun piece knows before now lines w s) (sym rest) (record { entries = p.entries; trace = p.trace; counted = p.counted; text = p.text; is = p.is; appended = p.appended; known = p.known })

module _ (piece : Piece) {S : Type 0} (knows : Known S) (before now : Option (List ℕ)) (count : ℕ) (lines : List (List ℕ)) (line : List ℕ) (w : WalkValue) (s : S) (run : HasRun piece knows before now lines w s) (each : AllByRecursion IsUnended lines) where
  first_so : is_first w.step ≡ are_blank lines
  first_so = lines_first w.step 1 _ lines run.entries run.trace

  -- it has a fault
  pub line_passed : (fault : Fault) → FaultOf (is_first w.step) line fault → Accepted piece knows before now count lines line lines w s (Ok Next)
  line_passed fault is = (sym (line_skipped lines line fault (subst (λ b. FaultOf b line fault) first_so is)), each, run)

  module _ (l : Line) (is : LineOf (is_first w.step) line l) where
    says : LineOf (are_blank lines) line l
    says = subst (λ b. LineOf b line l) first_so is

    pub line_unkept : (fault : RunFault) → (fault ≡ Memory) ⊎ ((fault ≡ ReadTooLong) × (most_script_bytes ≤ length (ended_text lines) + 256)) → (new : List (List ℕ)) → Accepted piece knows before now count lines line new w s (Err fault)
    line_unkept Memory why new = (lines, inl refl, inr (lines_run piece knows before now lines w s run))
    line_unkept ReadTooLong (inl e) new = absurd (let f : ReadTooLong ≡ Memory = e in cc)
    line_unkept ReadTooLong (inr (e, full)) new = (lines, inl refl, (lines_run piece knows before now lines w s run, inr full))
    line_unkept Read (inl e) new = absurd (let f : Read ≡ Memory = e in cc)
    line_unkept Read (inr (e, full)) new = absurd (let f : Read ≡ ReadTooLong = e in cc)
    line_unkept Write (inl e) new = absurd (let f : Write ≡ Memory = e in cc)
    line_unkept Write (inr (e, full)) new = absurd (let f : Write ≡ ReadTooLong = e in cc)

    -- it is executed
    module _ (new : List (List ℕ)) (made : new ≡ lines ++ line ∷ []) (later : Option (List ℕ)) (w' : WalkValue) (s' : S) where
      is_kept : new ≡ with_line lines line
      is_kept = made ∙ sym (line_kept lines line l says)

      each_kept_so : AllByRecursion IsUnended (lines ++ line ∷ [])
      each_kept_so = each_kept lines line l says each

      pub line_goes_on : w'.number ≡ w.number + 1 → RunsNext piece knows now later w line w' s s' (Ok true) → Accepted piece knows before later count lines line new w' s' (Ok Next)
      line_goes_on number ran =
          (is_kept, subst (AllByRecursion IsUnended) (sym made) each_kept_so, subst (λ x. HasRun piece knows before later x w' s') (sym made) (line_run piece knows before now later lines line [] w s run w' s' number true refl ran))

      pub line_fails : (why : Stop) → RunsNext piece knows now later w line w' s s' (Err why) → Accepted piece knows before later count lines line new w' s' (Err (fault_of why))
      line_fails why ran =
          (new, inr is_kept, stops_running piece knows before later count new s' why (subst (λ x. Leaves piece knows before later (ended_text x) s' (Err why)) (sym made) (line_stopped piece knows before now later lines line [] w s run w' s' each_kept_so why ran)))
