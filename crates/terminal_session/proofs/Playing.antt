-- A run of the lines of a job, and a further line.
use Rattle.std.proofs.Common.{◌≡◌, ◌<◌, ◌+◌, ℕ, Bool, true, false, List, [], ◌∷◌, ◌++◌, append-nil, append_assoc, length, take, drop, get_or, Option, Result, Ok, Err, refl, sym, ap, ◌∙◌, subst}
use Rattle.std.proofs.lemmas.List.{take-append-drop}
use Rattle.std.specs.List.{AllByRecursion}
use Rattle.std.specs.Io.KnownBytes.{Appends, Keeps}
use Rattle.std.proofs.KnownBytes.{Appends-kept}
use Rattle.mvs_model.specs.declared.outcome.Outcome.{Outcome}
use Rattle.mvs_model.specs.declared.outcome.Outcome.TheVariants.{ScriptFault}
use Rattle.mvs_model.specs.Lines.{IsUnended, ended_text, lines_of}
use Rattle.mvs_job.specs.declared.printing.Stop.{Stop}
use Rattle.mvs_job.specs.declared.printing.Stop.TheVariants as stop
use Rattle.mvs_job.specs.Consuming.{HasRun, Known, Leaves, Piece, RunsEntry, RunsLast, RunsNext}
use Rattle.mvs_job.specs.LineEvents.{WalkValue}
use Rattle.mvs_job.proofs.Driving.{run_arrives, run_ended, run_fault, run_front, run_next, run_stopped}
use Rattle.shell.proofs.Lines.{taken_line}
use Rattle.terminal_session.specs.Sessions.{HasFault, Replays, RunsLines}
use Rattle.terminal_session.proofs.KeptLines.{is_faulty_so}
use Rattle.terminal_session.proofs.Typing.{same_lines}

module _ (piece : Piece) {S : Type 0} (knows : Known S) (before : Option (List ℕ)) where
  -- all lines so far
  pub lines_run : (now : Option (List ℕ)) (lines : List (List ℕ)) (w : WalkValue) (s : S) → HasRun piece knows before now lines w s → RunsLines piece before now lines
  lines_run now lines w s p = (w.step, p.entries, p.trace, p.text, p.is, p.appended)

  -- the writer keeps what it has
  pub run_kept : (now later : Option (List ℕ)) (lines : List (List ℕ)) (w : WalkValue) (s : S) → HasRun piece knows before now lines w s → Keeps now later → HasRun piece knows before later lines w s
  run_kept now later lines w s p kept =
      record { entries = p.entries; trace = p.trace; counted = p.counted; text = p.text; is = p.is; appended = Appends-kept before now later p.text p.appended kept; known = p.known }

  pub run_cut : (now : Option (List ℕ)) (lines : List (List ℕ)) (w : WalkValue) (s : S) → AllByRecursion IsUnended lines → HasRun piece knows before now lines w s → Leaves piece knows before now (ended_text lines) s (Err stop.Write)
  run_cut now lines w s each p = (p.text, p.appended, run_front piece knows before now now lines w s p (ended_text lines) [] (same_lines lines each ∙ sym (append-nil lines)))

  pub run_done : (now later : Option (List ℕ)) (lines : List (List ℕ)) (w : WalkValue) (s s' : S) → AllByRecursion IsUnended lines → HasRun piece knows before now lines w s → (result : Result Outcome Stop) → RunsLast piece knows now later w s s' result
      → Leaves piece knows before later (ended_text lines) s' result
  run_done now later lines w s s' each p result ran = run_ended piece knows before now later lines w s p (ended_text lines) (same_lines lines each) s' result (ran p.entries (run_arrives piece knows before now lines w s p) p.known)

  -- the next of some lines
  module _ (now later : Option (List ℕ)) (lines : List (List ℕ)) (l : List ℕ) (left : List (List ℕ)) (w : WalkValue) (s : S) (p : HasRun piece knows before now lines w s) (w' : WalkValue) (s' : S) where
    pub line_run : w'.number ≡ w.number + 1 → (b : Bool) → b ≡ true → RunsNext piece knows now later w l w' s s' (Ok b) → HasRun piece knows before later (lines ++ l ∷ []) w' s'
    line_run number b e ran = run_next piece knows before now later lines w s p l w' s' number (subst (λ b. RunsEntry piece knows now later w l w' p.entries s' (Ok b)) e (ran p.entries (run_arrives piece knows before now lines w s p) p.known))

    pub line_faulty : AllByRecursion IsUnended (lines ++ l ∷ left) → (b : Bool) → b ≡ false → RunsNext piece knows now later w l w' s s' (Ok b)
        → HasFault (lines ++ l ∷ left) × Leaves piece knows before later (ended_text (lines ++ l ∷ left)) s' (Ok ScriptFault)
    line_faulty each b e ran =
        let h = subst (λ b. RunsEntry piece knows now later w l w' p.entries s' (Ok b)) e (ran p.entries (run_arrives piece knows before now lines w s p) p.known) in
        ((lines, l, left, refl, w.step, p.entries, p.trace, is_faulty_so _ l h.1.0 h.1.1), run_fault piece knows before now later lines w s p (ended_text (lines ++ l ∷ left)) l left (same_lines (lines ++ l ∷ left) each) w' s' h)

    pub line_stopped : AllByRecursion IsUnended (lines ++ l ∷ left) → (why : Stop) → RunsNext piece knows now later w l w' s s' (Err why) → Leaves piece knows before later (ended_text (lines ++ l ∷ left)) s' (Err why)
    line_stopped each why ran = run_stopped piece knows before now later lines w s p (ended_text (lines ++ l ∷ left)) l left (same_lines (lines ++ l ∷ left) each) w' s' why (ran p.entries (run_arrives piece knows before now lines w s p) p.known)

-- the line of some lines at an index, before which all are executed
module _ (piece : Piece) {S : Type 0} (knows : Known S) (before now later : Option (List ℕ)) (lines : List (List ℕ)) (i : ℕ) (item text : List ℕ) (here : item ≡ get_or lines i item) (within : i < length lines) (same : text ≡ item) (each : AllByRecursion IsUnended lines) (w : WalkValue) (s : S)
    (p : HasRun piece knows before now (take i lines) w s) (w' : WalkValue) (s' : S) where
  taken_text : take (i + 1) lines ≡ take i lines ++ text ∷ []
  taken_text = taken_line lines i item text here within same ∙ ap (λ x. take i lines ++ x ∷ []) (sym same)

  cut_there : take i lines ++ text ∷ drop (i + 1) lines ≡ lines
  cut_there = sym (append_assoc (take i lines) (text ∷ []) (drop (i + 1) lines)) ∙ ap (λ x. x ++ drop (i + 1) lines) (sym taken_text) ∙ take-append-drop (i + 1) lines

  each_there : AllByRecursion IsUnended (take i lines ++ text ∷ drop (i + 1) lines)
  each_there = subst (AllByRecursion IsUnended) (sym cut_there) each

  pub replay_next : w'.number ≡ w.number + 1 → (b : Bool) → b ≡ true → RunsNext piece knows now later w text w' s s' (Ok b) → HasRun piece knows before later (take (i + 1) lines) w' s'
  replay_next number b e ran = subst (λ x. HasRun piece knows before later x w' s') (sym taken_text) (line_run piece knows before now later (take i lines) text [] w s p w' s' number b e ran)

  pub replay_faulty : (b : Bool) → b ≡ false → RunsNext piece knows now later w text w' s s' (Ok b) → Replays piece knows before later lines w' s' (Ok false)
  replay_faulty true e ran = absurd (let f : true ≡ false = e in cc)
  replay_faulty false e ran = subst (λ x. HasFault x × Leaves piece knows before later (ended_text x) s' (Ok ScriptFault)) cut_there (line_faulty piece knows before now later (take i lines) text (drop (i + 1) lines) w s p w' s' each_there false e ran)

  pub replay_stopped : (why : Stop) → RunsNext piece knows now later w text w' s s' (Err why) → Leaves piece knows before later (ended_text lines) s' (Err why)
  replay_stopped why ran = subst (λ x. Leaves piece knows before later (ended_text x) s' (Err why)) cut_there (line_stopped piece knows before now later (take i lines) text (drop (i + 1) lines) w s p w' s' each_there why ran)
