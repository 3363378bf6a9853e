-- The line of a script at an index.
use Rattle.std.proofs.Common.{◌≡◌, ℕ, ◌+◌, List, [], ◌∷◌, ◌++◌, append_assoc, append-nil, take, drop, Option, Bool, true, false, Result, Ok, Err, refl, sym, ap, ◌∙◌, subst}
use Rattle.std.proofs.lemmas.List.{drop-drop}
use Rattle.mvs_model.specs.declared.outcome.Outcome.{Outcome}
use Rattle.mvs_model.specs.declared.outcome.Outcome.TheVariants.{ScriptFault}
use Rattle.mvs_model.specs.Lines.{lines_of}
use Rattle.mvs_job.specs.declared.printing.Stop.{Stop}
use Rattle.mvs_job.specs.LineEvents.{WalkValue, new_walk}
use Rattle.mvs_job.specs.Consuming.{HasRun, Known, Leaves, Piece, RunsEntry, RunsLast, RunsNext}
use Rattle.mvs_job.proofs.Driving.{run_arrives, run_ended, run_fault, run_next, run_start, run_stopped}

-- A run of some lines of a script, with this text left.
pub record IsAt (piece : Piece) {S : Type 0} (knows : Known S) (start now : Option (List ℕ)) (script left : List ℕ) (w : WalkValue) (s : S) : Type 0 where
  pub lines : List (List ℕ)
  pub cut : lines_of script ≡ lines ++ lines_of left
  pub run : HasRun piece knows start now lines w s

module _ (piece : Piece) {S : Type 0} (knows : Known S) (start : Option (List ℕ)) (script : List ℕ) where
  pub at_start : (w : WalkValue) (s : S) → w ≡ new_walk → knows.has s [] → IsAt piece knows start start script script w s
  at_start w s is known = record { lines = []; cut = refl; run = run_start piece knows start w s is known }

  module _ (before after : Option (List ℕ)) (rest : List ℕ) (at len : ℕ) (w w' : WalkValue) (s s' : S) (is : rest ≡ drop at script)
      (line : lines_of rest ≡ take len rest ∷ lines_of (drop (len + 1) rest)) (p : IsAt piece knows start before script (drop at script) w s) where
    here : lines_of script ≡ p.lines ++ take len rest ∷ lines_of (drop (len + 1) rest)
    here = p.cut ∙ ap (λ x. p.lines ++ x) (ap lines_of (sym is) ∙ line)

    further : lines_of (drop (len + 1) rest) ≡ lines_of (drop (at + (len + 1)) script)
    further = ap lines_of (ap (drop (len + 1)) is ∙ drop-drop (len + 1) at script)

    abbrev pub Ran : Result Bool Stop → Type 0
    Ran r = RunsNext piece knows before after w (take len rest) w' s s' r

    pub at_next : w'.number ≡ w.number + 1 → (b : Bool) → b ≡ true → Ran (Ok b) → IsAt piece knows start after script (drop (at + (len + 1)) script) w' s'
    at_next next b e x = record {
      lines = p.lines ++ take len rest ∷ [];
      cut = here ∙ sym (append_assoc p.lines (take len rest ∷ []) (lines_of (drop (len + 1) rest))) ∙ ap (λ x. (p.lines ++ take len rest ∷ []) ++ x) further;
      run = run_next piece knows start before after p.lines w s p.run (take len rest) w' s' next (subst (λ b. RunsEntry piece knows before after w (take len rest) w' p.run.entries s' (Ok b)) e (x p.run.entries (run_arrives piece knows start before p.lines w s p.run) p.run.known));
    }

    pub at_fault : (b : Bool) → b ≡ false → Ran (Ok b) → Leaves piece knows start after script s' (Ok ScriptFault)
    at_fault b e x =
        run_fault piece knows start before after p.lines w s p.run script (take len rest) (lines_of (drop (len + 1) rest)) here w' s' (subst (λ b. RunsEntry piece knows before after w (take len rest) w' p.run.entries s' (Ok b)) e (x p.run.entries (run_arrives piece knows start before p.lines w s p.run) p.run.known))

    pub at_stop : (why : Stop) → Ran (Err why) → Leaves piece knows start after script s' (Err why)
    at_stop why x = run_stopped piece knows start before after p.lines w s p.run script (take len rest) (lines_of (drop (len + 1) rest)) here w' s' why (x p.run.entries (run_arrives piece knows start before p.lines w s p.run) p.run.known)

  -- the end of the script
  pub at_end : (before after : Option (List ℕ)) (left : List ℕ) (w : WalkValue) (s s' : S) (p : IsAt piece knows start before script left w s) → lines_of left ≡ [] → (result : Result Outcome Stop)
      → RunsLast piece knows before after w s s' result → Leaves piece knows start after script s' result
  at_end before after left w s s' p none result x =
      run_ended piece knows start before after p.lines w s p.run script (p.cut ∙ ap (λ x. p.lines ++ x) none ∙ append-nil p.lines) s' result (x p.run.entries (run_arrives piece knows start before p.lines w s p.run) p.run.known)
