-- A run that is given to a consumer, an entry at a time.
use Rattle.std.proofs.Common.{◌≡◌, ℕ, ◌+◌, inl, inr, List, [], ◌∷◌, ◌++◌, length-append, append_assoc, append-nil, arith, Option, None, true, false, Result, Ok, Err, refl, sym, ap, ◌∙◌, subst}
use Rattle.std.specs.Io.KnownBytes.{Appends}
use Rattle.std.proofs.KnownBytes.{Appends-kept, Appends-nil, Appends-trans}
use Rattle.mvs_model.specs.declared.outcome.Outcome.{Outcome}
use Rattle.mvs_model.specs.declared.outcome.Outcome.TheVariants.{ScriptFault}
use Rattle.mvs_model.specs.Job.{JobValue}
use Rattle.mvs_model.specs.Lines.{lines_of}
use Rattle.mvs_laws.specs.Going.{Sized}
use Rattle.mvs_laws.proofs.Going.{line_keeps_sized, run_some}
use Rattle.mvs_job.specs.declared.printing.Stop.{Stop}
use Rattle.mvs_job.specs.declared.printing.Stop.TheVariants as stop
use Rattle.mvs_job.specs.LineEvents.{WalkValue, new_walk}
use Rattle.mvs_job.specs.Trace.{Arrives, Ending, Ends, Entry, Exhausts, IsExecuted, IsTrace, Traces, step_after}
use Rattle.mvs_job.specs.Consuming.{HasRun, IsAny, IsBegun, IsFront, IsWritten, Known, Leaves, Piece, RunsEnd, RunsEntry, WritesFront, WritesPiece, WritesPieces, WrittenAfter}
use Rattle.mvs_job.proofs.Tracing.{trace_of, trace_sized, traces_arrive, traces_then}

-- ---- what is written

pub written_then : (piece : Piece) (history entries more : List Entry) (text other : List ℕ) → WrittenAfter piece history entries text → WrittenAfter piece (history ++ entries) more other → WrittenAfter piece history (entries ++ more) (text ++ other)
written_then piece history [] more text other is then = subst (WrittenAfter piece history more) (ap (λ x. x ++ other) (sym is)) (subst (λ h. WrittenAfter piece h more other) (append-nil history) then)
written_then piece history (e ∷ entries) more text other (one, rest, first, is, cut) then = (
  one,
  rest ++ other,
  first,
  written_then piece (history ++ e ∷ []) entries more rest other is (subst (λ h. WrittenAfter piece h more other) (sym (append_assoc history (e ∷ []) entries)) then),
  ap (λ x. x ++ other) cut ∙ append_assoc one rest other,
)

pub written_next : (piece : Piece) (history : List Entry) (e : Entry) (text one : List ℕ) → WritesPieces piece history text → piece.may history e one → WritesPieces piece (history ++ e ∷ []) (text ++ one)
written_next piece history e text one is may = written_then piece [] history (e ∷ []) text one is (one, [], may, refl, sym (append-nil one))

-- ---- from a step there is a trace of all the lines

trace_some : (number : ℕ) (lines : List (List ℕ)) (step : Option JobValue) → Sized step → (outcome : Outcome) × ((rest : List Entry) × Traces (Ends outcome) number step lines rest)
trace_some number lines step sized =
    let r = run_some number lines step sized in
    let t = trace_of (Ends r.1) number step lines r.0 r.2 in
    (r.1, (t.0, t.1))

some_entry : (outcome : Outcome) (number : ℕ) (step : Option JobValue) (lines : List (List ℕ)) (entries : List Entry) → Traces (Ends outcome) number step lines entries → entries ≡ [] → ⊥
some_entry outcome number step [] entries (e, is, same) none = absurd (let f : e ∷ [] ≡ [] = sym same ∙ none in cc)
some_entry outcome number step (l ∷ lines) entries (inl (e, is, same, o)) none = absurd (let f : e ∷ [] ≡ [] = sym same ∙ none in cc)
some_entry outcome number step (l ∷ lines) entries (inr (e, rest, is, same, t)) none = absurd (let f : e ∷ rest ≡ [] = sym same ∙ none in cc)

-- ---- the lines so far

module _ (piece : Piece) {S : Type 0} (knows : Known S) (start : Option (List ℕ)) where
  pub run_start : (w : WalkValue) (s : S) → w ≡ new_walk → knows.has s [] → HasRun piece knows start start [] w s
  run_start w s is known = subst (λ w. HasRun piece knows start start [] w s) (sym is) (record { entries = []; trace = (refl, refl); counted = refl; text = []; is = refl; appended = Appends-nil start; known = known })

  -- the entries so far lead to the step of the job
  pub run_arrives : (now : Option (List ℕ)) (lines : List (List ℕ)) (w : WalkValue) (s : S) (p : HasRun piece knows start now lines w s) → w.step ≡ step_after p.entries
  run_arrives now lines w s p = traces_arrive w.step 1 None lines p.entries p.trace

  module _ (now later : Option (List ℕ)) (lines : List (List ℕ)) (w : WalkValue) (s : S) (p : HasRun piece knows start now lines w s) where
    -- one more line
    pub run_next : (l : List ℕ) (new : WalkValue) (s' : S) → new.number ≡ w.number + 1 → RunsEntry piece knows now later w l new p.entries s' (Ok true) → HasRun piece knows start later (lines ++ l ∷ []) new s'
    run_next l new s' number (e, is, after, (one, may, a), known) = record {
      entries = p.entries ++ e ∷ [];
      trace = traces_then (Arrives new.step) lines (l ∷ []) 1 w.number None w.step p.entries (e ∷ []) p.counted p.trace (inr (e, [], is, refl, (refl, sym after)));
      counted = let c = length-append lines (l ∷ []) in omega (arith, number, p.counted, c);
      text = p.text ++ one;
      is = written_next piece p.entries e p.text one p.is may;
      appended = Appends-trans start now later p.text one p.appended a;
      known = known;
    }

    -- the lines that are left
    module _ (script : List ℕ) (left : List (List ℕ)) (cut : lines_of script ≡ lines ++ left) where
      whole : (how : Ending) (rest : List Entry) → Traces how w.number w.step left rest → IsTrace script (p.entries ++ rest) how
      whole how rest t = subst (λ x. Traces how 1 None x (p.entries ++ rest)) (sym cut) (traces_then how lines left 1 w.number None w.step p.entries rest p.counted p.trace t)

      ended : (how : Ending) (e : Entry) (s' : S) → Traces how w.number w.step left (e ∷ []) → WritesPiece piece now later p.entries e → knows.has s' (p.entries ++ e ∷ []) → (text : List ℕ) × Appends start later text × IsWritten piece knows script text how s'
      ended how e s' t (one, may, a) known =
          (p.text ++ one, Appends-trans start now later p.text one p.appended a, record { entries = p.entries ++ e ∷ []; trace = whole how (e ∷ []) t; known = known; is = written_next piece p.entries e p.text one p.is may })

      begun : (how : Ending) (e : Entry) (rest : List Entry) → Traces how w.number w.step left (e ∷ rest) → IsBegun piece script p.text p.entries e
      begun how e rest t = record { how = how; rest = rest; trace = whole how (e ∷ rest) t; is = p.is }

      failed : (how : Ending) (e : Entry) (rest : List Entry) (s' : S) → Traces how w.number w.step left (e ∷ rest) → WritesFront piece now later p.entries e → knows.had s' p.entries → (text : List ℕ) × Appends start later text × IsFront piece knows script text s'
      failed how e rest s' t (one, may, (front, more, is, a)) known = (
        p.text ++ front,
        Appends-trans start now later p.text front p.appended a,
        record { entries = p.entries; next = e; done = p.text; front = front; begun = begun how e rest t; known = inr known; cut = inr (more, subst (piece.may p.entries e) is may); is = refl },
      )

      -- what is written so far is a front
      first_of : (how : Ending) (rest : List Entry) → Traces how w.number w.step left rest → (rest ≡ [] → ⊥) → IsFront piece knows script p.text s
      first_of how [] t some = absurd (some refl)
      first_of how (e ∷ rest) t some = record { entries = p.entries; next = e; done = p.text; front = []; begun = begun how e rest t; known = inl p.known; cut = inl refl; is = sym (append-nil p.text) }

      pub run_front : IsFront piece knows script p.text s
      run_front = let t = trace_some w.number left w.step (trace_sized lines p.entries w.step p.trace) in first_of (Ends t.0) t.1.0 t.1.1 (some_entry t.0 w.number w.step left t.1.0 t.1.1)

    -- the next of them
    module _ (script l : List ℕ) (left : List (List ℕ)) (cut : lines_of script ≡ lines ++ l ∷ left) where
      pub run_fault : (new : WalkValue) (s' : S) → RunsEntry piece knows now later w l new p.entries s' (Ok false) → Leaves piece knows start later script s' (Ok ScriptFault)
      run_fault new s' (e, is, a, known) = ended script (l ∷ left) cut (Ends ScriptFault) e s' (inl (e, is, refl, refl)) a known

      after_line : (e : Entry) → IsExecuted w.number w.step l e → Sized e.after
      after_line e (said, events, new, of, serves, is) = subst Sized (sym (ap (λ e. e.after) is)) (line_keeps_sized w.number w.step l events new (said, of, serves) (trace_sized lines p.entries w.step p.trace))

      -- an entry of the line begins a trace of those that are left
      trace_at : (e : Entry) → IsAny w.number w.step l e → (how : Ending) × ((rest : List Entry) × Traces how w.number w.step (l ∷ left) (e ∷ rest))
      trace_at e (inl is) = let t = trace_some (w.number + 1) left e.after (after_line e is) in (Ends t.0, (t.1.0, inr (e, t.1.0, is, refl, t.1.1)))
      trace_at e (inr (inl is)) = (Ends ScriptFault, ([], inl (e, is, refl, refl)))
      trace_at e (inr (inr is)) = (Exhausts, ([], inl (e, is, refl)))

      pub run_stopped : (new : WalkValue) (s' : S) (why : Stop) → RunsEntry piece knows now later w l new p.entries s' (Err why) → Leaves piece knows start later script s' (Err why)
      run_stopped new s' stop.Memory (inl (e, is, a, known)) = let r = ended script (l ∷ left) cut Exhausts e s' (inl (e, is, refl)) a known in (r.0, r.1, inl r.2)
      run_stopped new s' stop.Memory (inr (e, is, needs, kept, known)) =
          let t = trace_at e is in (p.text, Appends-kept start now later p.text p.appended kept, inr (p.entries, e, needs, known, begun script (l ∷ left) cut t.0 e t.1.0 t.1.1))
      run_stopped new s' stop.Write (e, is, f, known) = let t = trace_at e is in failed script (l ∷ left) cut t.0 e t.1.0 s' t.1.1 f known

    -- the end of the script
    module _ (script : List ℕ) (all : lines_of script ≡ lines) where
      none_left : lines_of script ≡ lines ++ []
      none_left = all ∙ sym (append-nil lines)

      pub run_ended : (s' : S) (result : Result Outcome Stop) → RunsEnd piece knows now later w p.entries s' result → Leaves piece knows start later script s' result
      run_ended s' (Ok outcome) (e, is, a, known) = ended script [] none_left (Ends outcome) e s' (e, is, refl) a known
      run_ended s' (Err stop.Memory) h = absurd h
      run_ended s' (Err stop.Write) (outcome, e, is, f, known) = failed script [] none_left (Ends outcome) e [] s' (e, is, refl) f known
