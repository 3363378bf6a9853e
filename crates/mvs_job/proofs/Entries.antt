-- The entry of a line, by the clauses of the call that executes it.
use Rattle.std.proofs.Common.{◌≡◌, ℕ, inl, inr, List, [], ◌∷◌, Option, Bool, refl, sym, ap, subst}
use Rattle.mvs_model.specs.declared.line.Fault.{Fault}
use Rattle.mvs_model.specs.declared.outcome.Outcome.{Outcome}
use Rattle.mvs_model.specs.Job.{JobValue}
use Rattle.mvs_model.specs.Memory.{StopsForMemory}
use Rattle.mvs_model.specs.Runs.{machine}
use Rattle.mvs_model.specs.Walk.{Closes}
use Rattle.mvs_job.specs.declared.walk.LineEvent.{LineEvent}
use Rattle.mvs_job.specs.declared.walk.LineEvent.TheVariants as line_event
use Rattle.mvs_job.specs.LineEvents.{HasRequest, IsReadIn, WalkValue, ServesAs, closing, ended}
use Rattle.mvs_job.specs.declared.consumer.End.TheVariants as end
use Rattle.mvs_job.specs.Trace.{Entry, IsClosed, IsExecuted, IsExhausted, IsFaulty}
use Rattle.mvs_job.specs.Consuming.{IsAny, IsEnd, IsEntry}

module _ (w w' : WalkValue) (line : List ℕ) (reads : IsReadIn w.step line w'.read) where
  -- an executed line
  abbrev pub OfExecuted : ℕ → LineEvent → Type 0
  OfExecuted n t = (e : Entry) × (IsExecuted w.number w.step line e × (e.after ≡ w'.step)) × IsEntry n line w' t e

  pub entry_executed : (n : ℕ) (t : LineEvent) → n ≡ w.number → ((fault : Fault) → t ≡ line_event.Faulted fault → ⊥) → ServesAs w line t w' → HasRequest w' t → OfExecuted n t
  entry_executed n (line_event.Faulted fault) at other h has = absurd (other fault refl)
  entry_executed n line_event.Nothing at other (said, of, serves) has = subst (λ n. OfExecuted n line_event.Nothing) (sym at) (_, ((said, _, _, of, serves, refl), refl), record { read = reads; of_line = (said, _, _, of, serves, refl); events = refl; after = refl; request = has })
  entry_executed n (line_event.StepBegan ended card) at other (said, of, serves) has =
      subst (λ n. OfExecuted n (line_event.StepBegan ended card)) (sym at) (_, ((said, _, _, of, serves, refl), refl), record { read = reads; of_line = (said, _, _, of, serves, refl); events = refl; after = refl; request = has })
  entry_executed n (line_event.Answered t a) at other (said, of, serves) has =
      subst (λ n. OfExecuted n (line_event.Answered t a)) (sym at) (_, ((said, _, _, of, serves, refl), refl), record { read = reads; of_line = (said, _, _, of, serves, refl); events = refl; after = refl; request = has })

  -- one with a fault
  abbrev pub OfFaulty : ℕ → LineEvent → Type 0
  OfFaulty n t = (e : Entry) × IsFaulty w.number w.step line e × IsEntry n line w' t e

  faulty_at : (n : ℕ) (fault : Fault) → n ≡ w.number → ServesAs w line (line_event.Faulted fault) w' → OfFaulty n (line_event.Faulted fault)
  faulty_at n fault at (of, same) = subst (λ n. OfFaulty n (line_event.Faulted fault)) (sym at) (_, (fault, of, refl), record { read = reads; of_line = (fault, of, refl); events = refl; after = sym same; request = tt })

  pub entry_faulty : (n : ℕ) (t : LineEvent) (fault : Fault) → n ≡ w.number → t ≡ line_event.Faulted fault → ServesAs w line t w' → OfFaulty n t
  entry_faulty n t fault at is h = subst (OfFaulty n) (sym is) (faulty_at n fault at (subst (λ t. ServesAs w line t w') is h))

  -- any line
  abbrev pub OfAny : ℕ → LineEvent → Type 0
  OfAny n t = (e : Entry) × IsAny w.number w.step line e × IsEntry n line w' t e

  executed_any : (n : ℕ) (t : LineEvent) → OfExecuted n t → OfAny n t
  executed_any n t (e, is, entry) = (e, inl is.0, entry)

  pub entry_any : (n : ℕ) (t : LineEvent) → n ≡ w.number → ServesAs w line t w' → HasRequest w' t → OfAny n t
  entry_any n (line_event.Faulted fault) at h has = let r = faulty_at n fault at h in (r.0, inr (inl r.1), r.2)
  entry_any n line_event.Nothing at h has = executed_any n line_event.Nothing (entry_executed n line_event.Nothing at (λ fault e. let f : line_event.Nothing ≡ line_event.Faulted fault = e in cc) h has)
  entry_any n (line_event.StepBegan ended card) at h has = executed_any n (line_event.StepBegan ended card) (entry_executed n (line_event.StepBegan ended card) at (λ fault e. let f : line_event.StepBegan ended card ≡ line_event.Faulted fault = e in cc) h has)
  entry_any n (line_event.Answered t a) at h has = executed_any n (line_event.Answered t a) (entry_executed n (line_event.Answered t a) at (λ fault e. let f : line_event.Answered t a ≡ line_event.Faulted fault = e in cc) h has)

-- a line at which memory is exhausted
pub entry_exhausted : (w : WalkValue) (line : List ℕ) (n : ℕ) (o : Option Bool) → n ≡ w.number → StopsForMemory w.number w.step (line ∷ []) (ended o) → (e : Entry) × IsExhausted w.number w.step line e × (IsEnd n (end.Exhausted o) e × (e.before ≡ w.step))
entry_exhausted w line n o at (said, of, takes) =
    subst (λ n. (e : Entry) × IsExhausted w.number w.step line e × (IsEnd n (end.Exhausted o) e × (e.before ≡ w.step))) (sym at) (_, (said, ended o, of, takes, refl), (((line, (said, ended o, of, takes, refl)), refl), refl))

-- the end of the script
pub entry_closed : (w : WalkValue) (n : ℕ) (o : Option Bool) (outcome : Outcome) → n ≡ w.number → Closes machine w.number w.step (closing w.number o) outcome → (e : Entry) × IsClosed w.number w.step outcome e × IsEnd n (end.Closed o) e
entry_closed w n o outcome at closes =
    subst (λ n. (e : Entry) × IsClosed w.number w.step outcome e × IsEnd n (end.Closed o) e) (sym at) (_, (closing w.number o, closes, refl), ((outcome, (closing w.number o, closes, refl)), refl))

-- The step before the last entry is the one in which the job ends.
pub closed_before : (number : ℕ) (old : Option JobValue) (outcome : Outcome) (e : Entry) → IsClosed number old outcome e → e.before ≡ old
closed_before number old outcome e (events, closes, is) = ap (λ (e : Entry). e.before) is
