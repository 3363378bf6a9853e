-- The rest of a script is run, a line at a time.
use Rattle.std.proofs.Common.{append_assoc, ◌≡◌, ℕ, ◌+◌, ◌≤◌, List, [], ◌∷◌, ◌++◌, length, take, drop, Option, Some, Bool, true, false, Ok, inl, refl, sym, ap, ◌∙◌, subst}
use Rattle.std.proofs.lemmas.List.{drop_all, drop-drop}
use Rattle.std.specs.Io.KnownBytes.{Appends}
use Rattle.mvs_model.specs.declared.outcome.Outcome.{Outcome}
use Rattle.mvs_model.specs.declared.outcome.Outcome.TheVariants.{ScriptFault}
use Rattle.mvs_laws.specs.Going.{Reaches}
use Rattle.mvs_model.specs.Lines.{lines_of}
use Rattle.mvs_model.specs.Runs.{IsPrinting, machine}
use Rattle.mvs_model.specs.Texts.{printing}
use Rattle.mvs_model.specs.Walk.{Closes}
use Rattle.mvs_laws.proofs.Going.{printed_both, reaches_next, reaches_then}
use Rattle.mvs_job.specs.Serving.{RunsLine}
use Rattle.mvs_job.specs.LineEvents.{WalkValue, closing}
use Rattle.judge.specs.Deciding.{HasReached}

-- what was printed, and what is printed now
both : (text text' front back : List ℕ) → text ≡ front → text' ≡ text ++ back → text' ≡ front ++ back
both text text' front back e f = f ∙ ap (λ x. x ++ back) e

-- a text that has grown, and grows by a line
pub grown_on : (start text text' script rest : List ℕ) (at end : ℕ) (w w' : WalkValue) (b : Bool) → rest ≡ drop at script → ((more : List ℕ) × (text ≡ start ++ more)) → RunsLine (Some text) (Some text') w (take end rest) w' (Ok b) → (more : List ℕ) × (text' ≡ start ++ more)
grown_on start text text' script rest at end w w' true is (more, e) (events, appended, serves) = (more ++ printing events, appended ∙ ap (λ x. x ++ printing events) e ∙ append_assoc start more (printing events))
grown_on start text text' script rest at end w w' false is (more, e) (events, appended, faults) = (more ++ printing events, appended ∙ ap (λ x. x ++ printing events) e ∙ append_assoc start more (printing events))

pub grown_end : (start text text' last : List ℕ) → ((more : List ℕ) × (text ≡ start ++ more)) → Appends (Some text) (Some text') last → (more : List ℕ) × (text' ≡ start ++ more)
grown_end start text text' last (more, e) appended = (more ++ last, appended ∙ ap (λ x. x ++ last) e ∙ append_assoc start more last)

module _ (whole script text text' rest : List ℕ) (at end : ℕ) (w w' : WalkValue) (is : rest ≡ drop at script) (cut : lines_of rest ≡ take end rest ∷ lines_of (drop (end + 1) rest)) (s : HasReached whole text w (drop at script)) where
  here : Reaches (lines_of whole) s.0 w.number w.step (take end rest ∷ lines_of (drop (end + 1) rest))
  here = subst (Reaches (lines_of whole) s.0 w.number w.step) (ap lines_of (sym is) ∙ cut) s.1

  pub rest_on : w'.number ≡ w.number + 1 → (b : Bool) → b ≡ true → RunsLine (Some text) (Some text') w (take end rest) w' (Ok b) → HasReached whole text' w' (drop (at + (end + 1)) script)
  rest_on next b e x = at_true (subst (λ b. RunsLine (Some text) (Some text') w (take end rest) w' (Ok b)) e x) where
    at_true : RunsLine (Some text) (Some text') w (take end rest) w' (Ok true) → HasReached whole text' w' (drop (at + (end + 1)) script)
    at_true (events, appended, serves) = (
      s.0 ++ events,
      subst (λ left. Reaches (lines_of whole) (s.0 ++ events) w'.number w'.step (lines_of left)) (ap (drop (end + 1)) is ∙ drop-drop (end + 1) at script)
          (subst (λ n. Reaches (lines_of whole) (s.0 ++ events) n w'.step (lines_of (drop (end + 1) rest))) (sym next) (reaches_next (lines_of whole) s.0 events w.number w.step w'.step (take end rest) (lines_of (drop (end + 1) rest)) here serves)),
      both text text' (printing s.0) (printing events) s.2 appended ∙ sym (printed_both s.0 events),
    )

  pub rest_fault : (b : Bool) → b ≡ false → RunsLine (Some text) (Some text') w (take end rest) w' (Ok b) → IsPrinting whole text' ScriptFault
  rest_fault b e x = at_false (subst (λ b. RunsLine (Some text) (Some text') w (take end rest) w' (Ok b)) e x) where
    at_false : RunsLine (Some text) (Some text') w (take end rest) w' (Ok false) → IsPrinting whole text' ScriptFault
    at_false (events, appended, faults) =
        (s.0 ++ events, reaches_then (lines_of whole) ScriptFault s.0 events w.number w.step (take end rest ∷ lines_of (drop (end + 1) rest)) here (inl (faults, refl)), both text text' (printing s.0) (printing events) s.2 appended ∙ sym (printed_both s.0 events))

pub rest_end : (whole script text text' : List ℕ) (at : ℕ) (w : WalkValue) (ended : Option Bool) (outcome : Outcome) → length script ≤ at → HasReached whole text w (drop at script) → Closes machine w.number w.step (closing w.number ended) outcome → Appends (Some text) (Some text') (printing (closing w.number ended)) → IsPrinting whole text' outcome
rest_end whole script text text' at w ended outcome all s closes appended = (
  s.0 ++ closing w.number ended,
  reaches_then (lines_of whole) outcome s.0 (closing w.number ended) w.number w.step [] (subst (λ left. Reaches (lines_of whole) s.0 w.number w.step left) (ap lines_of (drop_all at script all)) s.1) closes,
  both text text' (printing s.0) (printing (closing w.number ended)) s.2 appended ∙ sym (printed_both s.0 (closing w.number ended)),
)
