-- Walks over the lines of a script, for any machine: how a line is served, and how a walk goes on.
use Rattle.std.proofs.Common.{◌≡◌, ℕ, ◌+◌, inl, inr, List, [], ◌∷◌, ◌++◌, length, append_assoc, append-nil, Option, Some, None, arith, refl, sym, ap, ◌∙◌, subst}
use Rattle.std.proofs.lemmas.Bool.Decides.{nat_tests}
use Rattle.mvs_laws.proofs.Types.{Name, Statement}
use Rattle.mvs_model.specs.declared.line.Line.TheVariants as line
use Rattle.mvs_model.specs.declared.line.Statement.TheVariants as says
use Rattle.mvs_model.specs.Card.{CardValue}
use Rattle.mvs_model.specs.Lines.{card_of}
use Rattle.mvs_model.specs.Answers.{Answer, Region, Event, AnswerTo}
use Rattle.mvs_model.specs.Walk.{Machine, has_abended, ending, Serves, ServesLine, Stop, Walks, Arrives, Leads}

-- a statement other than REGION
abbrev pub IsOfStep : Statement → Type 0
IsOfStep (says.Region below above fill residence) = ⊥
IsOfStep s = Unit {0}

module _ {J : Type 0} (m : Machine J) where
  -- a REGION statement is served so
  abbrev pub Turns : ℕ → Option J → Name → CardValue → List Event → Option J → Type 0
  Turns number old t card events new = (events ≡ ending m old ++ AnswerTo number t (Region card) ∷ []) × (new ≡ Some (m.starts card (has_abended m old)))

  -- and every other one so
  abbrev pub Steps : ℕ → J → Name → Statement → List Event → Option J → Type 0
  Steps number step t s events new = (answer : Answer) × (later : J) × m.does number step t s answer later × (events ≡ AnswerTo number t answer ∷ []) × (new ≡ Some later)

  pub served_first : (Q : Statement → Type 0) (R : Statement → Type 0) (number : ℕ) (t : Name) (s : Statement) (events : List Event) (new : Option J)
      → Serves m number None (line.Statement t s) events new → Q s
      → ((below above fill : ℕ) (residence : _) → Q (says.Region below above fill residence) → Turns number None t (card_of t below above fill residence) events new → R (says.Region below above fill residence))
      → R s
  served_first Q R number t s events new h1 h2 h3 = grind (arith, nat_tests)

  pub served_in : (Q : Statement → Type 0) (R : Statement → Type 0) (number : ℕ) (step : J) (t : Name) (s : Statement) (events : List Event) (new : Option J)
      → Serves m number (Some step) (line.Statement t s) events new → Q s
      → ((below above fill : ℕ) (residence : _) → Q (says.Region below above fill residence) → Turns number (Some step) t (card_of t below above fill residence) events new → R (says.Region below above fill residence))
      → ((s : Statement) → IsOfStep s → Q s → Steps number step t s events new → R s)
      → R s
  served_in Q R number step t s events new h1 h2 h3 h4 = grind (arith, nat_tests)

  pub steps_serve : (number : ℕ) (step : J) (t : Name) (s : Statement) (events : List Event) (new : Option J) → IsOfStep s → Steps number step t s events new → Serves m number (Some step) (line.Statement t s) events new
  steps_serve number step t s events new h1 h2 = grind (arith, nat_tests)

  -- a walk goes on where some lines lead
  pub leads_then : (stops : Stop J) (served left : List (List ℕ)) (number next : ℕ) (old step : Option J) (events rest : List Event) → next ≡ number + length served
      → Leads m number old served events step → Walks m stops next step left rest → Walks m stops number old (served ++ left) (events ++ rest)
  leads_then stops [] left number next old step events rest e h w =
      let at : next ≡ number = omega (arith, e) in
      subst (λ x. Walks m stops number old left (x ++ rest)) (sym h.0) (subst (λ x. Walks m stops number x left rest) h.1 (subst (λ x. Walks m stops x step left rest) at w))
  leads_then stops (l ∷ served) left number next old step events rest e (inl h) w = absurd h
  leads_then stops (l ∷ served) left number next old step events rest e (inr h) w =
      inr (h.0, h.1, h.2 ++ rest, h.3, ap (λ x. x ++ rest) h.4 ∙ append_assoc h.1 h.2 rest, leads_then stops served left (number + 1) next h.0 step h.2 rest (omega (arith, e)) h.5 w)

  -- one more line
  pub leads_next : (served : List (List ℕ)) (l : List ℕ) (number next : ℕ) (old step new : Option J) (events first : List Event) → next ≡ number + length served
      → Leads m number old served events step → ServesLine m next step l first new → Leads m number old (served ++ l ∷ []) (events ++ first) new
  leads_next served l number next old step new events first e h s = leads_then (Arrives new) served (l ∷ []) number next old step events first e h (inr (new, first, [], s, sym (append-nil first), (refl, refl)))
