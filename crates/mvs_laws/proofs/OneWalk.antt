-- Two machines that start alike walk alike, where their statements are answered alike.
use Rattle.std.proofs.Common.{◌≡◌, ℕ, ◌+◌, inl, inr, Bool, List, [], ◌∷◌, ◌++◌, Option, Some, None, sym, ap, ◌∙◌, subst}
use Rattle.mvs_laws.proofs.Types.{Name, Line, Statement, Outcome}
use Rattle.mvs_model.specs.declared.line.Line.TheVariants as line
use Rattle.mvs_model.specs.Card.{CardValue}
use Rattle.mvs_model.specs.Answers.{Answer, Event, AnswerTo, Faulted}
use Rattle.mvs_model.specs.Walk.{Machine, is_first, Serves, ServesLine, Faults, Walks, JobEnds}
use Rattle.mvs_laws.proofs.Walking.{IsOfStep, served_first, served_in}
use Rattle.mvs_model.proofs.Reading.{one_reading}

faults_one : (number : ℕ) (first : Bool) (l : List ℕ) (events other : List Event) → Faults number first l events → Faults number first l other → events ≡ other
faults_one number first l events other x y = x.2 ∙ ap (λ fault. Faulted number fault ∷ []) (one_reading.one_fault first l x.0 y.0 x.1 y.1) ∙ sym y.2

module _ {J : Type 0} (starts : CardValue → Bool → J) (abended former : J → Bool) (does others : ℕ → J → Name → Statement → Answer → J → Type 0) where
  abbrev pub m : Machine J
  m = record { starts = starts; abended = abended; former = former; does = does }

  abbrev pub n : Machine J
  n = record { starts = starts; abended = abended; former = former; does = others }

  abbrev pub Alike : Type 0
  Alike = (number : ℕ) (old : J) (t : Name) (s : Statement) (answer other : Answer) (a b : J) → does number old t s answer a → others number old t s other b → (answer ≡ other) × (a ≡ b)

  serves_one : Alike → (number : ℕ) (old : Option J) (l : Line) (events other : List Event) (a b : Option J) → Serves m number old l events a → Serves n number old l other b → (events ≡ other) × (a ≡ b)
  serves_one alike number old line.Nothing events other a b x y = (x.0 ∙ sym y.0, x.1 ∙ sym y.1)
  serves_one alike number None (line.Statement t s) events other a b x y =
      served_first m (λ s. Serves n number None (line.Statement t s) other b) (λ _. (events ≡ other) × (a ≡ b)) number t s events a x y (λ below above fill residence y x. (x.0 ∙ sym y.0, x.1 ∙ sym y.1))
  serves_one alike number (Some j) (line.Statement t s) events other a b x y =
      served_in m (λ s. Serves n number (Some j) (line.Statement t s) other b) (λ _. (events ≡ other) × (a ≡ b)) number j t s events a x y
      (λ below above fill residence y x. (x.0 ∙ sym y.0, x.1 ∙ sym y.1))
      (λ s of_step y x. served_in n (λ s. IsOfStep s × does number j t s x.0 x.1) (λ _. (events ≡ other) × (a ≡ b)) number j t s other b y (of_step, x.2)
      (λ below above fill residence i y. absurd i.0)
      (λ s of_step i y. let d = alike number j t s x.0 y.0 x.1 y.1 i.1 y.2 in (x.3 ∙ ap (λ answer. AnswerTo number t answer ∷ []) d.0 ∙ sym y.3, x.4 ∙ ap Some d.1 ∙ sym y.4)))

  -- a line says one thing or has one fault
  pub line_one : Alike → (number : ℕ) (old : Option J) (l : List ℕ) (events other : List Event) (a b : Option J) → ServesLine m number old l events a → ServesLine n number old l other b → (events ≡ other) × (a ≡ b)
  line_one alike number old l events other a b x y =
      serves_one alike number old y.0 events other a b (subst (λ said. Serves m number old said events a) (one_reading.one_line (is_first old) l x.0 y.0 x.1 y.1) x.2) y.2

  pub walks_one : Alike → (o p : Outcome) (lines : List (List ℕ)) (number : ℕ) (old : Option J) (one other : List Event)
      → Walks m (JobEnds m o) number old lines one → Walks n (JobEnds n p) number old lines other → (one ≡ other) × (o ≡ p)
  walks_one alike o p [] number None one other x y = (x.0 ∙ sym y.0, x.1 ∙ sym y.1)
  walks_one alike o p [] number (Some j) one other x y = (x.0 ∙ sym y.0, x.1 ∙ sym y.1)
  walks_one alike o p (l ∷ lines) number old one other (inl x) (inl y) = (faults_one number (is_first old) l one other x.0 y.0, x.1 ∙ sym y.1)
  walks_one alike o p (l ∷ lines) number old one other (inl x) (inr y) = absurd (one_reading.not_both (is_first old) l y.3.0 x.0.0 y.3.1 x.0.1)
  walks_one alike o p (l ∷ lines) number old one other (inr x) (inl y) = absurd (one_reading.not_both (is_first old) l x.3.0 y.0.0 x.3.1 y.0.1)
  walks_one alike o p (l ∷ lines) number old one other (inr x) (inr y) =
      let s = line_one alike number old l x.1 y.1 x.0 y.0 x.3 y.3 in
      let rest = walks_one alike o p lines (number + 1) y.0 x.2 y.2 (subst (λ k. Walks m (JobEnds m o) (number + 1) k lines x.2) s.1 x.5) y.5 in
      (x.4 ∙ (λ i. s.0 i ++ rest.0 i) ∙ sym y.4, rest.1)
