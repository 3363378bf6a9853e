-- The line whose fault ends a job.
use Rattle.std.specs.Prelude.{◌≡◌, ◌⊎◌, ℕ, ◌+◌, Bool, List, [], ◌∷◌, ◌++◌, length, Some}
use Rattle.mvs_model.specs.declared.line.Fault.{Fault}
use Rattle.mvs_model.specs.Answers.{Event, Faulted}
use Rattle.mvs_laws.specs.Laws.{first_fault}

-- The first fault of some lines, the first of which has a number, is this one, in the line with this number, if there is one.
abbrev pub IsFirstFault : ℕ → Bool → List (List ℕ) → ℕ → Fault → Type 0
IsFirstFault from first lines number fault = (n : ℕ) (f : Fault) → first_fault from first lines ≡ Some (n, f) → (number ≡ n) × (fault ≡ f)

-- The line with this number is one of some lines, the first of which has a number; or it is the empty one after them.
pub record IsLineOf (from : ℕ) (lines : List (List ℕ)) (number : ℕ) (line : List ℕ) : Type 0 where
  pub before : List (List ℕ)
  pub rest : List (List ℕ)
  pub parts : lines ≡ before ++ rest
  pub counted : number ≡ from + length before
  pub here : ((following : List (List ℕ)) × (rest ≡ line ∷ following)) ⊎ ((rest ≡ []) × (line ≡ []))

-- The events end with this fault, of the line of this number.
abbrev pub EndsAt : ℕ → Fault → List Event → Type 0
EndsAt number fault events = (front : List Event) × (events ≡ front ++ Faulted number fault ∷ [])
