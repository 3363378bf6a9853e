-- A job prints an output line by line.
use Rattle.std.proofs.Common.{◌≡◌, ℕ, ◌+◌, ◌≤◌, Bool, true, false, List, [], ◌∷◌, ◌++◌, length, drop, take, Some, None, length-append, arith, refl, sym, ap, ◌∙◌, subst}
use Rattle.std.specs.Prelude.{IfSome, if◌then◌else◌}
use Rattle.std.proofs.lemmas.List.{drop-drop, take-append-drop}
use Rattle.mvs_model.specs.declared.outcome.Outcome.{Outcome}
use Rattle.mvs_model.specs.declared.outcome.Outcome.TheVariants.{ScriptFault}
use Rattle.mvs_model.specs.Lines.{lines_of}
use Rattle.mvs_model.specs.Runs.{IsPrinting}
use Rattle.mvs_job.specs.LineEvents.{WalkValue}
use Rattle.judge.specs.Deciding.{HasReached, IsServed, PrintsEnd}
use Rattle.judge.proofs.Decided.{stands_fault, stands_served, taken_more}
use Rattle.judge.proofs.Rest.{rest_end}

-- The job stands here, and has printed so much of the output.
abbrev pub Stands : List ℕ → List ℕ → List ℕ → ℕ → ℕ → WalkValue → Type 0
Stands whole script output at done w = HasReached whole (take done output) w (drop at script)

module _ (whole script output rest left text : List ℕ) (at done end : ℕ) (w w' : WalkValue) (rest_is : rest ≡ drop at script) (left_is : left ≡ drop done output) (cut : lines_of rest ≡ take end rest ∷ lines_of (drop (end + 1) rest)) (s : Stands whole script output at done w) where
  stood : HasReached whole (take done output) w rest
  stood = subst (HasReached whole (take done output) w) (sym rest_is) s

  pub stands_more : IsServed (take end rest ∷ []) w text true w' → left ≡ text ++ drop (length text) left → Stands whole script output (at + (end + 1)) (done + length text) w'
  stands_more served front =
      subst (λ text. HasReached whole text w' (drop (at + (end + 1)) script)) (sym (taken_more output text left done left_is front))
      (subst (HasReached whole (take done output ++ text) w') (ap (drop (end + 1)) rest_is ∙ drop-drop (end + 1) at script) (stands_served whole (take done output) text rest (drop (end + 1) rest) w w' (take end rest ∷ []) cut stood served))

  ended_here : left ≡ text → take done output ++ text ≡ output
  ended_here e = ap (λ x. take done output ++ x) (sym e ∙ left_is) ∙ take-append-drop done output

  pub prints_fault : IsServed (take end rest ∷ []) w text false w' → left ≡ text → IsPrinting whole output ScriptFault
  prints_fault served e = subst (λ text. IsPrinting whole text ScriptFault) (ended_here e) (stands_fault whole (take done output) text rest (end + 1) w w' (take end rest ∷ []) cut stood served)

pub prints_end : (whole script output left last : List ℕ) (at done : ℕ) (w : WalkValue) (outcome : Outcome) → left ≡ drop done output → length script ≤ at → Stands whole script output at done w → PrintsEnd w last outcome → left ≡ last → IsPrinting whole output outcome
prints_end whole script output left last at done w outcome left_is all s ends e =
    subst (λ text. IsPrinting whole text outcome) (ap (λ x. take done output ++ x) (sym e ∙ left_is) ∙ take-append-drop done output)
    (rest_end whole script (take done output) (take done output ++ last) at w ends.0 outcome all s ends.1 (ap (λ x. take done output ++ x) ends.2))

-- what is returned after a test
pub some_if : (is_same : Bool) (outcome : Outcome) (P : Outcome → Type 0) → (is_same ≡ true → P outcome) → IfSome (if is_same then Some outcome else None) P
some_if true outcome P holds = holds refl
some_if false outcome P holds = tt

-- so much more fits
pub fits_more : (text left : List ℕ) → left ≡ text ++ drop (length text) left → length text ≤ length left
fits_more text left e = let l = ap length e ∙ length-append text (drop (length text) left) in omega (arith, l)
