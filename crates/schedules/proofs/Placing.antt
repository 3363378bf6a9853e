-- Where the statements of a step come in another order.
use Rattle.std.proofs.Common.{◌≡◌, ℕ, suc, ◌+◌, ◌<◌, ◌==◌, Bool, true, false, if◌then◌else◌, List, [], ◌∷◌, ◌++◌, drop, length, get_or, take, refl, sym, ap, ◌∙◌, append_assoc}
use Rattle.std.specs.Prelude.{slice_get}
use Rattle.std.specs.Option.{unwrap_or}
use Rattle.std.proofs.lemmas.Bool.Decides.{Decides-eqb}
use Rattle.std.proofs.lemmas.List.{drop-drop, drop_more, take-append-drop}
use Rattle.schedules.specs.declared.step_line.StepLine.{StepLine}
use Rattle.schedules.specs.Orders.{placed}

other : (l : StepLine) (lines : List StepLine) (order : List ℕ) (n : ℕ) (b : Bool) → (l.number == n) ≡ b → b ≡ false → (if l.number == n then unwrap_or (slice_get order 0) n else placed lines (drop 1 order) n) ≡ placed lines (drop 1 order) n
other l lines order n b e f = ap (λ b. if b then unwrap_or (slice_get order 0) n else placed lines (drop 1 order) n) (e ∙ f)

differs : (a b : ℕ) (e : Bool) → (a == b) ≡ e → (a ≡ b → ⊥) → (a == b) ≡ false
differs a b true is h = absurd (h ((Decides-eqb a b).0 is))
differs a b false is h = is

pub placed_next : (lines : List StepLine) (order : List ℕ) (n at : ℕ) (l : StepLine) → at < length lines → get_or lines at l ≡ l → (l.number ≡ n → ⊥) → placed (drop (at + 1) lines) (drop (at + 1) order) n ≡ placed (drop at lines) (drop at order) n
placed_next lines order n at l within is unlike =
    let here : drop at lines ≡ l ∷ drop (at + 1) lines = drop_more lines at l within ∙ ap (λ x. x ∷ drop (at + 1) lines) is in
    ap (λ o. placed (drop (at + 1) lines) o n) (sym (drop-drop 1 at order)) ∙ sym (other l (drop (at + 1) lines) (drop at order) n false (differs l.number n (l.number == n) refl unlike) refl) ∙ sym (ap (λ x. placed x (drop at order) n) here)

-- the lines of a step among those of its script
module _ (s : List StepLine) (i end : ℕ) (r : StepLine) (within : i < length s) (is : get_or s i r ≡ r) where
  here : drop i s ≡ r ∷ drop (i + 1) s
  here = drop_more s i r within ∙ ap (λ x. x ∷ drop (i + 1) s) is

  pub step_cut : (n : ℕ) → n ≡ suc end → take n (drop i s) ≡ r ∷ take end (drop (i + 1) s)
  step_cut n e = ap (λ n. take n (drop i s)) e ∙ ap (take (suc end)) here

  pub whole_cut : s ≡ (take i s ++ (r ∷ take end (drop (i + 1) s))) ++ drop end (drop (i + 1) s)
  whole_cut =
      let t = drop (i + 1) s in
      let rest : drop i s ≡ (r ∷ take end t) ++ drop end t = here ∙ ap (λ x. r ∷ x) (sym (take-append-drop end t)) in
      sym (take-append-drop i s) ∙ ap (λ x. take i s ++ x) rest ∙ sym (append_assoc (take i s) (r ∷ take end t) (drop end t))
