-- The statements of a step in an order, one after another.
use Rattle.std.proofs.Common.{◌≡◌, ℕ, ◌+◌, ◌<◌, ◌≤◌, false, List, [], ◌∷◌, ◌++◌, map, length, take, drop, get_or, refl, sym, ap, ◌∙◌, subst, append_assoc, arith, length-append}
use Rattle.std.specs.Prelude.{slice_get, slice_index}
use Rattle.std.proofs.lemmas.List.{drop_more, length-drop, length-take, map-append, take-append-drop, take_more}
use Rattle.mvs_job.specs.LineEvents.{WalkValue}
use Rattle.schedules.specs.declared.step_line.StepLine.{StepLine}
use Rattle.schedules.specs.Answered.{AnsweredValue, Schedule, order_of}
use Rattle.schedules.specs.Next.{number_of, some_can_run, unreached}
use Rattle.schedules.specs.Orders.{HasOrder, RunsNumber}
use Rattle.schedules.specs.Schedules.{IsSchedule, Continues, Ends}

-- A schedule has begun with the first numbers of an order.
pub record HasBegun (lines : List StepLine) (start : WalkValue) (all : List ℕ) (w : WalkValue) (left order : List ℕ) (at : ℕ) : Type 0 where
  pub begun : Schedule
  pub goes : (s : Schedule) → IsSchedule lines w left s → IsSchedule lines start all (begun ++ s)
  pub taken : order_of begun ≡ take at order
  pub within : at ≤ length order

pub begun_none : (lines : List StepLine) (w : WalkValue) (left order : List ℕ) → HasBegun lines w left w left order 0
begun_none lines w left order = record { begun = []; goes = λ s is. is; taken = refl; within = omega arith }

-- the position that is taken out of those that are left
left_cut : (left : List ℕ) (at : ℕ) → at < length left → left ≡ take at left ++ slice_index left at ∷ drop (at + 1) left
left_cut left at within = sym (take-append-drop at left) ∙ ap (λ x. take at left ++ x) (drop_more left at 0 within)

module _ (lines : List StepLine) (w later : WalkValue) (left rest : List ℕ) (number : ℕ) (r : RunsNumber lines w left number later rest) where
  runs_number : r.answer.line ≡ number
  runs_number = ap (λ (a : AnsweredValue). a.line) r.runs.2.answer ∙ ap number_of (sym r.runs.1) ∙ r.number_is

  pub begun_more : (start : WalkValue) (all order : List ℕ) (i : ℕ) (within : i < length order) → number ≡ get_or order i 0 → HasBegun lines start all w left order i → HasBegun lines start all later rest order (i + 1)
  begun_more start all order i within is h = record {
    begun = h.begun ++ r.answer ∷ [];
    goes = λ s one.
        let at = r.at in
        let next : IsSchedule lines later (take at left ++ drop (at + 1) left) s = subst (λ l. IsSchedule lines later l s) r.rest_is one in
        let more : IsSchedule lines w (take at left ++ slice_index left at ∷ drop (at + 1) left) (r.answer ∷ s) = Continues w (take at left) (slice_index left at) (drop (at + 1) left) r.answer later s r.can r.runs next in
        subst (IsSchedule lines start all) (sym (append_assoc h.begun (r.answer ∷ []) s)) (h.goes (r.answer ∷ s) (subst (λ l. IsSchedule lines w l (r.answer ∷ s)) (sym (left_cut left at r.within)) more));
    taken =
        map-append (λ (a : AnsweredValue). a.line) h.begun (r.answer ∷ []) ∙ ap (λ x. x ++ r.answer.line ∷ []) h.taken ∙ ap (λ n. take i order ++ n ∷ []) (runs_number ∙ is)
        ∙ sym (take_more order i 0 within);
    within = omega (arith, within);
  }

  pub fewer : length rest + 1 ≡ length left
  fewer =
      let e = ap length r.rest_is in
      let a = length-append (take r.at left) (drop (r.at + 1) left) in
      let t = length-take r.at left in
      let d = length-drop (r.at + 1) left in
      let w = r.within in
      omega (arith, e, a, t, d, w)

-- the statements that are not reached
order_unreached : (lines : List StepLine) (left : List ℕ) → order_of (unreached lines left) ≡ map (λ k. number_of (slice_get lines k)) left
order_unreached lines [] = refl
order_unreached lines (k ∷ left) = ap (λ x. number_of (slice_get lines k) ∷ x) (order_unreached lines left)

pub ends_so : (lines : List StepLine) (start : WalkValue) (all : List ℕ) (w : WalkValue) (left order : List ℕ) (i : ℕ) → some_can_run lines w.step [] left ≡ false → HasBegun lines start all w left order i
    → drop i order ≡ map (λ k. number_of (slice_get lines k)) left → HasOrder lines start all order
ends_so lines start all w left order i none h rest = (
  h.begun ++ unreached lines left,
  h.goes (unreached lines left) (Ends w left none),
  sym (map-append (λ (a : AnsweredValue). a.line) h.begun (unreached lines left) ∙ ap (λ x. x ++ order_of (unreached lines left)) h.taken ∙ ap (λ x. take i order ++ x) (order_unreached lines left ∙ sym rest) ∙ take-append-drop i order),
)
