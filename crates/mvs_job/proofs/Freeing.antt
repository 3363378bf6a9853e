-- The subpools that tasks own, one after another, and the names of tasks.
use Rattle.std.proofs.Common.{◌≡◌, ℕ, ◌+◌, ◌<◌, ◌≤◌, ◌++◌, List, [], ◌∷◌, length, length-append, append-nil, Bool, true, false, Some, None, refl, sym, ap, subst, ◌∙◌, arith}
use Rattle.std.specs.FinMap.{get}
use Rattle.std.specs.Option.{option_and_then, option_map}
use Rattle.mvs_model.specs.Reports.{each_below, label_of, number_of}
use Rattle.mvs_model.specs.State.{State}
use Rattle.request_forms.specs.Facts.{bytes_of, has_subpool, listed, owned_at, pages_of}
use Rattle.request_forms.specs.declared.facts.OwnedSubpool.{OwnedSubpool}
use Rattle.mvs_model.specs.declared.name.Name.{Name}
use Rattle.mvs_model.specs.declared.answer.Answer.{Answer as Short}
use Rattle.mvs_model.specs.FullAnswers.{full_answer, ended_with_in}
use Rattle.mvs_job.specs.declared.walk.LineEvent.{LineEvent}
use Rattle.mvs_job.specs.declared.walk.LineEvent.TheVariants as line_event
use Rattle.mvs_job.specs.Facts.{end_of, ended_by}
use Rattle.mvs_job.specs.LineEvents.{WalkValue, IsAvailable, events_of_line, full_answer_in}
use Rattle.mvs_job.proofs.Numbers.{each_next, each_skip}

abbrev found : State → Name → ℕ → ℕ × Name → OwnedSubpool
found st t s l = record { number = l.0; owner = l.1; bytes = bytes_of st s; pages = pages_of st s; had = has_subpool st.owners t s }

-- a subpool that no task owns
not_owned : (st : State) (t : Name) (s : ℕ) → get st.owners.owner s ≡ None → owned_at st t s ≡ None
not_owned st t s none =
    let label : label_of st.owners (Some s) ≡ None = ap (option_and_then (λ u. option_map (λ n. (n, u)) (number_of st.owners u s))) none in
    ap (option_map (found st t s)) label

-- numbers that are passed, at which no task owns a subpool
pub passed : (st : State) (t : Name) (from to : ℕ) (subpools : List OwnedSubpool) → from ≤ to → ((n : ℕ) → from ≤ n → n < to → get st.owners.owner n ≡ None) → subpools ≡ each_below from (λ n. listed (owned_at st t n)) → subpools ≡ each_below to (λ n. listed (owned_at st t n))
passed st t from to subpools low none each = each ∙ sym (each_skip (λ n. listed (owned_at st t n)) from to low (λ n l h. ap listed (not_owned st t n (none n l h))))

module _ (st : State) (t : Name) (s : ℕ) (subpools : List OwnedSubpool) (few : length subpools ≤ s) (each : subpools ≡ each_below s (λ n. listed (owned_at st t n))) where
  -- one subpool more, and none
  abbrev row : ℕ → List OwnedSubpool
  row n = listed (owned_at st t n)

  pub one_more : (x : OwnedSubpool) (new : List OwnedSubpool) → owned_at st t s ≡ Some x → new ≡ subpools ++ x ∷ [] → (length new ≤ s + 1) × (new ≡ each_below (s + 1) (λ n. listed (owned_at st t n)))
  one_more x new is e = (
    (let n = ap length e ∙ length-append subpools (x ∷ []) in omega (arith, n, few)),
    e ∙ ap (λ z. z ++ x ∷ []) each ∙ ap (λ v. each_below s row ++ listed v) (sym is) ∙ sym (each_next row s),
  )

  pub none_more : (new : List OwnedSubpool) → owned_at st t s ≡ None → new ≡ subpools → (length new ≤ s + 1) × (new ≡ each_below (s + 1) (λ n. listed (owned_at st t n)))
  none_more new is e = (
    (let n = ap length e in omega (arith, n, few)),
    e ∙ each ∙ sym (append-nil (each_below s row)) ∙ ap (λ v. each_below s row ++ listed v) (sym is) ∙ sym (each_next row s),
  )

-- the tasks that end with a statement that was answered
pub answered_ends : (w : WalkValue) (t : LineEvent) (task : Name) (a : Short) (fallen : List Name) → t ≡ line_event.Answered task a → IsAvailable w t → fallen ≡ ended_with_in w.reply → (number : ℕ)
    → (st : State) × (end_of task (full_answer st fallen task a) ≡ ended_by (events_of_line number w t))
answered_ends w t task a fallen is available falls number =
    let l = subst (IsAvailable w) is available in (
      l.0.state,
      ap (λ names. end_of task (full_answer l.0.state names task a)) falls
          ∙ ap (λ step. end_of task (full_answer_in step (ended_with_in w.reply) task a)) (sym l.1)
          ∙ ap (λ x. ended_by (events_of_line number w x)) (sym is),
    )
