-- Diagnostics, a part at a time.
use Rattle.std.proofs.Common.{◌≡◌, ℕ, zero, suc, ◌+◌, ◌-◌, ◌<◌, ◌≤◌, Bool, false, List, [], ◌∷◌, ◌++◌, append_assoc, arith, ap, refl, subst, sym, ◌∙◌, Some, add-one, drop, get_or, length}
use Rattle.std.proofs.Math.Seq.{drop-cons}
use Rattle.std.proofs.lemmas.List.{append-nil, drop_all}
use Rattle.expected_answers.specs.ExpectedAnswers.{last_or}
use Rattle.language_server.specs.Differences.{difference_at, differences_from, ends_in, step_ends}
use Rattle.language_server.specs.Documents.{DocumentValue}
use Rattle.language_server.specs.FaultNotes.{AreFaultNotes}
use Rattle.language_server.specs.Explanations.{starred}
use Rattle.language_server.specs.LineOutputs.{LineOutputValue}
use Rattle.language_server.specs.NoteValues.{NoteValue}
use Rattle.language_server.specs.RefusalNotes.{onto_reason, reasons_in, spaced}
use Rattle.language_server.specs.declared.runnable.FaultAt.{FaultAt}

-- ---- faults

-- all of them
pub faults_done : (d : DocumentValue) (faults : List FaultAt) (n : ℕ) (notes : List NoteValue) → length faults ≤ n → ((rest : List NoteValue) → AreFaultNotes d (drop n faults) rest → AreFaultNotes d faults (notes ++ rest)) → AreFaultNotes d faults notes
faults_done d faults n notes all so_far =
    let none : drop n faults ≡ [] = drop_all n faults all in
    subst (AreFaultNotes d faults) (append-nil notes) (so_far [] (subst (λ left. AreFaultNotes d left []) (sym none) refl))

-- ---- differences

-- one more line
pub difference_more : (d : DocumentValue) (notes new : List NoteValue) (n m : ℕ) → n < m → new ≡ notes ++ difference_at d n
    → new ++ differences_from d (n + 1) (m - (n + 1)) ≡ notes ++ differences_from d n (m - n)
difference_more d notes new n m less more =
    let left = differences_from d (n + 1) (m - (n + 1)) in
    let e : suc (m - (n + 1)) ≡ m - n = omega arith in
    ap (λ s. s ++ left) more ∙ append_assoc notes (difference_at d n) left ∙ ap (λ count. notes ++ differences_from d n count) e

-- ---- the end

last_of_both : (first : List ℕ) (xs ys : List (List ℕ)) → last_or first (xs ++ ys) ≡ last_or (last_or first xs) ys
last_of_both first [] ys = refl
last_of_both first (x ∷ xs) ys = last_of_both x xs ys

-- the ends of one line more
pub last_more : (outputs : List LineOutputValue) (o : LineOutputValue) (n : ℕ) (last new : List ℕ) → n < length outputs → o ≡ get_or outputs n o → new ≡ last_or last (ends_in o)
    → last_or new (step_ends (drop (n + 1) outputs)) ≡ last_or last (step_ends (drop n outputs))
last_more outputs o n last new within is later =
    let left = step_ends (drop (n + 1) outputs) in
    let one : drop (n + 1) outputs ≡ drop (suc n) outputs = ap (λ k. drop k outputs) (add-one n) in
    let cut : o ∷ drop (n + 1) outputs ≡ drop n outputs = ap (λ l. o ∷ l) one ∙ ap (λ x. x ∷ drop (suc n) outputs) is ∙ sym (drop-cons outputs n o within) in
    ap (λ l. last_or l left) later ∙ sym (last_of_both last (ends_in o) left) ∙ ap (λ os. last_or last (step_ends os)) cut

-- ---- reasons

-- the first of some lines
reasons_begin : (left : ℕ) (line : List ℕ) (next : List (List ℕ)) → 0 < left → reasons_in left (line ∷ next) ≡ onto_reason (starred line) (reasons_in (left - 1) next)
reasons_begin zero line next some = absurd (omega arith)
reasons_begin (suc k) line next some = let e : suc k - 1 ≡ k = omega arith in rw e refl

-- one line more
pub reason_more : (text new reason line : List ℕ) (first : Bool) (left : ℕ) (lines next : List (List ℕ)) → 0 < left → lines ≡ line ∷ next → starred line ≡ Some reason → new ≡ text ++ spaced first (reason ∷ [])
    → new ++ spaced false (reasons_in (left - 1) next) ≡ text ++ spaced first (reasons_in left lines)
reason_more text new reason line first left lines next some cut is e =
    let after = spaced false (reasons_in (left - 1) next) in
    let begin : reasons_in left lines ≡ reason ∷ reasons_in (left - 1) next = ap (reasons_in left) cut ∙ reasons_begin left line next some ∙ ap (λ r. onto_reason r (reasons_in (left - 1) next)) is in
    ap (λ t. t ++ after) e ∙ append_assoc text (spaced first (reason ∷ [])) after ∙ ap (λ t. text ++ t) (one first reason (reasons_in (left - 1) next)) ∙ ap (λ rs. text ++ spaced first rs) (sym begin) where
      one : (b : Bool) (reason : List ℕ) (rest : List (List ℕ)) → spaced b (reason ∷ []) ++ spaced false rest ≡ spaced b (reason ∷ rest)
      one b reason rest = simp (append_assoc, append-nil)

no_reasons : (left : ℕ) → reasons_in left [] ≡ []
no_reasons zero = refl
no_reasons (suc k) = refl

-- the last line
pub reason_last : (text new reason line : List ℕ) (first : Bool) (left : ℕ) (lines : List (List ℕ)) → 0 < left → lines ≡ line ∷ [] → starred line ≡ Some reason → new ≡ text ++ spaced first (reason ∷ [])
    → new ≡ text ++ spaced first (reasons_in left lines)
reason_last text new reason line first left lines some cut is e =
    sym (append-nil new) ∙ ap (λ rs. new ++ spaced false rs) (sym (no_reasons (left - 1))) ∙ reason_more text new reason line first left lines [] some cut is e
