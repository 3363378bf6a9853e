-- What is found of an output, by how far it was followed and what was printed.
use Rattle.std.proofs.Common.{Decides as Tests, ◌≡◌, ◌≤◌, ◌+◌, ◌++◌, ◌∙◌, ap, append_assoc, ℕ, Bool, true, false, List, drop, length, take, Option, Some, None, refl, subst, sym}
use Rattle.std.specs.Prelude.{◌↔◌, IfSome, not}
use Rattle.std.proofs.Math.Seq.{take-append_seam}
use Rattle.mvs_model.specs.declared.outcome.Outcome.{Outcome}
use Rattle.mvs_model.specs.Runs.{IsPrinting}
use Rattle.mvs_model.specs.Texts.{printing}
use Rattle.mvs_model.proofs.Tests.{false_true}
use Rattle.mvs_job.specs.LineEvents.{WalkValue}
use Rattle.judge.specs.declared.Finding.{Finding}
use Rattle.judge.specs.declared.Finding.TheVariants.{Accepted, Refused, Undecided}
use Rattle.judge.specs.Judging.{IsFound, IsNoPrinting, IsOpenIn}
use Rattle.judge.specs.Deciding.{HasEnded, HasParted, IsFollowed, HasReached, finding_of}

-- What is found, and what that says of the text that was printed.
abbrev pub IsSaid : List ℕ → List ℕ → List ℕ → Outcome → Finding → Type 0
IsSaid script output text outcome f = IsFound script output text outcome f × IsPrinting script text outcome × ((f ≡ Accepted) ↔ (text ≡ output))

pub same_found : (script output text : List ℕ) (outcome : Outcome) → IsPrinting script text outcome → text ≡ output → IsSaid script output text outcome Accepted
same_found script output text outcome is e = (subst (λ text. IsPrinting script text outcome) e is, is, ((λ _. e), (λ _. refl)))

pub none_found : (script output text : List ℕ) (outcome : Outcome) → IsPrinting script text outcome → IsNoPrinting script output → IsSaid script output text outcome Refused
none_found script output text outcome is none = (none, is, ((λ e. absurd (let f : Refused ≡ Accepted = e in cc)), (λ e. absurd (none outcome (subst (λ text. IsPrinting script text outcome) e is)))))

pub found_ended : (script output text : List ℕ) (outcome : Outcome) (passes : Bool) → HasEnded script output outcome text passes → IsSaid script output text outcome (finding_of (not passes) passes 0)
found_ended script output text outcome true (is, e) = same_found script output text outcome is e
found_ended script output text outcome false (is, none) = none_found script output text outcome is none

-- what was printed when the output parted, and more
open_longer : (script output front text more : List ℕ) (number : ℕ) → text ≡ front ++ more → IsOpenIn script output front number → IsOpenIn script output text number
open_longer script output front text more number e (opens, rest, is) = (opens, rest ++ more, e ∙ ap (λ x. x ++ more) is ∙ append_assoc (printing opens.0) rest more)

pub found_parted : (script output front text more : List ℕ) (outcome : Outcome) (number : ℕ) (passes agrees : Bool) → text ≡ front ++ more → HasParted script output front number passes → IsPrinting script text outcome → Tests agrees (text ≡ output) → IsSaid script output text outcome (finding_of (not passes) agrees number)
found_parted script output front text more outcome number false agrees grown none is same = none_found script output text outcome is none
found_parted script output front text more outcome number true true grown opens is same = same_found script output text outcome is (same.0 refl)
found_parted script output front text more outcome number true false grown opens is same =
    (open_longer script output front text more number grown opens, is, ((λ e. absurd (let f : Undecided number ≡ Accepted = e in cc)), (λ e. absurd (false_true (same.1 e)))))

-- how it was followed
pub followed_ended : (script output : List ℕ) (w : WalkValue) (at : ℕ) (text : List ℕ) (passes : Bool) (ended : Option Outcome) (number : ℕ) (outcome : Outcome) → ended ≡ Some outcome → IsFollowed script output w at text passes ended number → HasEnded script output outcome text passes
followed_ended script output w at text passes ended number outcome e f = subst (λ ended. IsFollowed script output w at text passes ended number) e f

pub followed_on : (script output : List ℕ) (w : WalkValue) (at : ℕ) (text : List ℕ) (passes : Bool) (ended : Option Outcome) (number : ℕ) → ended ≡ None → IsFollowed script output w at text passes ended number → HasParted script output text number passes × HasReached script text w (drop at script) × (at ≤ length script) × (w.number ≤ at + 2)
followed_on script output w at text passes ended number e f = subst (λ ended. IsFollowed script output w at text passes ended number) e f

-- Where a run has printed what an output begins with, and prints the rest of it from there on, it prints the output.
pub printed_along : (script output text rest : List ℕ) (w : WalkValue) (at : ℕ) (passes : Bool) (ended found : Option Outcome) (number : ℕ) (outcome : Outcome) → ended ≡ None → IsFollowed script output w at text passes ended number → output ≡ text ++ rest → (HasReached script (take (length text) output) w (drop at script) → IfSome found (IsPrinting script output)) → found ≡ Some outcome → IsPrinting script output outcome
printed_along script output text rest w at passes ended found number outcome e f front along is =
    let on = followed_on script output w at text passes ended number e f in
    subst (λ found. IfSome found (IsPrinting script output)) is
    (along (subst (λ t. HasReached script t w (drop at script)) (sym (ap (take (length text)) front ∙ take-append_seam text rest)) on.1))
