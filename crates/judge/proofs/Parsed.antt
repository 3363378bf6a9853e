-- A line that is parsed before it is executed.
use Rattle.std.proofs.Common.{◌≡◌, ℕ, ◌<◌, ◌++◌, List, [], ◌∷◌, length, arith, Bool, true, false, Option, Some, None, Result, Ok, Err, refl, ap, ◌∙◌, subst}
use Rattle.std.specs.Prelude.{IfOk, MatchOption, MatchResult}
use Rattle.mvs_model.specs.declared.error.OutOfMemory.{OutOfMemory}
use Rattle.mvs_model.specs.declared.line.Line.{Line}
use Rattle.mvs_model.specs.Lines.{lines_of}
use Rattle.mvs_job.specs.LineEvents.{WalkValue}
use Rattle.judge.specs.declared.deciding.DecidedLines.{DecidedLines}
use Rattle.judge.specs.Judging.{IsOpen}
use Rattle.judge.specs.Deciding.{IsFoundFirst, IsSameJob}

-- What is found does not depend on what was parsed last.
pub found_read : (script left : List ℕ) (w : WalkValue) (r : Line) (taken : ℕ) (text : List ℕ) (continues passes open_here : Bool) (new : WalkValue) → IsFoundFirst script left (record w { read = r }) taken text continues passes open_here new → IsFoundFirst script left w taken text continues passes open_here new
found_read script left w r taken text continues passes true new d = d
found_read script left w r taken text true true false new d = d
found_read script left w r taken text true false false new d = d
found_read script left w r taken text false true false new d = d
found_read script left w r taken text false false false new d = d

-- the same, where the job has parsed a line
pub found_before : (script left : List ℕ) (w mid : WalkValue) (taken : ℕ) (text : List ℕ) (continues passes open_here : Bool) (new : WalkValue) → mid ≡ record w { read = mid.read } → IsFoundFirst script left mid taken text continues passes open_here new → IsFoundFirst script left w taken text continues passes open_here new
found_before script left w mid taken text continues passes open_here new rest d = found_read script left w mid.read taken text continues passes open_here new (subst (λ v. IsFoundFirst script left v taken text continues passes open_here new) rest d)

pub same_before : (w mid new : WalkValue) → mid ≡ record w { read = mid.read } → new ≡ mid → IsSameJob w new
same_before w mid new rest same = let e : new ≡ record w { read = mid.read } = same ∙ rest in (ap (λ v. v.number) e, ap (λ v. v.step) e)

-- and of a list
pub list_before : (script left : List ℕ) (lines : List (List ℕ)) (w mid new : WalkValue) (r : Result (Option DecidedLines) OutOfMemory) → mid ≡ record w { read = mid.read }
    → IfOk r (λ o. MatchOption o ((new ≡ mid) × IsOpen mid.number mid.step lines left) (λ d. IsFoundFirst script left mid d.taken d.served.text.items d.served.continues d.served.passes d.is_open new))
    → IfOk r (λ o. MatchOption o (IsSameJob w new × IsOpen w.number w.step lines left) (λ d. IsFoundFirst script left w d.taken d.served.text.items d.served.continues d.served.passes d.is_open new))
list_before script left lines w mid new (Err e) rest x = tt
list_before script left lines w mid new (Ok None) rest x = (same_before w mid new rest x.0, subst (λ v. IsOpen v.number v.step lines left) rest x.1)
list_before script left lines w mid new (Ok (Some d)) rest x = found_before script left w mid d.taken d.served.text.items d.served.continues d.served.passes d.is_open new rest x

-- what holds of a call that returned a value
pub ok_is : {T E : Type 0} (r : Result T E) (x : T) (P : T → Type 0) (Q : E → Type 0) → r ≡ Ok x → MatchResult r P Q → P x
ok_is r x P Q e m = subst (λ r. MatchResult r P Q) e m

-- a text with a line has some bytes
pub some_line : (text l : List ℕ) (lines : List (List ℕ)) → lines_of text ≡ l ∷ lines → 0 < length text
some_line [] l lines e = absurd (let f : [] ≡ l ∷ lines = e in cc)
some_line (b ∷ text) l lines e = omega arith
