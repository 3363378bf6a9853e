-- The script that is run of a text, a line at a time.
use Rattle.std.proofs.Common.{◌≡◌, ℕ, ◌+◌, ◌<◌, ◌≤◌, ◌&&◌, Bool, if◌then◌else◌, List, [], ◌∷◌, ◌++◌, append_assoc, Option, Some, None, length, arith, refl, sym, ap, ◌∙◌}
use Rattle.std.specs.Prelude.{is_some}
use Rattle.std.specs.List.{after_first, position_or_len}
use Rattle.std.proofs.lemmas.List.{length-drop}
use Rattle.mvs_model.specs.declared.line.Fault.{Fault}
use Rattle.mvs_model.specs.declared.line.Line.{Line}
use Rattle.mvs_model.specs.Lines.{ended_text, lines_of}
use Rattle.mvs_model.specs.Reading.{FaultOf, LineOf, line_meaning}
use Rattle.language_server.specs.declared.runnable.FaultAt.{FaultAt}
use Rattle.language_server.specs.Runnable.{emptied, faults_from, is_first_after, executed_text, line_fault, onto_faults, is_blank}

-- a line without a fault
pub no_fault : (first : Bool) (bytes : List ℕ) (l : Line) → LineOf first bytes l → None ≡ line_fault first bytes
unfolding line_fault
no_fault first bytes l is = sym is.no_fault

pub stays : (first : Bool) (bytes : List ℕ) (l : Line) → LineOf first bytes l → (first && is_blank (Some l)) ≡ is_first_after first bytes
unfolding line_fault is_first_after
stays first bytes l is = sym (ap (λ o. if is_some o then first else first && is_blank (line_meaning bytes)) is.no_fault ∙ ap (λ m. first && is_blank m) is.says)

-- a line with a fault
pub a_fault : (first : Bool) (bytes : List ℕ) (fault : Fault) → FaultOf first bytes fault → Some fault ≡ line_fault first bytes
unfolding line_fault
a_fault first bytes fault is = sym is

pub fault_stays : (first : Bool) (bytes : List ℕ) (fault : Fault) → FaultOf first bytes fault → first ≡ is_first_after first bytes
unfolding line_fault is_first_after
fault_stays first bytes fault is = sym (ap (λ o. if is_some o then first else first && is_blank (line_meaning bytes)) is)

-- what is after the first byte of a kind is shorter
pub after_short : (p : ℕ → Bool) (text : List ℕ) → 0 < length text → length (after_first p text) + 1 ≤ length text
after_short p text some = let d = length-drop (position_or_len p text + 1) text in omega (arith, d, some)

-- a line is read and added
module _ (line text next : List ℕ) (first first' : Bool) (fault : Option Fault) (cut : lines_of text ≡ line ∷ lines_of next) (is : fault ≡ line_fault first line) (more : first' ≡ is_first_after first line) where
  emptied_here : executed_text fault line ∷ emptied first' (lines_of next) ≡ emptied first (lines_of text)
  emptied_here = ap (λ f. executed_text f line ∷ emptied first' (lines_of next)) is ∙ ap (λ b. executed_text (line_fault first line) line ∷ emptied b (lines_of next)) more ∙ ap (emptied first) (sym cut)

  pub run_step : (run run' : List ℕ) → run' ≡ run ++ executed_text fault line ++ 10 ∷ [] → run' ++ ended_text (emptied first' (lines_of next)) ≡ run ++ ended_text (emptied first (lines_of text))
  run_step run run' new =
      let left : List ℕ = ended_text (emptied first' (lines_of next)) in
      ap (λ r. r ++ left) new ∙ append_assoc (run ++ executed_text fault line) (10 ∷ []) left ∙ append_assoc run (executed_text fault line) (10 ∷ left)
      ∙ ap (λ ls. run ++ ended_text ls) emptied_here

  onto_more : (n : ℕ) (o : Option Fault) (found : List FaultAt) → onto_faults n o [] ++ found ≡ onto_faults n o found
  onto_more n None found = refl
  onto_more n (Some f) found = refl

  faults_here : (n : ℕ) → onto_faults n fault (faults_from (n + 1) first' (lines_of next)) ≡ faults_from n first (lines_of text)
  faults_here n =
      ap (λ f. onto_faults n f (faults_from (n + 1) first' (lines_of next))) is ∙ ap (λ b. onto_faults n (line_fault first line) (faults_from (n + 1) b (lines_of next))) more
      ∙ ap (faults_from n first) (sym cut)

  pub faults_step : (n : ℕ) (found found' : List FaultAt) → found' ≡ found ++ onto_faults n fault [] → found' ++ faults_from (n + 1) first' (lines_of next) ≡ found ++ faults_from n first (lines_of text)
  faults_step n found found' new =
      let left : List FaultAt = faults_from (n + 1) first' (lines_of next) in
      ap (λ r. r ++ left) new ∙ append_assoc found (onto_faults n fault []) left ∙ ap (λ l. found ++ l) (onto_more n fault left ∙ faults_here n)
