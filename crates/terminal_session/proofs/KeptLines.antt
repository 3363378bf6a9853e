-- A line that is kept.
use Rattle.std.proofs.Common.{◌≡◌, ◌≢◌, ◌≤◌, ◌&&◌, ℕ, Bool, true, false, not, List, [], ◌∷◌, ◌++◌, length, is_some, refl, sym, ap, ◌∙◌, ltb-false}
use Rattle.std.proofs.lemmas.Bool.{and_parts, not-false}
use Rattle.std.specs.Prelude.{nat_le, nat_lt, if◌then◌else◌}
use Rattle.std.specs.List.{AllByRecursion, list_all}
use Rattle.mvs_model.specs.declared.line.Fault.{Fault}
use Rattle.mvs_model.specs.declared.line.Fault.TheVariants.{InvalidByte, TooLong}
use Rattle.mvs_model.specs.declared.line.Line.{Line}
use Rattle.mvs_model.specs.Lines.{IsUnended}
use Rattle.mvs_model.specs.Reading.{FaultOf, LineOf, ◌when◌, first_of, is_blank_or_comment, operands_of, operation_in, statement_checks, task_in}
use Rattle.mvs_model.proofs.Reading.{none_first}
use Rattle.shell.proofs.Lines.{each_last}
use Rattle.shell.specs.Scripts.{are_blank}
use Rattle.terminal_session.specs.Sessions.{is_faulty, with_line}

abbrev plain : ℕ → Bool
plain b = nat_le 32 b && nat_le b 126

not_end : (b : ℕ) → plain b ≡ true → b ≢ 10
not_end b p e = absurd (let f : plain 10 ≡ true = ap plain (sym e) ∙ p in cc)

plain_unended : (line : List ℕ) → list_all plain line ≡ true → IsUnended line
plain_unended [] h = tt
plain_unended (b ∷ line) h = let p = and_parts (plain b) (list_all plain line) h in (not_end b p.0, plain_unended line p.1)

abbrev further : Bool → List ℕ → List (Fault × Bool)
further first line = if is_blank_or_comment line then [] else statement_checks first (task_in line) (operation_in line) (operands_of line)

-- a line without a fault is short and has no end
pub accepted_line : (first : Bool) (line : List ℕ) (l : Line) → LineOf first line l → (length line ≤ 255) × IsUnended line
accepted_line first line l is =
    let all = none_first (TooLong when nat_lt 255 (length line)) (InvalidByte when not (list_all plain line) ∷ further first line) is.no_fault in
    let bytes = none_first (InvalidByte when not (list_all plain line)) (further first line) all.1 in
    (ltb-false 255 (length line) all.0, plain_unended line (not-false (list_all plain line) bytes.0))

pub not_faulty : (first : Bool) (line : List ℕ) (l : Line) → LineOf first line l → is_faulty first line ≡ false
unfolding is_faulty
not_faulty first line l is = ap is_some is.no_fault

pub is_faulty_so : (first : Bool) (line : List ℕ) (fault : Fault) → FaultOf first line fault → is_faulty first line ≡ true
unfolding is_faulty
is_faulty_so first line fault is = ap is_some is

module _ (lines : List (List ℕ)) (line : List ℕ) where
  pub line_kept : (l : Line) → LineOf (are_blank lines) line l → with_line lines line ≡ lines ++ line ∷ []
  line_kept l is = ap (λ f. if f then lines else lines ++ line ∷ []) (not_faulty (are_blank lines) line l is)

  pub line_skipped : (fault : Fault) → FaultOf (are_blank lines) line fault → with_line lines line ≡ lines
  line_skipped fault is = ap (λ f. if f then lines else lines ++ line ∷ []) (is_faulty_so (are_blank lines) line fault is)

  pub each_kept : (l : Line) → LineOf (are_blank lines) line l → AllByRecursion IsUnended lines → AllByRecursion IsUnended (lines ++ line ∷ [])
  each_kept l is each = each_last lines line each (accepted_line (are_blank lines) line l is).1
