-- The first fault of a script, a line at a time.
use Rattle.std.proofs.Common.{◌≡◌, ℕ, ◌+◌, ◌≤◌, ◌&&◌, Bool, true, false, not, if◌then◌else◌, List, [], ◌∷◌, ◌++◌, length, take, drop, append_assoc, Option, Some, None, inl, inr, refl, sym, ap, ◌∙◌, arith, length-append}
use Rattle.std.proofs.lemmas.Bool.Decides.{nat_tests}
use Rattle.std.proofs.lemmas.List.{drop-drop, drop_all}
use Rattle.mvs_model.specs.declared.line.Fault.{Fault}
use Rattle.mvs_model.specs.declared.line.Fault.TheVariants.{OutOfPlace}
use Rattle.mvs_model.specs.declared.line.Line.{Line}
use Rattle.mvs_model.specs.declared.line.Line.TheVariants as line
use Rattle.mvs_model.specs.declared.line.Statement.{Statement}
use Rattle.mvs_model.specs.declared.name.Name.{Name}
use Rattle.mvs_model.specs.declared.outcome.Outcome.TheVariants.{ScriptFault}
use Rattle.mvs_model.specs.Answers.{Event, Faulted}
use Rattle.mvs_model.specs.Grammar.{Row}
use Rattle.mvs_laws.specs.Laws.{EndsIn, fault_at, first_fault}
use Rattle.mvs_model.specs.Lines.{lines_of}
use Rattle.mvs_model.specs.Reading.{◌>>=◌, FaultOf, LineOf, checks, first_of, form_in, line_meaning, operands_of, operation_in, row_of, is_blank_or_comment, task_in}
use Rattle.mvs_model.proofs.Reading.{said_with}
use Rattle.mvsjob.specs.FaultyLine.{EndsAt, IsFirstFault, IsLineOf}

-- ---- what a line says

abbrev is_statement : Line → Bool
is_statement line.Nothing = false
is_statement (line.Statement t s) = true

bound_says : (t : Name) (o : Option Statement) (l : Line) → (o >>= λ s. Some (line.Statement t s)) ≡ Some l → is_statement l ≡ true
bound_says t o l h1 = grind (arith, nat_tests)

with_says : (task form : List ℕ) (operands : List (List ℕ)) (o : Option Row) (l : Line) → said_with task form operands o ≡ Some l → is_statement l ≡ true
with_says task form operands o l h1 = grind (arith, nat_tests, bound_says)

kind_said : (bytes : List ℕ) (l : Line) → line_meaning bytes ≡ Some l → is_blank_or_comment bytes ≡ not (is_statement l)
kind_said bytes l e = at (is_blank_or_comment bytes) e where
  at : (b : Bool) → (if b then Some line.Nothing else said_with (task_in bytes) (form_in (operation_in bytes) (operands_of bytes)) (operands_of bytes) (row_of (operation_in bytes) (operands_of bytes))) ≡ Some l → b ≡ not (is_statement l)
  at true f = ap (λ k. not (is_statement k)) (let g : line.Nothing ≡ l = cc in g)
  at false f = ap not (sym (with_says (task_in bytes) (form_in (operation_in bytes) (operands_of bytes)) (operands_of bytes) (row_of (operation_in bytes) (operands_of bytes)) l f))

pub nothing_said : (first : Bool) (bytes : List ℕ) (l : Line) → l ≡ line.Nothing → LineOf first bytes l → true ≡ is_blank_or_comment bytes
nothing_said first bytes l e is = sym (kind_said bytes l is.says ∙ ap (λ l. not (is_statement l)) e)

some_same : (p q : ℕ × Fault) → Some p ≡ Some q → p ≡ q
some_same p q e = cc

abbrev number_in : ℕ × Fault → ℕ
number_in p = p.0

abbrev fault_in : ℕ × Fault → Fault
fault_in p = p.1

some_pair : (a n : ℕ) (x f : Fault) → ◌≡◌ {A = Option (ℕ × Fault)} (Some (a, x)) (Some (n, f)) → (a ≡ n) × (x ≡ f)
some_pair a n x f g =
    let e : ◌≡◌ {A = ℕ × Fault} (a, x) (n, f) = some_same (a, x) (n, f) g in
    (ap number_in e, ap fault_in e)

-- ---- the lines so far

-- So many lines before an index have no fault, and no statement stands before the next one, or one does.
pub record Passed (text : List ℕ) (number : ℕ) (first : Bool) (at passed : ℕ) (is_first : Bool) : Type 0 where
  pub before : List (List ℕ)
  pub lines : lines_of text ≡ before ++ lines_of (drop at text)
  pub counted : passed ≡ length before
  pub few : passed ≤ at
  pub same : first_fault number first (lines_of text) ≡ first_fault (number + passed) is_first (lines_of (drop at text))

module _ (text rest : List ℕ) (number : ℕ) (first : Bool) (at passed end : ℕ) (is_first : Bool) (p : Passed text number first at passed is_first) (is : rest ≡ drop at text) (cut : lines_of rest ≡ take end rest ∷ lines_of (drop (end + 1) rest)) where
  here : lines_of (drop at text) ≡ take end rest ∷ lines_of (drop (end + 1) rest)
  here = ap lines_of (sym is) ∙ cut

  trailing : drop (end + 1) rest ≡ drop (at + (end + 1)) text
  trailing = ap (drop (end + 1)) is ∙ drop-drop (end + 1) at text

  further : (o : Option Fault) → first_of (checks is_first (take end rest)) ≡ o → first_fault number first (lines_of text) ≡ fault_at (number + passed) o (first_fault (number + passed + 1) (is_first && is_blank_or_comment (take end rest)) (lines_of (drop (end + 1) rest)))
  further o e = p.same ∙ ap (first_fault (number + passed) is_first) here ∙ ap (λ o. fault_at (number + passed) o (first_fault (number + passed + 1) (is_first && is_blank_or_comment (take end rest)) (lines_of (drop (end + 1) rest)))) e

  pub passed_next : (l : Line) (nothing : Bool) → LineOf is_first (take end rest) l → nothing ≡ is_blank_or_comment (take end rest) → Passed text number first (at + (end + 1)) (passed + 1) (is_first && nothing)
  passed_next l nothing said e = record {
    before = p.before ++ take end rest ∷ [];
    lines = p.lines ∙ ap (λ ls. p.before ++ ls) here ∙ sym (append_assoc p.before (take end rest ∷ []) (lines_of (drop (end + 1) rest))) ∙ ap (λ t. (p.before ++ take end rest ∷ []) ++ lines_of t) trailing;
    counted = let f = length-append p.before (take end rest ∷ []) in omega (arith, f, p.counted);
    few = omega (arith, p.few);
    same =
        let n : number + passed + 1 ≡ number + (passed + 1) = omega arith in
        further None said.no_fault ∙ ap (λ n. first_fault n (is_first && is_blank_or_comment (take end rest)) (lines_of (drop (end + 1) rest))) n ∙ ap (λ b. first_fault (number + (passed + 1)) (is_first && b) (lines_of (drop (end + 1) rest))) (sym e)
        ∙ ap (λ t. first_fault (number + (passed + 1)) (is_first && nothing) (lines_of t)) trailing;
  }

  pub fault_here : (printed : ℕ) (fault : Fault) → printed ≡ number + passed → FaultOf is_first (take end rest) fault → IsFirstFault number first (lines_of text) printed fault
  fault_here printed fault e is n f h =
      let g = some_pair (number + passed) n fault f (sym (further (Some fault) is) ∙ h) in
      (e ∙ g.0, g.1)

  pub line_here : (printed : ℕ) → printed ≡ number + passed → IsLineOf number (lines_of text) printed (take end rest)
  line_here printed e = record { before = p.before; rest = lines_of (drop at text); parts = p.lines; counted = e ∙ ap (λ n. number + n) p.counted; here = inl (lines_of (drop (end + 1) rest), here) }

module _ (text : List ℕ) (number : ℕ) (first : Bool) (at passed printed : ℕ) (is_first : Bool) (p : Passed text number first at passed is_first) (all : length text ≤ at) (e : printed ≡ number + passed) where
  none : lines_of (drop at text) ≡ []
  none = ap lines_of (drop_all at text all)

  lacks : (b : Bool) → (n : ℕ) (f : Fault) → if◌then◌else◌ {A = Option (ℕ × Fault)} b (Some (number + passed, OutOfPlace)) None ≡ Some (n, f) → (printed ≡ n) × (OutOfPlace ≡ f)
  lacks true n f h = let g = some_pair (number + passed) n OutOfPlace f h in (e ∙ g.0, g.1)
  lacks false n f h = absurd (let g : None ≡ Some (n, f) = h in cc)

  pub fault_at_end : IsFirstFault number first (lines_of text) printed OutOfPlace
  fault_at_end n f h = lacks is_first n f (sym (p.same ∙ ap (first_fault (number + passed) is_first) none) ∙ h)

  pub line_at_end : IsLineOf number (lines_of text) printed []
  line_at_end = record { before = p.before; rest = lines_of (drop at text); parts = p.lines; counted = e ∙ ap (λ n. number + n) p.counted; here = inr (none, refl) }

-- ---- a run

pub ended_so : (o : Option (ℕ × Fault)) (events : List Event) (number : ℕ) (fault : Fault) → ((n : ℕ) (f : Fault) → o ≡ Some (n, f) → (number ≡ n) × (fault ≡ f)) → EndsIn o events ScriptFault → EndsAt number fault events
ended_so None events number fault is h = absurd (h refl)
ended_so (Some (n, f)) events number fault is h =
    let e = is n f refl in
    (h.1.0, h.1.1 ∙ ap (λ n. h.1.0 ++ Faulted n f ∷ []) (sym e.0) ∙ ap (λ f. h.1.0 ++ Faulted number f ∷ []) (sym e.1))
