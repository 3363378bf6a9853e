-- A line that is read contains only what the table allows.
use Rattle.std.proofs.Common.{◌≡◌, refl, true, false, Bool, ℕ, List, [], ◌∷◌, ◌++◌, map, sym, ap, subst, ◌∙◌, Option, Some, None, find, flat_map, bytes_eq, if◌then◌else◌, option_map, eqb-true, slice_get, length, ◌==◌, arith}
use Rattle.std.proofs.lemmas.Bool.{and_parts}
use Rattle.std.proofs.lemmas.Bool.Decides.{nat_tests}
use Rattle.mvs_model.proofs.Types.{Fault}
use Rattle.mvs_model.specs.Grammar.{Row}
use Rattle.mvs_model.specs.Reading.{first_of, operand_checks, with_left, kind_of, if_kind, is_of, is_within, text_of, has_key, key_of, is_for, value_of}
use Rattle.std.specs.List.{list_any}
use Rattle.mvs_model.specs.ReadingLaws.{Taken, IsTaken, keyed}
use Rattle.mvs_model.proofs.Reading.{none_later, first_fails, none_beyond}
use Rattle.mvs_model.proofs.Tests.{false_true, none_some}
pub use Rattle.std.proofs.lemmas.Bool.{and_parts as and_true, eqb-true as nat_same}

pub none_in_front : (front trailing : List (Fault × Bool)) → first_of (front ++ trailing) ≡ None → first_of front ≡ None
none_in_front [] trailing e = refl
none_in_front (check ∷ front) trailing e =
    (elim check.1 as (λ b. (if b then Some check.0 else first_of (front ++ trailing)) ≡ None → (if b then Some check.0 else first_of front) ≡ None) [
      | true ↦ λ e. e
      | false ↦ λ e. none_in_front front trailing e
    ]) e

-- an operand that no check is against is taken
taken_by : (row : Row) (left : List (List ℕ)) (operand : List ℕ) → first_of (operand_checks row (left, operand)) ≡ None → Taken row left operand
taken_by row left operand h1 = grind (arith, nat_tests, first_fails, none_later)

-- the operands with more on their left
abbrev pub Placed : Type 0
Placed = List (List ℕ) × List ℕ

abbrev pub under : (List (List ℕ) → List (List ℕ)) → List Placed → List Placed
under put ps = map (λ p. (put p.0, p.1)) ps

pub twice_under : (x : List ℕ) (put : List (List ℕ) → List (List ℕ)) (ps : List Placed) → under put (under (λ left. x ∷ left) ps) ≡ under (λ left. put (x ∷ left)) ps
twice_under x put [] = refl
twice_under x put (p ∷ ps) = λ i. (put (x ∷ p.0), p.1) ∷ twice_under x put ps i

-- the operand that is found is taken
all_taken : (row : Row) (put : List (List ℕ) → List (List ℕ)) (os : List (List ℕ)) → first_of (flat_map (operand_checks row) (under put (with_left os))) ≡ None
    → (o : List ℕ) (test : List ℕ → Bool) → find test os ≡ Some o → (left : List (List ℕ)) × Taken row left o × (test o ≡ true)
all_taken row put [] e o test f = none_some f
all_taken row put (x ∷ os) e o test f =
    let trailing : List (Fault × Bool) = flat_map (operand_checks row) (under put (under (λ left. x ∷ left) (with_left os))) in
    let here : first_of (operand_checks row (put [], x)) ≡ None = none_in_front (operand_checks row (put [], x)) trailing e in
    let later : first_of trailing ≡ None = none_beyond (operand_checks row (put [], x)) trailing e in
    (elim (test x) as (λ b. test x ≡ b → (if b then Some x else find test os) ≡ Some o → (left : List (List ℕ)) × Taken row left o × (test o ≡ true)) [
      | true ↦ λ t f.
          let same : x ≡ o = (let g : Some x ≡ Some o = f in cc) in
          (put [], subst (Taken row (put [])) same (taken_by row (put []) x here), ap test (sym same) ∙ t)
      | false ↦ λ t f. all_taken row (λ left. put (x ∷ left)) os (ap (λ ps. first_of (flat_map (operand_checks row) ps)) (sym (twice_under x put (with_left os))) ∙ later) o test f
    ]) refl f

pub under_nothing : (ps : List Placed) → under (λ left. left) ps ≡ ps
under_nothing [] = refl
under_nothing (p ∷ ps) = λ i. p ∷ under_nothing ps i

pub bytes_same : (xs ys : List ℕ) → bytes_eq xs ys ≡ true → xs ≡ ys
bytes_same [] [] e = refl
bytes_same [] (y ∷ ys) e = false_true e
bytes_same (x ∷ xs) [] e = false_true e
bytes_same (x ∷ xs) (y ∷ ys) e =
    let a = and_parts (x == y) (bytes_eq xs ys) e in
    λ i. eqb-true x y a.0 i ∷ bytes_same xs ys a.1 i

-- the kind of an operand with a key
kind_is : (row : Row) (left : List (List ℕ)) (o : List ℕ) → has_key o ≡ true → kind_of row left o ≡ keyed row (key_of o)
kind_is row left o h = ap (λ b. if b then keyed row (key_of o) else (if list_any has_key left then None else option_map (λ p. p.kind) (slice_get row.positional (length left)))) h

-- what stands under a key is of its kind and in its range
pub under_key : (row : Row) (os : List (List ℕ)) → first_of (flat_map (operand_checks row) (with_left os)) ≡ None → (key text : List ℕ) → value_of key os ≡ Some text → IsTaken row key text
under_key row os e key text v = at (find (is_for key) os) refl v where
  at : (o : Option (List ℕ)) → find (is_for key) os ≡ o → option_map text_of o ≡ Some text → IsTaken row key text
  at None f v = none_some v
  at (Some o) f v =
      let t = all_taken row (λ left. left) os (ap (λ ps. first_of (flat_map (operand_checks row) ps)) (under_nothing (with_left os)) ∙ e) o (is_for key) f in
      let a = and_parts (has_key o) (bytes_eq (key_of o) key) t.2 in
      let same : key_of o ≡ key = bytes_same (key_of o) key a.1 in
      let kind : kind_of row t.0 o ≡ keyed row key = kind_is row t.0 o a.0 ∙ ap (keyed row) same in
      let said : text_of o ≡ text = (let g : Some (text_of o) ≡ Some text = v in cc) in
      record {
        of_kind = ap (λ k. if_kind (λ kind. is_of kind text) k) (sym kind) ∙ ap (λ x. if_kind (λ kind. is_of kind x) (kind_of row t.0 o)) (sym said) ∙ t.1.of_kind;
        within = ap (λ k. if_kind (λ kind. is_within kind text) k) (sym kind) ∙ ap (λ x. if_kind (λ kind. is_within kind x) (kind_of row t.0 o)) (sym said) ∙ t.1.within;
      }
