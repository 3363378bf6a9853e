-- No name of a task that a line says has a line feed.
use Rattle.std.proofs.Common.{◌≡◌, ◌≢◌, ℕ, zero, suc, ◌+◌, ◌-◌, ◌==◌, ◌&&◌, nat_le, List, [], ◌∷◌, ◌++◌, take, drop, length, replicate, find, option_map, slice_get, arith, Bool, true, false, not, cond, Option, Some, None, refl, subst}
use Rattle.std.specs.List.{AllByRecursion, list_all, onto_first, slice_split, after_first, position_or_len}
use Rattle.std.proofs.lemmas.Bool.{and_parts, not-false}
use Rattle.std.proofs.lemmas.Bool.Decides.{nat_tests}
use Rattle.mvs_model.specs.declared.line.Line.{Line}
use Rattle.mvs_model.specs.declared.line.Statement.{Statement}
use Rattle.mvs_model.specs.declared.line.SourceRequest.{SourceRequest}
use Rattle.mvs_model.specs.declared.line.Line.TheVariants as line
use Rattle.mvs_model.specs.declared.line.Statement.TheVariants as says
use Rattle.mvs_model.specs.declared.line.SourceRequest.TheVariants as written
use Rattle.mvs_model.specs.Grammar.{Meaning, Row}
use Rattle.mvs_model.specs.Lines.{IsUnended}
use Rattle.mvs_model.specs.Name.{padded}
use Rattle.mvs_model.specs.Reading.{LineOf, ByKey, by_key, operands_after_form, checks, form_in, has_key, is_empty, is_equals, is_for, line_meaning, operands_in, operands_of, operation_in, parts_within, row_of, is_blank_or_comment, statement_of, task_in, text_of, words, ◌>>=◌}
use Rattle.mvs_model.proofs.Reading.{first_fails, found_has, none_later, passing_have}
use Rattle.mvs_model.proofs.Tests.{none_some}

-- ---- texts without a line feed

pub unended_both : (xs ys : List ℕ) → IsUnended xs → IsUnended ys → IsUnended (xs ++ ys)
unended_both [] ys h k = k
unended_both (x ∷ xs) ys h k = (h.0, unended_both xs ys h.1 k)

pub unended_front : (n : ℕ) (xs : List ℕ) → IsUnended xs → IsUnended (take n xs)
unended_front zero xs h = tt
unended_front (suc n) [] h = tt
unended_front (suc n) (x ∷ xs) h = (h.0, unended_front n xs h.1)

unended_rest : (n : ℕ) (xs : List ℕ) → IsUnended xs → IsUnended (drop n xs)
unended_rest zero xs h = h
unended_rest (suc n) [] h = h
unended_rest (suc n) (x ∷ xs) h = unended_rest n xs h.1

blanks : (n : ℕ) → IsUnended (replicate n 32)
blanks zero = tt
blanks (suc n) = ((let f : 32 ≢ 10 = grind arith in f), blanks n)

unended_padded : (text : List ℕ) → IsUnended text → IsUnended (padded text)
unended_padded text h = unended_both text (replicate (8 - length text) 32) h (blanks (8 - length text))

printable : (xs : List ℕ) → list_all (λ b. nat_le 32 b && nat_le b 126) xs ≡ true → IsUnended xs
printable [] e = tt
printable (x ∷ xs) e =
    let a = and_parts (nat_le 32 x && nat_le x 126) (list_all (λ b. nat_le 32 b && nat_le b 126) xs) e in
    let b = and_parts (nat_le 32 x) (nat_le x 126) a.0 in
    let f : x ≢ 10 = (let g : nat_le 32 x ≡ true = b.0 in grind (arith, nat_tests)) in
    (f, printable xs a.1)

-- ---- the operands of a line

-- None of the texts has one.
abbrev AreUnended : List (List ℕ) → Type 0
AreUnended xs = AllByRecursion IsUnended xs

onto : (x : ℕ) (xs : List (List ℕ)) → x ≢ 10 → AreUnended xs → AreUnended (onto_first x xs)
onto x [] h k = ((h, tt), tt)
onto x (y ∷ ys) h k = ((h, k.0), k.1)

split : (p : ℕ → Bool) (xs : List ℕ) → IsUnended xs → AreUnended (slice_split p xs)
split p [] h = (tt, tt)
split p (x ∷ xs) h = at (p x) (split p xs h.1) where
  at : (b : Bool) → AreUnended (slice_split p xs) → AreUnended (cond b ([] ∷ slice_split p xs) (onto_first x (slice_split p xs)))
  at true rest = (tt, rest)
  at false rest = onto x (slice_split p xs) h.0 rest

parts : (opened : ℕ) (xs : List ℕ) → IsUnended xs → AreUnended (parts_within opened xs)
parts opened [] h = (tt, tt)
parts opened (x ∷ xs) h = at ((x == 44) && (opened == 0)) (λ k. parts k xs h.1) where
  at : (b : Bool) → ((k : ℕ) → AreUnended (parts_within k xs)) → AreUnended (cond b ([] ∷ parts_within 0 xs) (onto_first x (parts_within (cond (x == 40) (opened + 1) (cond (x == 41) (opened - 1) opened)) xs)))
  at true rest = (tt, rest 0)
  at false rest = onto x _ h.0 (rest _)

at_place : (xs : List (List ℕ)) (k : ℕ) (x : List ℕ) → AreUnended xs → slice_get xs k ≡ Some x → IsUnended x
at_place [] k x h e = none_some e
at_place (y ∷ ys) zero x h e = subst IsUnended (let g : Some y ≡ Some x = e in cc) h.0
at_place (y ∷ ys) (suc k) x h e = at_place ys k x h.1 e

operands_unended : (bytes : List ℕ) → IsUnended bytes → AreUnended (operands_of bytes)
operands_unended bytes h = either _ where
  of_words : AreUnended (words bytes)
  of_words = passing_have IsUnended (λ word. not (is_empty word)) _ (split (λ b. b == 32) bytes h)

  field : (o : Option (List ℕ)) → slice_get (words bytes) 2 ≡ o → AreUnended (operands_in o)
  field None e = tt
  field (Some text) e = parts 0 text (at_place (words bytes) 2 text of_words e)

  either : (b : Bool) → AreUnended (cond b (operands_in (slice_get (words bytes) 2)) [])
  either true = field (slice_get (words bytes) 2) refl
  either false = tt

trailing : (row : Row) (os : List (List ℕ)) → AreUnended os → AreUnended (operands_after_form row os)
trailing row os h = at (is_empty row.forms) os h where
  at : (b : Bool) (os : List (List ℕ)) → AreUnended os → AreUnended (cond b os (drop 1 os))
  at true os h = h
  at false [] h = tt
  at false (o ∷ os) h = h.1

said_by : (o : List ℕ) → IsUnended o → IsUnended (text_of o)
said_by o h = at (has_key o) where
  at : (b : Bool) → IsUnended (cond b (after_first is_equals o) o)
  at true = unended_rest (position_or_len is_equals o + 1) o h
  at false = h

-- what stands under a key
abbrev UnderUnended : ByKey → Type 0
UnderUnended os = (key text : List ℕ) → os.under key ≡ Some text → IsUnended text

under_unended : (os : List (List ℕ)) → AreUnended os → UnderUnended (by_key os)
under_unended os h key text e = at (find (is_for key) os) refl e where
  at : (o : Option (List ℕ)) → find (is_for key) os ≡ o → option_map text_of o ≡ Some text → IsUnended text
  at None f e = none_some e
  at (Some o) f e = subst IsUnended (let g : Some (text_of o) ≡ Some text = e in cc) (said_by o (found_has IsUnended (is_for key) os o h f))

-- ---- the names

-- The name of the subtask has none, where the request is ATTACH.
abbrev pub AttachesUnended : SourceRequest → Type 0
AttachesUnended (written.Attach name gifts residence) = IsUnended name
AttachesUnended _ = Unit {0}

-- The name of the subtask has none, where the statement is a request.
abbrev pub SaysUnended : Statement → Type 0
SaysUnended (says.Request a) = AttachesUnended a
SaysUnended _ = Unit {0}

-- The task of a line has none, and neither has the name of a subtask in it.
abbrev pub NamesUnended : Line → Type 0
NamesUnended line.Nothing = Unit {0}
NamesUnended (line.Statement t s) = IsUnended t × SaysUnended s

statement_unended : (meaning : Meaning) (form : List ℕ) (os : ByKey) (s : Statement) → UnderUnended os → statement_of meaning form os ≡ Some s → SaysUnended s
statement_unended meaning form os s h1 h2 = grind (arith, nat_tests, none_some, unended_padded)

-- ---- the line

-- The bytes of a line that is read are no line feeds.
read_unended : (first : Bool) (bytes : List ℕ) (l : Line) → LineOf first bytes l → IsUnended bytes
read_unended first bytes l is = printable bytes (not-false _ (first_fails (drop 1 (checks first bytes)) (none_later 1 (checks first bytes) is.no_fault)))

line_unended : (bytes : List ℕ) (l : Line) → IsUnended bytes → line_meaning bytes ≡ Some l → NamesUnended l
line_unended bytes l h e = at (is_blank_or_comment bytes) e where
  os : List (List ℕ)
  os = operands_of bytes

  form : List ℕ
  form = form_in (operation_in bytes) os

  with_statement : (row : Row) (o : Option Statement) → statement_of row.meaning form (by_key (operands_after_form row os)) ≡ o → (o >>= λ s. Some (line.Statement (padded (task_in bytes)) s)) ≡ Some l → NamesUnended l
  with_statement row None said e = none_some e
  with_statement row (Some s) said e =
      subst NamesUnended {x = line.Statement (padded (task_in bytes)) s} (let g : Some (line.Statement (padded (task_in bytes)) s) ≡ Some l = e in cc)
      (unended_padded (task_in bytes) (unended_front _ bytes h), statement_unended row.meaning form _ s (under_unended _ (trailing row os (operands_unended bytes h))) said)

  with_row : (o : Option Row) → (o >>= λ row. statement_of row.meaning form (by_key (operands_after_form row os)) >>= λ s. Some (line.Statement (padded (task_in bytes)) s)) ≡ Some l → NamesUnended l
  with_row None e = none_some e
  with_row (Some row) e = with_statement row _ refl e

  at : (b : Bool) → cond b (Some line.Nothing) (row_of (operation_in bytes) os >>= λ row. statement_of row.meaning form (by_key (operands_after_form row os)) >>= λ s. Some (line.Statement (padded (task_in bytes)) s)) ≡ Some l → NamesUnended l
  at true e = subst NamesUnended {x = line.Nothing} (let g : Some line.Nothing ≡ Some l = e in cc) tt
  at false e = with_row (row_of (operation_in bytes) os) e

-- No name of a task that a line says has a line feed.
pub names_unended : (first : Bool) (bytes : List ℕ) (l : Line) → LineOf first bytes l → NamesUnended l
names_unended first bytes l is = line_unended bytes l (read_unended first bytes l is) is.says
