-- Each line is read or has a fault, not both, and says one thing or has one fault.
use Rattle.std.proofs.Common.{◌≡◌, refl, ◌||◌, ◌&&◌, not, true, false, Bool, ℕ, zero, suc, List, [], ◌∷◌, ◌++◌, length, drop, sym, subst, ◌∙◌, Option, Some, None, is_some, bytes_eq, filter, find, slice_get, if◌then◌else◌, codes, arith}
use Rattle.std.specs.List.{list_any, AllByRecursion}
use Rattle.std.proofs.lemmas.Bool.{or_parts, not-false}
use Rattle.std.proofs.lemmas.Bool.Decides.{nat_tests}
use Rattle.mvs_model.proofs.Types.{Line, Fault, Form}
use Rattle.mvs_model.specs.declared.line.Line.TheVariants as line
use Rattle.mvs_model.specs.Name.{padded}
use Rattle.mvs_model.specs.Grammar.{Row, Together, Kind, Number, Name, Obtains, first_needs, table, region, getmain_fixed, getmain_fixed_placed, getmain_variable, getmain_variable_placed, getmain_list, storage_obtain, freemain_or_whole, freemain_place, freemain_area, freemain_list, storage_release, cpool_build, cpool_get, cpool_free, cpool_delete, attach, return_row, abend, put, show, move, where_row, report}
use Rattle.mvs_model.specs.Reading.{LineOf, FaultOf, line_meaning, first_of, checks, ◌>>=◌, ByKey, by_key, positionals, lacks_positional, lacks_keyword, is_half, statement_of, release_of, row_of, operands_after_form, form_in, operation_in, operands_of, is_blank_or_comment, row_checks, statement_checks, task_in, rows_of, form_of}
use Rattle.mvs_model.specs.ReadingLaws.{Reading, Said, Wrong, OneReading}
use Rattle.mvs_model.proofs.Tests.{false_true, none_some, true_false}
pub use Rattle.std.proofs.lemmas.Bool.{or_parts as or_false, not-false as not_false}

-- ---- not both, and only one

not_both : (first : Bool) (bytes : List ℕ) (l : Line) (fault : Fault) → LineOf first bytes l → FaultOf first bytes fault → ⊥
not_both first bytes l fault a b = let e : None ≡ Some fault = sym a.no_fault ∙ b in cc

one_line : (first : Bool) (bytes : List ℕ) (l m : Line) → LineOf first bytes l → LineOf first bytes m → l ≡ m
one_line first bytes l m a b = let e : Some l ≡ Some m = sym a.says ∙ b.says in cc

one_fault : (first : Bool) (bytes : List ℕ) (f g : Fault) → FaultOf first bytes f → FaultOf first bytes g → f ≡ g
one_fault first bytes f g a b = let e : Some f ≡ Some g = sym a ∙ b in cc

-- ---- tests

bind_some : {A B : Type 0} (o : Option A) (f : A → Option B) → is_some o ≡ true → ((x : A) → is_some (f x) ≡ true) → is_some (o >>= f) ≡ true
bind_some o f h1 h2 = grind (arith, nat_tests, false_true)

-- ---- what a key has

-- a keyword that is required is there
there : (key : List ℕ) (os : ByKey) → not (is_some (os.under key)) ≡ false → is_some (os.under key) ≡ true
there key os e = not-false (is_some (os.under key)) e

-- a row's required operands are enough for its statement
abbrev pub IsEnough : Row → Type 0
IsEnough row =
    (form : List ℕ) (list : List (List ℕ)) → lacks_positional row (by_key list) ≡ false → lacks_keyword row (by_key list) ≡ false → list_any (is_half (by_key list)) row.rules ≡ false
    → is_some (statement_of row.meaning form (by_key list)) ≡ true

-- the first element that passes, of those that pass, has what each has
pub found_has : {X : Type 0} (P : X → Type 0) (test : X → Bool) (xs : List X) (x : X) → AllByRecursion P xs → find test xs ≡ Some x → P x
found_has P test [] x all e = none_some e
found_has P test (y ∷ ys) x all e =
    (elim (test y) as (λ b. (if b then Some y else find test ys) ≡ Some x → P x) [
      | true ↦ λ e. subst P (let f : Some y ≡ Some x = e in cc) all.0
      | false ↦ λ e. found_has P test ys x all.1 e
    ]) e

pub passing_have : {X : Type 0} (P : X → Type 0) (test : X → Bool) (xs : List X) → AllByRecursion P xs → AllByRecursion P (filter test xs)
passing_have P test [] all = all
passing_have P test (x ∷ xs) all = grind (arith, nat_tests, passing_have P test xs all.1)

-- ---- the rows

-- two keywords that are required, and what comes after them
two : (one other : List ℕ) (os : ByKey) (b : Bool) → (not (is_some (os.under one)) || (not (is_some (os.under other)) || b)) ≡ false → (is_some (os.under one) ≡ true) × (is_some (os.under other) ≡ true)
two one other os b h1 = grind (arith, nat_tests, there)

one_key : (key : List ℕ) (os : ByKey) (b : Bool) → (not (is_some (os.under key)) || b) ≡ false → is_some (os.under key) ≡ true
one_key key os b e = there key os (or_parts (not (is_some (os.under key))) b e).0

region_enough : IsEnough region
region_enough form list p k r = let os = by_key list in bind_some (os.under (codes "BELOW")) _ (one_key (codes "BELOW") os _ k) (λ x. refl)

getmain_fixed_enough : IsEnough getmain_fixed
getmain_fixed_enough = grind (arith, nat_tests, bind_some, two)

-- the lengths and the name of an area
obtains_enough : (one other form : List ℕ) (os : ByKey) (b : Bool) → (not (is_some (os.under one)) || (not (is_some (os.under other)) || b)) ≡ false → is_some (statement_of (Obtains one other) form os) ≡ true
obtains_enough one other form os b h1 = grind (arith, nat_tests, bind_some, two)

fixed_placed_enough : IsEnough getmain_fixed_placed
fixed_placed_enough form list p k r = let os = by_key list in obtains_enough (codes "LV") (codes "A") form os _ k

variable_enough : IsEnough getmain_variable
variable_enough form list p k r = let os = by_key list in obtains_enough (codes "LV") (codes "A") form os _ k

variable_placed_enough : IsEnough getmain_variable_placed
variable_placed_enough form list p k r = let os = by_key list in obtains_enough (codes "LV") (codes "A") form os _ k

list_enough : IsEnough getmain_list
list_enough = grind (arith, nat_tests, bind_some, two)

obtain_enough : IsEnough storage_obtain
obtain_enough form list p k r = let os = by_key list in obtains_enough (codes "LENGTH") (codes "ADDR") form os _ k

-- both keywords or neither
release_both : (f : Form) (os : ByKey) (x y : Option (List ℕ)) → is_some x ≡ is_some y → is_some (release_of f os x y) ≡ true
release_both f os x y h1 = grind (arith, nat_tests)

same_by : (a b : Bool) → (((a && not b) || (b && not a)) || false) ≡ false → a ≡ b
same_by a b h1 = grind (arith, nat_tests)

together : (one other : List ℕ) (os : ByKey) → list_any (is_half os) (Together one other ∷ []) ≡ false → is_some (os.under one) ≡ is_some (os.under other)
together one other os r = same_by (is_some (os.under one)) (is_some (os.under other)) r

whole_enough : IsEnough freemain_or_whole
whole_enough form list p k r = let os = by_key list in release_both (form_of form os) os (os.under (codes "LV")) (os.under (codes "A")) (together (codes "LV") (codes "A") os r)

place_enough : IsEnough freemain_place
place_enough = grind (arith, nat_tests, two, release_both)

area_enough : IsEnough freemain_area
area_enough form list p k r = let os = by_key list in bind_some (os.under (codes "A")) _ (one_key (codes "A") os _ k) (λ x. refl)

release_list_enough : IsEnough freemain_list
release_list_enough = grind (arith, nat_tests, bind_some, two)

release_enough : IsEnough storage_release
release_enough = grind (arith, nat_tests, release_both, together)

build_enough : IsEnough cpool_build
build_enough = grind (arith, nat_tests, bind_some, there, two)

get_enough : IsEnough cpool_get
get_enough = grind (arith, nat_tests, bind_some, two)

free_enough : IsEnough cpool_free
free_enough = grind (arith, nat_tests, bind_some, two)

delete_enough : IsEnough cpool_delete
delete_enough form list p k r = let os = by_key list in bind_some (os.under (codes "CPID")) _ (one_key (codes "CPID") os _ k) (λ x. refl)

attach_enough : IsEnough attach
attach_enough form list p k r = let os = by_key list in bind_some (os.under (codes "TASK")) _ (one_key (codes "TASK") os _ k) (λ x. refl)

return_enough : IsEnough return_row
return_enough form list p k r = refl

report_enough : IsEnough report
report_enough form list p k r = refl

-- ---- positional operands

-- so many of them are required
one_place : (a : Kind) (xs : List (List ℕ)) → list_any (λ p. p.required) (drop (length xs) (first_needs a ∷ [])) ≡ false → is_some (slice_get xs 0) ≡ true
one_place a [] e = true_false e
one_place a (x ∷ xs) e = refl

two_places : (a b : Kind) (xs : List (List ℕ)) → list_any (λ p. p.required) (drop (length xs) (first_needs a ∷ first_needs b ∷ [])) ≡ false → (is_some (slice_get xs 0) ≡ true) × (is_some (slice_get xs 1) ≡ true)
two_places a b [] e = true_false e
two_places a b (x ∷ []) e = true_false e
two_places a b (x ∷ y ∷ xs) e = (refl, refl)

three_places : (a b c : Kind) (xs : List (List ℕ)) → list_any (λ p. p.required) (drop (length xs) (first_needs a ∷ first_needs b ∷ first_needs c ∷ [])) ≡ false
    → (is_some (slice_get xs 0) ≡ true) × (is_some (slice_get xs 1) ≡ true) × (is_some (slice_get xs 2) ≡ true)
three_places a b c [] e = true_false e
three_places a b c (x ∷ []) e = true_false e
three_places a b c (x ∷ y ∷ []) e = true_false e
three_places a b c (x ∷ y ∷ z ∷ xs) e = (refl, refl, refl)

abend_enough : IsEnough abend
abend_enough form list p k r = bind_some (slice_get (positionals list) 0) _ (one_place (Number 0 4095) (positionals list) p) (λ x. refl)

put_enough : IsEnough put
put_enough = grind (arith, nat_tests, bind_some, two_places)

show_enough : IsEnough show
show_enough = grind (arith, nat_tests, bind_some, two_places)

move_enough : IsEnough move
move_enough = grind (arith, nat_tests, bind_some, three_places)

where_enough : IsEnough where_row
where_enough form list p k r = bind_some (slice_get (positionals list) 0) _ (one_place Name (positionals list) p) (λ x. refl)

-- ---- the line

pub all_enough : AllByRecursion IsEnough table
all_enough =
    (region_enough, (getmain_fixed_enough, (fixed_placed_enough, (variable_enough, (variable_placed_enough, (list_enough, (obtain_enough, (whole_enough, (place_enough, (area_enough, (release_list_enough, (release_enough, (build_enough, (get_enough, (free_enough, (delete_enough, (attach_enough, (return_enough, (abend_enough, (put_enough, (show_enough, (move_enough, (where_enough, (report_enough, tt))))))))))))))))))))))))

-- what does not apply first does not apply
pub none_first : (check : Fault × Bool) (checks : List (Fault × Bool)) → first_of (check ∷ checks) ≡ None → (check.1 ≡ false) × (first_of checks ≡ None)
none_first check checks h1 = grind (arith, nat_tests)

pub none_beyond : (front trailing : List (Fault × Bool)) → first_of (front ++ trailing) ≡ None → first_of trailing ≡ None
none_beyond [] trailing e = e
none_beyond (check ∷ front) trailing e = none_beyond front trailing (none_first check (front ++ trailing) e).1

-- the row of a statement without a fault has what it needs
pub row_says : (form : List ℕ) (operands : List (List ℕ)) (row : Row) → IsEnough row → first_of (row_checks operands (Some row)) ≡ None
    → is_some (statement_of row.meaning form (by_key (operands_after_form row operands))) ≡ true
row_says form operands row h1 h2 = grind (arith, nat_tests, none_first, none_beyond)

-- so the line says something
abbrev pub said_with : List ℕ → List ℕ → List (List ℕ) → Option Row → Option Line
said_with task form operands row =
    row >>= λ row. statement_of row.meaning form (by_key (operands_after_form row operands)) >>= λ statement. Some (line.Statement (padded task) statement)

with_row : (task form : List ℕ) (operands : List (List ℕ)) (o : Option Row) → ((row : Row) → o ≡ Some row → IsEnough row) → is_some o ≡ true
    → first_of (row_checks operands o) ≡ None → is_some (said_with task form operands o) ≡ true
with_row task form operands o h1 h2 h3 = grind (arith, nat_tests, bind_some, there, row_says)

known_row : (operation : List ℕ) (operands : List (List ℕ)) (row : Row) → row_of operation operands ≡ Some row → IsEnough row
known_row operation operands row e = found_has IsEnough _ (rows_of operation) row (passing_have IsEnough (λ row. bytes_eq row.operation operation) table all_enough) e

-- what stands at the front of such a list does not apply, and neither does what comes after the first few
abbrev pub FirstFails : List (Fault × Bool) → Type 0
FirstFails [] = Unit {0}
FirstFails (check ∷ checks) = check.1 ≡ false

pub first_fails : (checks : List (Fault × Bool)) → first_of checks ≡ None → FirstFails checks
first_fails checks h1 = grind (arith, nat_tests, none_first)

pub none_later : (k : ℕ) (checks : List (Fault × Bool)) → first_of checks ≡ None → first_of (drop k checks) ≡ None
none_later zero checks e = e
none_later (suc k) [] e = e
none_later (suc k) (check ∷ checks) e = none_later k checks (none_first check checks e).1

with_statement : (first : Bool) (task operation : List ℕ) (operands : List (List ℕ)) → first_of (statement_checks first task operation operands) ≡ None
    → is_some (said_with task (form_in operation operands) operands (row_of operation operands)) ≡ true
with_statement first task operation operands e =
    let all = statement_checks first task operation operands in
    let known : not (is_some (row_of operation operands)) ≡ false = first_fails (drop 4 all) (none_later 4 all e) in
    with_row task (form_in operation operands) operands (row_of operation operands) (known_row operation operands) (not-false (is_some (row_of operation operands)) known) (none_later 5 all e)

-- a line without a fault says something
says_some : (first : Bool) (bytes : List ℕ) → first_of (checks first bytes) ≡ None → is_some (line_meaning bytes) ≡ true
says_some first bytes e =
    (elim (is_blank_or_comment bytes) as (λ b. first_of (if b then [] else statement_checks first (task_in bytes) (operation_in bytes) (operands_of bytes)) ≡ None → is_some (if b then Some line.Nothing else said_with (task_in bytes) (form_in (operation_in bytes) (operands_of bytes)) (operands_of bytes) (row_of (operation_in bytes) (operands_of bytes))) ≡ true) [
      | true ↦ λ e. refl
      | false ↦ λ e. with_statement first (task_in bytes) (operation_in bytes) (operands_of bytes) e
    ]) (none_later 2 (checks first bytes) e)

-- what is said, and which fault applies
said_by : (first : Bool) (bytes : List ℕ) → first_of (checks first bytes) ≡ None → (o : Option Line) → line_meaning bytes ≡ o → is_some o ≡ true → Reading first bytes
said_by first bytes n None e s = false_true s
said_by first bytes n (Some l) e s = Said l (record { no_fault = n; says = e })

read_by : (first : Bool) (bytes : List ℕ) (o : Option Fault) → first_of (checks first bytes) ≡ o → Reading first bytes
read_by first bytes None e = said_by first bytes e (line_meaning bytes) refl (says_some first bytes e)
read_by first bytes (Some fault) e = Wrong fault e

pub one_reading : OneReading
one_reading = record {
  some = λ first bytes. read_by first bytes (first_of (checks first bytes)) refl;
  not_both = not_both;
  one_line = one_line;
  one_fault = one_fault;
}
