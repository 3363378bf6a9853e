-- What a line says is in its ranges.
use Rattle.std.proofs.Common.{◌≡◌, ◌≢◌, ◌≤◌, ◌^◌, ◌%◌, refl, ◌||◌, ◌&&◌, not, true, false, Bool, ℕ, zero, suc, List, [], ◌∷◌, ◌++◌, map, drop, length, sym, ap, subst, ◌∙◌, arith, Option, Some, None, Ok, flat_map, bytes_eq, if◌then◌else◌, option_map, unwrap_or, slice_get, ◌==◌, codes, bit_and, bit_or, filter}
use Rattle.std.specs.List.{list_any, list_all, AllByRecursion}
use Rattle.std.proofs.lemmas.Bool.Decides.{nat_tests}
use Rattle.std.proofs.lemmas.Bool.{and_parts, or_parts}
use Rattle.std.proofs.lemmas.Grind.{common_steps}
use Rattle.mvs_model.proofs.Types.{Statement, Form, Line}
use Rattle.mvs_model.specs.Want.{IsExponent, IsAsk}
use Rattle.mvs_model.specs.Gifts.{IsGifts}
use Rattle.mvs_model.specs.Lines.{IsStatement}
use Rattle.mvs_model.specs.Grammar.{Row, region, getmain_fixed, getmain_fixed_placed, getmain_variable, getmain_variable_placed, getmain_list, storage_obtain, freemain_or_whole, freemain_place, freemain_area, freemain_list, storage_release, cpool_build, cpool_get, cpool_free, cpool_delete, attach, return_row, abend, put, show, move, where_row, report}
use Rattle.mvs_model.specs.Reading.{first_of, operand_checks, with_left, if_kind, is_of, value_of, ◌>>=◌, statement_of, number, is_number, is_in_range, is_list, is_pair, is_pair_in_range, items, smallest, largest, ask_for, is_conflict, positionals, by_key, ByKey, release_of, form_of, set_of, numbers_in, presents, has}
use Rattle.std.proofs.Common.{pow-suc}
use Rattle.std.proofs.lemmas.Nat.{and_comm, and_or_apart, pow_apart, or_mod}
use Rattle.mvs_model.specs.Grammar.{table}
use Rattle.mvs_model.specs.declared.line.Line.TheVariants as line
use Rattle.mvs_model.specs.Name.{padded}
use Rattle.mvs_model.specs.Lines.{IsLine}
use Rattle.mvs_model.specs.Reading.{LineOf, checks, is_blank_or_comment, statement_checks, row_checks, row_of, rows_of, operands_after_form, form_in, task_in, operation_in, operands_of}
use Rattle.mvs_model.proofs.Reading.{found_has, passing_have, said_with, none_first, none_beyond, none_later, first_fails}
use Rattle.mvs_model.proofs.ReadingTaken.{none_in_front, bytes_same}
use Rattle.mvs_model.specs.ReadingLaws.{keyed}
use Rattle.mvs_model.proofs.ReadingTaken.{under_key}
use Rattle.mvs_model.proofs.Tests.{false_true, none_some}

-- what a chain says has what its end has
bind_has : {A B : Type 0} (P : B → Type 0) (o : Option A) (f : A → Option B) (s : B) → (o >>= f) ≡ Some s → ((x : A) → o ≡ Some x → f x ≡ Some s → P s) → P s
bind_has P o f s h1 h2 = grind (arith, nat_tests, none_some)

some_has : {B : Type 0} (P : B → Type 0) (x s : B) → Some x ≡ Some s → P x → P s
some_has P x s e p = subst P (let g : Some x ≡ Some s = e in cc) p

-- a number in range
pub bounds : (least most : ℕ) (text : List ℕ) → is_in_range least most text ≡ true → (least ≤ number text) × (number text ≤ most)
bounds least most text h1 = grind (arith, nat_tests)

-- a number is no list
pub number_no_list : (text : List ℕ) → is_number text ≡ true → is_list text ≡ true → ⊥
number_no_list text h1 h2 = grind (arith, nat_tests)

-- lengths that are in order and in range
abbrev pub Fit : List ℕ → Type 0
Fit text = (1 ≤ smallest text) × (smallest text ≤ largest text) × (largest text ≤ 2147483647)

pub fit_number : (text : List ℕ) → is_number text ≡ true → is_in_range 1 2147483647 text ≡ true → Fit text
fit_number text h1 h2 = grind (arith, nat_tests)

of_two : (xs : List (List ℕ)) → (length xs == 2) ≡ true → list_all (is_in_range 1 2147483647) xs ≡ true
    → (1 ≤ number (unwrap_or (slice_get xs 1) [])) × (number (unwrap_or (slice_get xs 0) []) ≤ 2147483647)
of_two [] c a = false_true c
of_two (x ∷ []) c a = false_true c
of_two (x ∷ y ∷ xs) c a = grind (arith, nat_tests, bounds, and_parts)

pub fit_pair : (text : List ℕ) → is_pair text ≡ true → is_pair_in_range 1 2147483647 text ≡ true → Fit text
fit_pair text h1 h2 = grind (arith, nat_tests, of_two)

-- either of them
pub fit_either : (text : List ℕ) → (is_number text || is_pair text) ≡ true → (if is_list text then is_pair_in_range 1 2147483647 text else is_in_range 1 2147483647 text) ≡ true → Fit text
fit_either text h1 h2 = grind (arith, nat_tests, number_no_list, fit_number, fit_pair)

-- the exponents
of_exponent : (text : List ℕ) → is_in_range 3 31 text ≡ true → IsExponent (number text)
of_exponent text r = bounds 3 31 text r

-- no check is against an operand
abbrev pub AreTaken : Row → List (List ℕ) → Type 0
AreTaken row os = first_of (flat_map (operand_checks row) (with_left os)) ≡ None

asking_fits : (n : List ℕ) (os : List (List ℕ)) → Fit n → ((text : List ℕ) → value_of (codes "STARTBDY") os ≡ Some text → IsExponent (number text)) → ((text : List ℕ) → value_of (codes "CONTBDY") os ≡ Some text → IsExponent (number text)) → IsAsk (ask_for n (by_key os))
asking_fits n os fit start within = grind (arith, nat_tests)

-- ---- the rows

-- what a statement of the row says is in its ranges, where it stands where it may, no check is against an operand, and no two exclude each other
abbrev IsRanged : Row → Type 0
IsRanged row =
    (first : Bool) (t form : List ℕ) (os : List (List ℕ)) (s : Statement)
    → (first && not (bytes_eq row.operation (codes "REGION"))) ≡ false
    → AreTaken row os → list_any (is_conflict (by_key os)) row.rules ≡ false → statement_of row.meaning form (by_key os) ≡ Some s → IsStatement first t s

is_later : (first : Bool) → (first && true) ≡ false → first ≡ false
is_later first h1 = grind (arith, common_steps)

none_given : (row : Row) (os : List (List ℕ)) → AreTaken row os → (key : List ℕ) → keyed row key ≡ None → (text : List ℕ) → value_of key os ≡ Some text → ⊥
none_given row os ok key none text e =
    let g : false ≡ true = ap (λ k. if_kind (λ kind. is_of kind text) k) (sym none) ∙ (under_key row os ok key text e).of_kind in
    cc

ranged_fixed : IsRanged getmain_fixed
ranged_fixed first t form os s place ok rules e =
    bind_has (IsStatement first t) (value_of (codes "LV") os) _ s e (λ n en e. bind_has (IsStatement first t) (value_of (codes "A") os) _ s e (λ area ea e.
    let u = under_key getmain_fixed os ok (codes "LV") n en in
    some_has (IsStatement first t) _ s e (is_later first place, asking_fits n os (fit_number n u.of_kind u.within) (λ text g. absurd (none_given getmain_fixed os ok (codes "STARTBDY") refl text g)) (λ text g. absurd (none_given getmain_fixed os ok (codes "CONTBDY") refl text g)))))

ranged_variable : IsRanged getmain_variable
ranged_variable first t form os s place ok rules e =
    bind_has (IsStatement first t) (value_of (codes "LV") os) _ s e (λ n en e. bind_has (IsStatement first t) (value_of (codes "A") os) _ s e (λ area ea e.
    let u = under_key getmain_variable os ok (codes "LV") n en in
    some_has (IsStatement first t) _ s e (is_later first place, asking_fits n os (fit_pair n u.of_kind u.within) (λ text g. absurd (none_given getmain_variable os ok (codes "STARTBDY") refl text g)) (λ text g. absurd (none_given getmain_variable os ok (codes "CONTBDY") refl text g)))))

ranged_fixed_placed : IsRanged getmain_fixed_placed
ranged_fixed_placed first t form os s place ok rules e =
    bind_has (IsStatement first t) (value_of (codes "LV") os) _ s e (λ n en e. bind_has (IsStatement first t) (value_of (codes "A") os) _ s e (λ area ea e.
    let u = under_key getmain_fixed_placed os ok (codes "LV") n en in
    some_has (IsStatement first t) _ s e (is_later first place, asking_fits n os (fit_number n u.of_kind u.within) (λ text g. of_exponent text (under_key getmain_fixed_placed os ok (codes "STARTBDY") text g).within) (λ text g. of_exponent text (under_key getmain_fixed_placed os ok (codes "CONTBDY") text g).within))))

ranged_variable_placed : IsRanged getmain_variable_placed
ranged_variable_placed first t form os s place ok rules e =
    bind_has (IsStatement first t) (value_of (codes "LV") os) _ s e (λ n en e. bind_has (IsStatement first t) (value_of (codes "A") os) _ s e (λ area ea e.
    let u = under_key getmain_variable_placed os ok (codes "LV") n en in
    some_has (IsStatement first t) _ s e (is_later first place, asking_fits n os (fit_pair n u.of_kind u.within) (λ text g. of_exponent text (under_key getmain_variable_placed os ok (codes "STARTBDY") text g).within) (λ text g. of_exponent text (under_key getmain_variable_placed os ok (codes "CONTBDY") text g).within))))

ranged_obtain : IsRanged storage_obtain
ranged_obtain first t form os s place ok rules e =
    bind_has (IsStatement first t) (value_of (codes "LENGTH") os) _ s e (λ n en e. bind_has (IsStatement first t) (value_of (codes "ADDR") os) _ s e (λ area ea e.
    let u = under_key storage_obtain os ok (codes "LENGTH") n en in
    some_has (IsStatement first t) _ s e (is_later first place, asking_fits n os (fit_either n u.of_kind u.within) (λ text g. of_exponent text (under_key storage_obtain os ok (codes "STARTBDY") text g).within) (λ text g. of_exponent text (under_key storage_obtain os ok (codes "CONTBDY") text g).within))))

-- statements without ranges of their own
ranged_list : IsRanged getmain_list
ranged_list = grind (arith, nat_tests, bind_has, some_has, is_later)

ranged_release_list : IsRanged freemain_list
ranged_release_list = grind (arith, nat_tests, bind_has, some_has, is_later)

released_in : (first : Bool) (t : List ℕ) (f : Form) (os : ByKey) (x y : Option (List ℕ)) (s : Statement) → first ≡ false → release_of f os x y ≡ Some s → IsStatement first t s
released_in first t f os x y s h1 h2 = grind (arith, nat_tests)

ranged_whole : IsRanged freemain_or_whole
ranged_whole first t form os s place ok rules e = released_in first t (form_of form (by_key os)) (by_key os) (value_of (codes "LV") os) (value_of (codes "A") os) s (is_later first place) e

ranged_place : IsRanged freemain_place
ranged_place first t form os s place ok rules e = released_in first t (form_of form (by_key os)) (by_key os) (value_of (codes "LV") os) (value_of (codes "A") os) s (is_later first place) e

ranged_release : IsRanged storage_release
ranged_release first t form os s place ok rules e = released_in first t (form_of form (by_key os)) (by_key os) (value_of (codes "LENGTH") os) (value_of (codes "ADDR") os) s (is_later first place) e

ranged_area : IsRanged freemain_area
ranged_area first t form os s place ok rules e = bind_has (IsStatement first t) (value_of (codes "A") os) _ s e (λ a ea e. some_has (IsStatement first t) _ s e (is_later first place, tt))

ranged_get : IsRanged cpool_get
ranged_get = grind (arith, nat_tests, bind_has, some_has, is_later)

ranged_free : IsRanged cpool_free
ranged_free = grind (arith, nat_tests, bind_has, some_has, is_later)

ranged_delete : IsRanged cpool_delete
ranged_delete first t form os s place ok rules e = bind_has (IsStatement first t) (value_of (codes "CPID") os) _ s e (λ a ea e. some_has (IsStatement first t) _ s e (is_later first place, tt))

ranged_return : IsRanged return_row
ranged_return first t form os s place ok rules e = some_has (IsStatement first t) _ s e (is_later first place, tt)

ranged_abend : IsRanged abend
ranged_abend first t form os s place ok rules e = bind_has (IsStatement first t) (slice_get (positionals os) 0) _ s e (λ a ea e. some_has (IsStatement first t) _ s e (is_later first place, tt))

ranged_put : IsRanged put
ranged_put first t form os s place ok rules e = bind_has (IsStatement first t) (slice_get (positionals os) 0) _ s e (λ a ea e. bind_has (IsStatement first t) (slice_get (positionals os) 1) _ s e (λ b eb e. some_has (IsStatement first t) _ s e (is_later first place, tt)))

ranged_show : IsRanged show
ranged_show first t form os s place ok rules e = bind_has (IsStatement first t) (slice_get (positionals os) 0) _ s e (λ a ea e. bind_has (IsStatement first t) (slice_get (positionals os) 1) _ s e (λ b eb e. some_has (IsStatement first t) _ s e (is_later first place, tt)))

ranged_move : IsRanged move
ranged_move = grind (arith, nat_tests)

ranged_where : IsRanged where_row
ranged_where first t form os s place ok rules e = bind_has (IsStatement first t) (slice_get (positionals os) 0) _ s e (λ a ea e. some_has (IsStatement first t) _ s e (is_later first place))

ranged_report : IsRanged report
ranged_report = grind (arith, nat_tests)

-- a number that may be left out
number_fits : (least most other : ℕ) (o : Option (List ℕ)) → least ≤ other → other ≤ most → ((text : List ℕ) → o ≡ Some text → is_in_range least most text ≡ true)
    → (least ≤ unwrap_or (option_map number o) other) × (unwrap_or (option_map number o) other ≤ most)
number_fits least most other o h1 h2 h3 = grind (arith, nat_tests, bounds)

ranged_region : IsRanged region
ranged_region first t form os s place ok rules e =
    bind_has (IsStatement first t) (value_of (codes "BELOW") os) _ s e (λ below eb e.
    let b = bounds 1 2048 below (under_key region os ok (codes "BELOW") below eb).within in
    let a = number_fits 0 8192 0 (value_of (codes "ABOVE") os) (omega arith) (omega arith) (λ text g. (under_key region os ok (codes "ABOVE") text g).within) in
    some_has (IsStatement first t) _ s e record { below_some = b.0; below_most = b.1; above_most = a.1 })

ranged_build : IsRanged cpool_build
ranged_build first t form os s place ok rules e =
    bind_has (IsStatement first t) (value_of (codes "CPID") os) _ s e (λ pool ep e. bind_has (IsStatement first t) (value_of (codes "CSIZE") os) _ s e (λ size es e. bind_has (IsStatement first t) (value_of (codes "PCELLCT") os) _ s e (λ count ec e.
    let z = bounds 4 65536 size (under_key cpool_build os ok (codes "CSIZE") size es).within in
    let c = bounds 1 65536 count (under_key cpool_build os ok (codes "PCELLCT") count ec).within in
    let d = number_fits 1 65536 (number count) (value_of (codes "SCELLCT") os) c.0 c.1 (λ text g. (under_key cpool_build os ok (codes "SCELLCT") text g).within) in
    some_has (IsStatement first t) _ s e (is_later first place, (z.0, c.0, d.0)))))

-- ---- what ATTACH gives and shares

bit_apart : (i : ℕ) (ns : List ℕ) → list_any (◌==◌ i) ns ≡ false → bit_and (2 ^ i) (set_of ns) ≡ 0
bit_apart i [] none = and_comm (2 ^ i) 0
bit_apart i (n ∷ ns) none =
    let a = or_parts (i == n) (list_any (◌==◌ i) ns) none in
    let rest : bit_and (set_of ns) (2 ^ i) ≡ 0 = and_comm (set_of ns) (2 ^ i) ∙ bit_apart i ns a.1 in
    and_comm (2 ^ i) (set_of (n ∷ ns)) ∙ and_or_apart (2 ^ i) (2 ^ n) (set_of ns) rest ∙ pow_apart n i (differ i n a.0) where
      differ : (i n : ℕ) → (i == n) ≡ false → n ≢ i
      differ i n e same = grind (arith, nat_tests)

pub sets_apart : (ms ns : List ℕ) → list_any (λ n. list_any (◌==◌ n) ns) ms ≡ false → bit_and (set_of ms) (set_of ns) ≡ 0
sets_apart [] ns none = refl
sets_apart (m ∷ ms) ns none =
    let a = or_parts (list_any (◌==◌ m) ns) (list_any (λ n. list_any (◌==◌ n) ns) ms) none in
    and_or_apart (set_of ns) (2 ^ m) (set_of ms) (sets_apart ms ns a.1) ∙ bit_apart m ns a.0

even_power : (n : ℕ) → 1 ≤ n → 2 ^ n % 2 ≡ 0
even_power zero l = absurd (omega arith)
even_power (suc n) l = rw (pow-suc 2 n) (grind arith)

-- numbers from 1 on
abbrev pub Some1 : List ℕ → Type 0
Some1 ns = AllByRecursion (λ n. 1 ≤ n) ns

pub set_even : (ns : List ℕ) → Some1 ns → set_of ns % 2 ≡ 0
set_even [] all = refl
set_even (n ∷ ns) all = or_mod (2 ^ n) (set_of ns) 1 ∙ (λ i. bit_or (even_power n all.0 i) (set_even ns all.1 i))

pub some1_both : (ms ns : List ℕ) → Some1 ms → Some1 ns → Some1 (ms ++ ns)
some1_both ms ns h1 h2 = grind (arith, common_steps)

items_some1 : (xs : List (List ℕ)) → list_all (is_in_range 1 127) xs ≡ true → Some1 (map number xs)
items_some1 [] e = tt
items_some1 (x ∷ xs) e = let a = and_parts (is_in_range 1 127 x) (list_all (is_in_range 1 127) xs) e in ((bounds 1 127 x a.0).0, items_some1 xs a.1)

pub one_some1 : (o : Option (List ℕ)) → ((text : List ℕ) → o ≡ Some text → (is_number text ≡ true) × (is_in_range 1 127 text ≡ true)) → Some1 (numbers_in o)
one_some1 o h1 = grind (arith, nat_tests)

pub list_some1 : (o : Option (List ℕ)) → ((text : List ℕ) → o ≡ Some text → ((is_list text && list_all is_number (items text)) ≡ true) × (list_all (is_in_range 1 127) (items text) ≡ true)) → Some1 (numbers_in o)
list_some1 o h1 = grind (arith, nat_tests, items_some1)

-- what ATTACH gives and shares is presents
pub attach_presents : (os : List (List ℕ)) → AreTaken attach os → list_any (is_conflict (by_key os)) attach.rules ≡ false → IsGifts (presents (by_key os))
attach_presents os ok rules =
    let given = some1_both (numbers_in (value_of (codes "GSPV") os)) (numbers_in (value_of (codes "GSPL") os)) (one_some1 (value_of (codes "GSPV") os) (λ text g. let u = under_key attach os ok (codes "GSPV") text g in (u.of_kind, u.within))) (list_some1 (value_of (codes "GSPL") os) (λ text g. let u = under_key attach os ok (codes "GSPL") text g in (u.of_kind, u.within))) in
    let shared = some1_both (numbers_in (value_of (codes "SHSPV") os)) (numbers_in (value_of (codes "SHSPL") os)) (one_some1 (value_of (codes "SHSPV") os) (λ text g. let u = under_key attach os ok (codes "SHSPV") text g in (u.of_kind, u.within))) (list_some1 (value_of (codes "SHSPL") os) (λ text g. let u = under_key attach os ok (codes "SHSPL") text g in (u.of_kind, u.within))) in
    let a = or_parts (has (codes "GSPV") os && has (codes "GSPL") os) _ rules in
    let b = or_parts (has (codes "SHSPV") os && has (codes "SHSPL") os) _ a.1 in
    let c = or_parts (list_any (λ n. list_any (◌==◌ n) (numbers_in (value_of (codes "SHSPV") os) ++ numbers_in (value_of (codes "SHSPL") os))) (numbers_in (value_of (codes "GSPV") os) ++ numbers_in (value_of (codes "GSPL") os))) false b.1 in
    record {
      apart = sets_apart (numbers_in (value_of (codes "GSPV") os) ++ numbers_in (value_of (codes "GSPL") os)) (numbers_in (value_of (codes "SHSPV") os) ++ numbers_in (value_of (codes "SHSPL") os)) c.0;
      zero_not_given = set_even (numbers_in (value_of (codes "GSPV") os) ++ numbers_in (value_of (codes "GSPL") os)) given;
      zero_not_shared = set_even (numbers_in (value_of (codes "SHSPV") os) ++ numbers_in (value_of (codes "SHSPL") os)) shared;
    }

ranged_attach : IsRanged attach
ranged_attach = grind (arith, nat_tests, bind_has, some_has, is_later, attach_presents)

all_ranged : AllByRecursion IsRanged table
all_ranged =
    (ranged_region, (ranged_fixed, (ranged_fixed_placed, (ranged_variable, (ranged_variable_placed, (ranged_list, (ranged_obtain, (ranged_whole, (ranged_place, (ranged_area, (ranged_release_list, (ranged_release, (ranged_build, (ranged_get, (ranged_free, (ranged_delete, (ranged_attach, (ranged_return, (ranged_abend, (ranged_put, (ranged_show, (ranged_move, (ranged_where, (ranged_report, tt))))))))))))))))))))))))

-- ---- the line

pub each_passes : {X : Type 0} (test : X → Bool) (xs : List X) → AllByRecursion (λ x. test x ≡ true) (filter test xs)
each_passes test [] = tt
each_passes test (x ∷ xs) = grind (arith, nat_tests, each_passes test xs)

abbrev IsRow : Row → List ℕ → Type 0
IsRow row operation = IsRanged row × (row.operation ≡ operation)

row_found : (operation : List ℕ) (operands : List (List ℕ)) (row : Row) → row_of operation operands ≡ Some row → IsRow row operation
row_found operation operands row e = (
  found_has IsRanged _ (rows_of operation) row (passing_have IsRanged (λ row. bytes_eq row.operation operation) table all_ranged) e,
  bytes_same row.operation operation (found_has (λ row. bytes_eq row.operation operation ≡ true) _ (rows_of operation) row (each_passes (λ row. bytes_eq row.operation operation) table) e),
)

row_ranged : (first : Bool) (t form operation : List ℕ) (operands : List (List ℕ)) (row : Row) (s : Statement) → IsRow row operation
    → (first && not (bytes_eq operation (codes "REGION"))) ≡ false
    → first_of (row_checks operands (Some row)) ≡ None → statement_of row.meaning form (by_key (operands_after_form row operands)) ≡ Some s → IsStatement first t s
row_ranged first t form operation operands row s h1 h2 h3 h4 = grind (arith, nat_tests, first_fails, none_beyond, none_first, none_in_front)

statement_ranged : (first : Bool) (task operation : List ℕ) (operands : List (List ℕ)) (l : Line) → first_of (statement_checks first task operation operands) ≡ None
    → said_with task (form_in operation operands) operands (row_of operation operands) ≡ Some l → IsLine first (Ok l)
statement_ranged first task operation operands l e says =
    let all = statement_checks first task operation operands in
    let place : (first && not (bytes_eq operation (codes "REGION"))) ≡ false = first_fails (drop 2 all) (none_later 2 all e) in
    at place (none_later 5 all e) (row_of operation operands) refl says where
      at : (first && not (bytes_eq operation (codes "REGION"))) ≡ false → first_of (row_checks operands (row_of operation operands)) ≡ None
          → (o : Option Row) → row_of operation operands ≡ o → said_with task (form_in operation operands) operands o ≡ Some l → IsLine first (Ok l)
      at place rest None found says = none_some says
      at place rest (Some row) found says =
          bind_has (λ l. IsLine first (Ok l)) (statement_of row.meaning (form_in operation operands) (by_key (operands_after_form row operands))) _ l says (λ s es e.
          some_has (λ l. IsLine first (Ok l)) _ l e (row_ranged first (padded task) (form_in operation operands) operation operands row s (row_found operation operands row found) place (ap (λ o. first_of (row_checks operands o)) (sym found) ∙ rest) es))

-- a line that is read is in its ranges, and the first statement is REGION
pub line_ranged : (first : Bool) (bytes : List ℕ) (l : Line) → LineOf first bytes l → IsLine first (Ok l)
line_ranged first bytes l is =
    (elim (is_blank_or_comment bytes) as (λ b. first_of (if b then [] else statement_checks first (task_in bytes) (operation_in bytes) (operands_of bytes)) ≡ None → (if b then Some line.Nothing else said_with (task_in bytes) (form_in (operation_in bytes) (operands_of bytes)) (operands_of bytes) (row_of (operation_in bytes) (operands_of bytes))) ≡ Some l → IsLine first (Ok l)) [
      | true ↦ λ e says. some_has (λ l. IsLine first (Ok l)) _ l says tt
      | false ↦ λ e says. statement_ranged first (task_in bytes) (operation_in bytes) (operands_of bytes) l e says
    ]) (none_later 2 (checks first bytes) is.no_fault) is.says
