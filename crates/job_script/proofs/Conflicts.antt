-- What is missing from operands, and which exclude each other.
use Rattle.std.proofs.Common.{◌≡◌, ℕ, zero, suc, List, [], ◌∷◌, ◌++◌, map, drop, arith, refl, sym, ap, subst, ◌∙◌, true, false, Bool, Option, Some, None}
use Rattle.std.specs.Prelude.{◌==◌, ◌&&◌, ◌||◌, not, nat_le, is_some, codes, if◌then◌else◌}
use Rattle.std.specs.List.{list_any, list_all, slice_split, onto_first, AllByRecursion}
use Rattle.std.proofs.lemmas.Bool.Decides.{nat_tests}
use Rattle.mvs_model.specs.Grammar as grammar
use Rattle.mvs_model.specs.Reading.{ByKey, is_digit, is_number, is_list, items, number, numbers_in, lacks_keyword, lacks_positional}
use Rattle.mvs_model.specs.ReadingLaws.{IsTaken}
use Rattle.mvs_model.proofs.ReadingTaken.{and_true}
use Rattle.mvs_model.proofs.ReadingRanges.{number_no_list}
use Rattle.job_script.specs.declared.rows.Keyword.{Keyword}
use Rattle.job_script.specs.declared.rows.Positional.{Positional}
use Rattle.job_script.specs.declared.rows.Row.{Row}
use Rattle.job_script.specs.declared.rows.Row.TheVariants as row
use Rattle.job_script.specs.declared.given.GivenOperands.{GivenOperands}
use Rattle.job_script.specs.declared.items.Item.TheVariants.{Number}
use Rattle.job_script.specs.Items.{is_same_item, items_in}
use Rattle.job_script.specs.Rows.{row_at, key_text, as_keyword, as_positional}
use Rattle.job_script.specs.GivenOperands.{IsRead, by_place}
use Rattle.job_script.specs.Rules.{AreNumbers, IsFit, is_shared_number}
use Rattle.job_script.proofs.Taking.{taken_text}
use Rattle.job_script.proofs.SameNumbers.{number_digits}
use Rattle.mvs_model.proofs.Allowed.{four_exchanged}

pub any_map : {X Y : Type 0} (f : X → Y) (p : Y → Bool) (xs : List X) → list_any p (map f xs) ≡ list_any (λ x. p (f x)) xs
any_map f p [] = refl
any_map f p (x ∷ xs) = ap (λ b. p (f x) || b) (any_map f p xs)

drop_map : {X Y : Type 0} (f : X → Y) (n : ℕ) (xs : List X) → drop n (map f xs) ≡ map f (drop n xs)
drop_map f zero xs = refl
drop_map f (suc n) [] = refl
drop_map f (suc n) (x ∷ xs) = drop_map f n xs

-- the required operands of a table, by the table's own
pub positional_lacks : (ps : List Positional) (r : grammar.Row) (os : ByKey) (n : ℕ) → map as_positional ps ≡ r.positional → n ≡ os.count → list_any (λ p. p.required) (drop n ps) ≡ lacks_positional r os
positional_lacks ps r os n e c =
    sym (any_map as_positional (λ p. p.required) (drop n ps)) ∙ ap (list_any (λ p. p.required)) (sym (drop_map as_positional n ps) ∙ ap (drop n) e ∙ ap (λ n. drop n r.positional) c)

pub keyword_lacks : (kws : List Keyword) (r : grammar.Row) (os : ByKey) → map as_keyword kws ≡ r.keywords → list_any (λ k. k.required && not (is_some (os.under (key_text k.key)))) kws ≡ lacks_keyword r os
keyword_lacks kws r os e = sym (any_map as_keyword (λ k. k.required && not (is_some (os.under k.key))) kws) ∙ ap (list_any (λ k. k.required && not (is_some (os.under k.key)))) e

-- ---- numbers under keys

pub no_comma : (text : List ℕ) → list_all is_digit text ≡ true → slice_split (λ b. b == 44) text ≡ text ∷ []
no_comma [] e = refl
no_comma (b ∷ bs) e =
    let a = and_true (is_digit b) (list_all is_digit bs) e in
    ap (λ t. if t then ([] ∷ slice_split (λ b. b == 44) bs) else onto_first b (slice_split (λ b. b == 44) bs)) (no_digit b (and_true (nat_le 48 b) (nat_le b 57) a.0).0) ∙ ap (onto_first b) (no_comma bs a.1) where
      no_digit : (b : ℕ) → nat_le 48 b ≡ true → (b == 44) ≡ false
      no_digit b e = grind (arith, nat_tests)

-- a number that is no list
pub number_alone : (text : List ℕ) → AreNumbers (Some text) → is_list text ≡ false → (map number (items_in text) ≡ numbers_in (Some text)) × (list_all is_number (items_in text) ≡ true)
number_alone text n l =
    let is : is_number text ≡ true = sym (ap (λ b. if b then list_all is_number (items text) else is_number text) l) ∙ n in
    let one : items_in text ≡ text ∷ [] = no_comma text (number_digits text is) in
    (ap (map number) one ∙ sym (ap (λ b. if b then map number (items text) else number text ∷ []) l), ap (list_all is_number) one ∙ ap (λ b. b && true) is)

any_same : (n : ℕ) (x : List ℕ) (least most : ℕ) (ys : List (List ℕ)) → list_any (is_same_item (Number least most) x) ys ≡ list_any (◌==◌ (number x)) (map number ys)
any_same n x least most [] = refl
any_same n x least most (y ∷ ys) = ap (λ b. (number x == number y) || b) (any_same n x least most ys)

pub shared_numbers : (least most : ℕ) (xs ys : List (List ℕ)) → list_any (λ x. list_any (is_same_item (Number least most) x) ys) xs ≡ is_shared_number (map number xs) (map number ys)
shared_numbers least most [] ys = refl
shared_numbers least most (x ∷ xs) ys = λ i. any_same 0 x least most ys i || shared_numbers least most xs ys i

or_assoc : (a b c : Bool) → (a || (b || c)) ≡ ((a || b) || c)
or_assoc true b c = refl
or_assoc false b c = refl

-- numbers of two lists, and of two others
any_both : {X : Type 0} (p : X → Bool) (xs ys : List X) → list_any p (xs ++ ys) ≡ (list_any p xs || list_any p ys)
any_both p [] ys = refl
any_both p (x ∷ xs) ys = ap (λ b. p x || b) (any_both p xs ys) ∙ or_assoc (p x) (list_any p xs) (list_any p ys)

shares_none : (ms : List ℕ) → is_shared_number ms [] ≡ false
shares_none [] = refl
shares_none (m ∷ ms) = shares_none ms

pub shares_nothing : (ms : List ℕ) → false ≡ is_shared_number ms []
shares_nothing ms = sym (shares_none ms)

shares_right : (ms ns ps : List ℕ) → is_shared_number ms (ns ++ ps) ≡ (is_shared_number ms ns || is_shared_number ms ps)
shares_right [] ns ps = refl
shares_right (m ∷ ms) ns ps = (λ i. any_both (◌==◌ m) ns ps i || shares_right ms ns ps i) ∙ four_exchanged (list_any (◌==◌ m) ns) (list_any (◌==◌ m) ps) (is_shared_number ms ns) (is_shared_number ms ps)

pub shares_apart : (a b c d : List ℕ) → is_shared_number (a ++ b) (c ++ d) ≡ (((is_shared_number a c || is_shared_number a d) || is_shared_number b c) || is_shared_number b d)
shares_apart a b c d =
    any_both (λ n. list_any (◌==◌ n) (c ++ d)) a b ∙ (λ i. shares_right a c d i || shares_right b c d i) ∙ or_assoc (is_shared_number a c || is_shared_number a d) (is_shared_number b c) (is_shared_number b d)

-- ---- rules

-- what stands under a key whose kind is a number is one
number_taken : (g : GivenOperands) → IsRead g → g.row ≡ row.Attach → (key : List ℕ) → ((text : List ℕ) → IsTaken grammar.attach key text → AreNumbers (Some text)) → AreNumbers ((by_place g).under key)
number_taken g read is key fits = at ((by_place g).under key) refl where
  at : (o : Option (List ℕ)) → (by_place g).under key ≡ o → AreNumbers o
  at None e = tt
  at (Some text) e = fits text (subst (λ r. IsTaken (row_at r) key text) is (taken_text g read.0 read.1 key text e))

number_is : (text : List ℕ) → is_number text ≡ true → AreNumbers (Some text)
number_is text n = at (is_list text) refl where
  at : (b : Bool) → is_list text ≡ b → (if b then list_all is_number (items text) else is_number text) ≡ true
  at true l = absurd (number_no_list text n l)
  at false l = n

list_is : (text : List ℕ) → (is_list text && list_all is_number (items text)) ≡ true → AreNumbers (Some text)
list_is text e =
    let a = and_true (is_list text) (list_all is_number (items text)) e in
    ap (λ b. if b then list_all is_number (items text) else is_number text) a.0 ∙ a.1

pub rules_fit : (g : GivenOperands) → IsRead g → (r : Row) → g.row ≡ r → AllByRecursion (IsFit (by_place g)) (row_at r).rules
rules_fit g read row.GetmainFixedPlaced e = (tt, (tt, tt))
rules_fit g read row.GetmainVariablePlaced e = (tt, (tt, tt))
rules_fit g read row.StorageObtain e = (tt, (tt, tt))
rules_fit g read row.GetmainList e = (tt, tt)
rules_fit g read row.FreemainList e = (tt, tt)
rules_fit g read row.FreemainOrWhole e = (tt, tt)
rules_fit g read row.StorageRelease e = (tt, tt)
rules_fit g read row.Attach e = (
  tt,
  (
    tt,
    (
      (
        number_taken g read e (codes "GSPV") (λ text k. number_is text k.of_kind),
        number_taken g read e (codes "GSPL") (λ text k. list_is text k.of_kind),
        number_taken g read e (codes "SHSPV") (λ text k. number_is text k.of_kind),
        number_taken g read e (codes "SHSPL") (λ text k. list_is text k.of_kind),
      ),
      tt,
    ),
  ),
)
rules_fit g read _ e = tt

pub all_map : {X Y : Type 0} (P : Y → Type 0) (f : X → Y) (xs : List X) → AllByRecursion P (map f xs) → AllByRecursion (λ x. P (f x)) xs
all_map P f [] all = tt
all_map P f (x ∷ xs) all = (all.0, all_map P f xs all.1)
