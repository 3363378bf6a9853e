-- Lists as they are written fit, and make the statements that have them.
use Rattle.std.proofs.Common.{◌≡◌, refl, sym, ap, ◌∙◌, ℕ, suc, ◌+◌, ◌==◌, ◌<◌, ◌≤◌, ◌^◌, ◌&&◌, ◌||◌, true, false, List, [], ◌∷◌, ◌++◌, length, map, decimal, nat_le, bytes_eq, append-nil, append_assoc, arith, lit<, le-leb}
use Rattle.std.specs.List.{list_all, list_any, AllByRecursion}
use Rattle.std.proofs.lemmas.Bool.{ne_eqb, and_from, and_parts}
use Rattle.std.proofs.lemmas.Bool.Decides.{nat_tests}
use Rattle.std.proofs.lemmas.List.{length-append, length-map}
use Rattle.std.proofs.Math.Bool.{and-false}
use Rattle.mvs_model.specs.declared.line.Location.TheVariants.{Absolute}
use Rattle.mvs_model.specs.Grammar.{Numbers, DistinctNames, Addresses}
use Rattle.mvs_model.specs.Reading.{is_empty, is_name, is_name_byte, is_twice, items, location, number}
use Rattle.mvs_model.specs.Spelling.{Fits, IsAddressText, absolute, AreBetween, absolute_text, joined, list_text}
use Rattle.mvs_model.proofs.Spelling.{all_append}
use Rattle.mvs_model.proofs.ValueTexts.{each_is_written}
use Rattle.mvs_c.specs.ListStatements.{each_text, area_names}

-- ---- texts in parentheses

joined_is : (t : List ℕ) (ts : List (List ℕ)) → joined (t ∷ ts) ≡ t ++ each_text 44 ts
joined_is t [] = sym (append-nil t)
joined_is t (u ∷ us) = ap (λ (x : List ℕ). t ++ (44 ∷ x)) (joined_is u us)

pub in_parens : (ts : List (List ℕ)) → is_empty ts ≡ false → (rest : List ℕ) → each_text 40 ts ++ (41 ∷ rest) ≡ list_text ts ++ rest
in_parens [] some rest = absurd (let e : true ≡ false = some in cc)
in_parens (t ∷ ts) some rest =
    ap (λ (x : List ℕ). 40 ∷ (x ++ (41 ∷ rest))) (sym (joined_is t ts)) ∙ ap (λ (x : List ℕ). 40 ∷ x) (sym (append_assoc (joined (t ∷ ts)) (41 ∷ []) rest))

-- ---- lengths

-- a list of lengths
pub lengths_are : (ns : List ℕ) → is_empty ns ≡ false → length ns ≤ 16 → AreBetween 1 2147483647 ns → Fits (Numbers 16 1 2147483647) (list_text (map decimal ns)) × (map number (items (list_text (map decimal ns))) ≡ ns)
lengths_are ns some few between = each_is_written.numbers_are 16 1 2147483647 ns some few between (lit< tt)

pub lengths_count : (ns : List ℕ) → is_empty ns ≡ false → length ns ≤ 16 → AreBetween 1 2147483647 ns → length (items (list_text (map decimal ns))) ≡ length ns
lengths_count ns some few between = sym (length-map (items (list_text (map decimal ns))) number) ∙ ap length (lengths_are ns some few between).1

-- ---- names

-- a name with a letter appended
named_more : (base : List ℕ) (letter : ℕ) → is_name base ≡ true → length base ≤ 7 → 65 ≤ letter → letter ≤ 90 → is_name (base ++ letter ∷ []) ≡ true
named_more [] letter named short low high = absurd (let e : false ≡ true = named in cc)
named_more (b ∷ bs) letter named short low high =
    let d = and_parts (nat_le (length (b ∷ bs)) 8 && list_all is_name_byte (b ∷ bs)) _ named in
    let c = and_parts (nat_le (length (b ∷ bs)) 8) (list_all is_name_byte (b ∷ bs)) d.0 in
    let long : length ((b ∷ bs) ++ letter ∷ []) ≤ 8 = (let e = length-append (b ∷ bs) (letter ∷ []) in omega (arith, e, short)) in
    let one : is_name_byte letter ≡ true = grind (arith, nat_tests, low, high) in
    let all : list_all is_name_byte ((b ∷ bs) ++ letter ∷ []) ≡ true = all_append is_name_byte (b ∷ bs) (letter ∷ []) c.1 (and_from (is_name_byte letter) true one refl) in
    and_from (nat_le (length ((b ∷ bs) ++ letter ∷ [])) 8 && list_all is_name_byte ((b ∷ bs) ++ letter ∷ [])) _ (and_from (nat_le (length ((b ∷ bs) ++ letter ∷ [])) 8) (list_all is_name_byte ((b ∷ bs) ++ letter ∷ [])) (le-leb _ _ long) all) d.1

-- two names with different letters
differs : (base : List ℕ) (x y : ℕ) → x < y → bytes_eq (base ++ x ∷ []) (base ++ y ∷ []) ≡ false
differs [] x y less = ap (λ b. b && true) (ne_eqb x y (λ e. omega (arith, less, e)))
differs (b ∷ bs) x y less = ap (λ p. (b == b) && p) (differs bs x y less) ∙ and-false (b == b)

none_same : {X : Type 0} (base : List ℕ) (x letter : ℕ) (xs : List X) → x < letter → list_any (bytes_eq (base ++ x ∷ [])) (area_names base letter xs) ≡ false
none_same base x letter [] less = refl
none_same base x letter (a ∷ rest) less = (λ i. differs base x letter less i || none_same base x (letter + 1) rest (omega (arith, less)) i)

distinct : {X : Type 0} (base : List ℕ) (letter : ℕ) (xs : List X) → is_twice bytes_eq (area_names base letter xs) ≡ false
distinct base letter [] = refl
distinct base letter (a ∷ rest) = (λ i. none_same base letter (letter + 1) rest (omega arith) i || distinct base (letter + 1) rest i)

all_named : {X : Type 0} (base : List ℕ) (letter : ℕ) (xs : List X) → is_name base ≡ true → length base ≤ 7 → 65 ≤ letter → letter + length xs ≤ 91 → AllByRecursion (λ text. is_name text ≡ true) (area_names base letter xs)
all_named base letter [] named short low few = tt
all_named base letter (a ∷ rest) named short low few = (named_more base letter named short low (omega (arith, few)), all_named base (letter + 1) rest named short (omega (arith, low)) (omega (arith, few)))

pub names_count : {X : Type 0} (base : List ℕ) (letter : ℕ) (xs : List X) → length (area_names base letter xs) ≡ length xs
names_count base letter [] = refl
names_count base letter (a ∷ rest) = ap suc (names_count base (letter + 1) rest)

pub names_some : {X : Type 0} (base : List ℕ) (letter : ℕ) (xs : List X) → 1 ≤ length xs → is_empty (area_names base letter xs) ≡ false
names_some base letter [] some = absurd (let e : 1 ≤ 0 = some in omega (arith, e))
names_some base letter (a ∷ rest) some = refl

pub names_are : {X : Type 0} (base : List ℕ) (xs : List X) → is_name base ≡ true → length base ≤ 7 → 1 ≤ length xs → length xs ≤ 16
    → Fits (DistinctNames 16) (list_text (area_names base 65 xs)) × (items (list_text (area_names base 65 xs)) ≡ area_names base 65 xs)
names_are base xs named short some few =
    each_is_written.names_are 16 (area_names base 65 xs) (names_some base 65 xs some) (let e = names_count base 65 xs in omega (arith, e, few)) (all_named base 65 xs named short (omega arith) (omega (arith, few))) (distinct base 65 xs)

-- ---- addresses

each_address : (addresses : List ℕ) → AllByRecursion (λ a. a < 2 ^ 31) addresses → AllByRecursion IsAddressText (map absolute_text addresses)
each_address [] low = tt
each_address (a ∷ rest) low = (absolute a low.0 refl, each_address rest low.1)

pub map_some : {X Y : Type 0} (f : X → Y) (xs : List X) → is_empty xs ≡ false → is_empty (map f xs) ≡ false
map_some f [] some = absurd (let e : true ≡ false = some in cc)
map_some f (x ∷ xs) some = refl

pub addresses_are : (addresses : List ℕ) → AllByRecursion (λ a. a < 2 ^ 31) addresses → is_empty addresses ≡ false → length addresses ≤ 16
    → Fits (Addresses 16) (list_text (map absolute_text addresses)) × (items (list_text (map absolute_text addresses)) ≡ map absolute_text addresses)
addresses_are addresses low some few =
    each_is_written.addresses_are 16 (map absolute_text addresses) (map_some absolute_text addresses some) (let e = length-map addresses absolute_text in omega (arith, e, few)) (each_address addresses low)

pub locations_are : (addresses : List ℕ) → AllByRecursion (λ a. a < 2 ^ 31) addresses → map location (map absolute_text addresses) ≡ map Absolute addresses
locations_are [] low = refl
locations_are (a ∷ rest) low = (λ i. (each_is_written.absolute_is a low.0).1 i ∷ locations_are rest low.1 i)

-- as many of one kind as of another
pub same_count : (m n k : ℕ) → m ≡ k → n ≡ k → (m == n) ≡ true
same_count m n k e f = (λ i. e i == f i) ∙ self_equal k where
  self_equal : (n : ℕ) → (n == n) ≡ true
  self_equal n = grind (arith, nat_tests)
