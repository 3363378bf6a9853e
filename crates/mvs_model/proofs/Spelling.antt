-- A line that is put together from words is cut into them again.
use Rattle.std.proofs.Common.{◌≡◌, refl, ◌&&◌, not, true, false, Bool, ℕ, suc, ◌+◌, ◌-◌, ◌==◌, List, [], ◌∷◌, ◌++◌, take, ap, ◌∙◌, arith, nat_le, filter, slice_get, if◌then◌else◌}
use Rattle.std.specs.List.{list_all, before_first, position_or_len, slice_split, onto_first, AllByRecursion}
use Rattle.std.proofs.lemmas.Bool.{and_from, and_parts, not-true}
use Rattle.std.proofs.lemmas.Bool.Decides.{nat_tests}
use Rattle.std.proofs.lemmas.List.Folds.{list_all-append}
use Rattle.std.proofs.lemmas.List.Splits.{slice_split-cons_no}
use Rattle.mvs_model.specs.Reading.{is_empty, is_name, is_name_byte, is_blank_or_comment, words, operands_in, parts_within}
use Rattle.mvs_model.specs.Spelling.{joined, line_text, closes, IsWord, IsOperand, IsCut, CutApart}

-- ---- tests

abbrev pub printed : ℕ → Bool
printed b = nat_le 33 b && nat_le b 126

abbrev pub plain : ℕ → Bool
plain b = nat_le 32 b && nat_le b 126

pub all_append : (test : ℕ → Bool) (xs ys : List ℕ) → list_all test xs ≡ true → list_all test ys ≡ true → list_all test (xs ++ ys) ≡ true
all_append test xs ys e f = list_all-append test xs ys ∙ and_from (list_all test xs) (list_all test ys) e f

pub all_weaker : (test other : ℕ → Bool) → ((b : ℕ) → test b ≡ true → other b ≡ true) → (xs : List ℕ) → list_all test xs ≡ true → list_all other xs ≡ true
all_weaker test other weaker [] e = refl
all_weaker test other weaker (x ∷ xs) e = let a = and_parts (test x) (list_all test xs) e in and_from (other x) _ (weaker x a.0) (all_weaker test other weaker xs a.1)

printed_is_plain : (b : ℕ) → printed b ≡ true → plain b ≡ true
printed_is_plain b e = grind (arith, nat_tests)

printed_no_blank : (b : ℕ) → printed b ≡ true → (b == 32) ≡ false
printed_no_blank b e = grind (arith, nat_tests)

name_is_printed : (b : ℕ) → is_name_byte b ≡ true → printed b ≡ true
name_is_printed b e = grind (arith, nat_tests)

-- ---- cut at blanks

pub blank_after : (xs rest : List ℕ) → list_all printed xs ≡ true → slice_split (λ b. b == 32) (xs ++ 32 ∷ rest) ≡ xs ∷ slice_split (λ b. b == 32) rest
blank_after [] rest e = refl
blank_after (x ∷ xs) rest e =
    let a = and_parts (printed x) (list_all printed xs) e in
    slice_split-cons_no (λ b. b == 32) x (xs ++ 32 ∷ rest) (printed_no_blank x a.0) ∙ ap (onto_first x) (blank_after xs rest a.1)

pub no_blank : (xs : List ℕ) → list_all printed xs ≡ true → slice_split (λ b. b == 32) xs ≡ xs ∷ []
no_blank [] e = refl
no_blank (x ∷ xs) e =
    let a = and_parts (printed x) (list_all printed xs) e in
    slice_split-cons_no (λ b. b == 32) x xs (printed_no_blank x a.0) ∙ ap (onto_first x) (no_blank xs a.1)

three_kept : (a b c : List ℕ) → is_empty a ≡ false → is_empty b ≡ false → is_empty c ≡ false → filter (λ word. not (is_empty word)) (a ∷ b ∷ c ∷ []) ≡ a ∷ b ∷ c ∷ []
three_kept a b c h1 h2 h3 = grind (arith, nat_tests)

two_kept : (a b : List ℕ) → is_empty a ≡ false → is_empty b ≡ false → filter (λ word. not (is_empty word)) (a ∷ b ∷ [] ∷ []) ≡ a ∷ b ∷ []
two_kept a b h1 h2 = grind (arith, nat_tests)

pub words_are : (a b c : List ℕ) → IsWord a → IsWord b → IsWord c → words (a ++ (32 ∷ (b ++ (32 ∷ c)))) ≡ a ∷ b ∷ c ∷ []
words_are a b c h1 h2 h3 = grind (arith, nat_tests, blank_after, no_blank, three_kept)

pub before_blank : (xs rest : List ℕ) → list_all printed xs ≡ true → before_first (λ b. b == 32) (xs ++ 32 ∷ rest) ≡ xs
before_blank [] rest e = refl
before_blank (x ∷ xs) rest e =
    let a = and_parts (printed x) (list_all printed xs) e in
    let n = position_or_len (λ b. b == 32) (xs ++ 32 ∷ rest) in
    let one : 1 + n ≡ suc n = omega arith in
    ap (λ n. take n (x ∷ (xs ++ 32 ∷ rest))) (ap (λ t. if not t then 1 + n else 0) (printed_no_blank x a.0) ∙ one)
    ∙ ap (λ l. x ∷ l) (before_blank xs rest a.1)

-- ---- cut at commas

-- how many parentheses are open after a byte
abbrev opened_by : ℕ → ℕ → ℕ
opened_by opened b = if b == 40 then opened + 1 else (if b == 41 then opened - 1 else opened)

not_cut : (opened b : ℕ) (bs : List ℕ) (parts : List (List ℕ)) → ((b == 44) && (opened == 0)) ≡ false → parts_within (opened_by opened b) bs ≡ parts → parts_within opened (b ∷ bs) ≡ onto_first b parts
not_cut opened b bs parts e f = ap (λ t. if t then [] ∷ parts_within 0 bs else onto_first b (parts_within (opened_by opened b) bs)) e ∙ ap (onto_first b) f

last_part : (opened : ℕ) (xs : List ℕ) → closes opened xs ≡ true → parts_within opened xs ≡ xs ∷ []
last_part opened [] e = refl
last_part opened (x ∷ xs) e =
    let a = and_parts (not ((x == 44) && (opened == 0))) (closes (opened_by opened x) xs) e in
    not_cut opened x xs (xs ∷ []) (not-true _ a.0) (last_part (opened_by opened x) xs a.1)

part_after : (opened : ℕ) (xs rest : List ℕ) → closes opened xs ≡ true → parts_within opened (xs ++ 44 ∷ rest) ≡ xs ∷ parts_within 0 rest
part_after opened [] rest e = ap (λ t. if t then [] ∷ parts_within 0 rest else onto_first 44 (parts_within (opened_by opened 44) rest)) e
part_after opened (x ∷ xs) rest e =
    let a = and_parts (not ((x == 44) && (opened == 0))) (closes (opened_by opened x) xs) e in
    not_cut opened x (xs ++ 44 ∷ rest) (xs ∷ parts_within 0 rest) (not-true _ a.0) (part_after (opened_by opened x) xs rest a.1)

parts_are : (x : List ℕ) (xs : List (List ℕ)) → AllByRecursion IsOperand (x ∷ xs) → parts_within 0 (joined (x ∷ xs)) ≡ x ∷ xs
parts_are x [] is = last_part 0 x is.0.closed
parts_are x (y ∷ ys) is = part_after 0 x (joined (y ∷ ys)) is.0.closed ∙ ap (λ l. x ∷ l) (parts_are y ys is.1)

-- ---- the line

word_with : (a b : List ℕ) → IsWord a → list_all printed b ≡ true → IsWord (a ++ b)
word_with a b h1 h2 = grind (arith, nat_tests, all_append)

joined_word : (x : List ℕ) (xs : List (List ℕ)) → AllByRecursion IsOperand (x ∷ xs) → IsWord (joined (x ∷ xs))
joined_word x [] is = is.0.word
joined_word x (y ∷ ys) is = word_with x (44 ∷ joined (y ∷ ys)) is.0.word (joined_word y ys is.1).printed

-- a name is not empty, and of bytes of names
pub name_bytes : (name : List ℕ) → is_name name ≡ true → (is_empty name ≡ false) × (list_all is_name_byte name ≡ true)
name_bytes name h1 = grind (arith, nat_tests)

pub name_word : (name : List ℕ) → is_name name ≡ true → IsWord name
name_word name h1 = grind (arith, nat_tests, all_weaker, name_is_printed, name_bytes)

pub says_something : (name rest : List ℕ) → is_name name ≡ true → is_blank_or_comment (name ++ rest) ≡ false
says_something name rest h1 = grind (arith, nat_tests)

pub plain_word : (a : List ℕ) → IsWord a → list_all plain a ≡ true
plain_word a is = all_weaker printed plain printed_is_plain a is.printed

two_words : (a b : List ℕ) → IsWord a → IsWord b → words (a ++ (32 ∷ (b ++ (32 ∷ [])))) ≡ a ∷ b ∷ []
two_words a b h1 h2 = grind (arith, nat_tests, blank_after, two_kept)

-- a line without operands
cut_bare : (task operation : List ℕ) → is_name task ≡ true → IsWord operation → IsCut task operation [] (line_text task operation [])
cut_bare task operation h1 h2 = grind (arith, nat_tests, all_append, before_blank, name_word, says_something, plain_word, two_words)

pub cut_apart : CutApart
cut_apart task operation [] named is each = cut_bare task operation named is
cut_apart task operation (operand ∷ operands) named is each =
    let field = joined (operand ∷ operands) in
    let is_task = name_word task named in
    let is_field = joined_word operand operands each in
    let are = words_are task operation field is_task is is_field in
    record {
      plain = all_append plain task _ (plain_word task is_task) (all_append plain operation _ (plain_word operation is) (plain_word field is_field));
      says = says_something task _ named;
      task_is = before_blank task _ is_task.printed;
      operation_is = ap (λ l. slice_get l 1) are;
      operands_are = ap (λ l. operands_in (slice_get l 2)) are ∙ parts_are operand operands each;
    }
