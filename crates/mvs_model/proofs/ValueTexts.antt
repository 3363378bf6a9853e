-- Each value in range has a text that fits its kind and says the value.
use Rattle.std.proofs.Common.{◌≡◌, refl, ◌||◌, ◌&&◌, not, true, false, Bool, ℕ, zero, suc, ◌+◌, ◌-◌, ◌*◌, ◌/◌, ◌%◌, ◌^◌, ◌<◌, ◌≤◌, ◌==◌, List, [], ◌∷◌, ◌++◌, map, length, take, drop, sym, ap, subst, ◌∙◌, arith, append_assoc, length-append, pow-suc, decimal, nat_le, bytes_eq, codes, flat_map, slice_get, unwrap_or, if◌then◌else◌, le-leb}
use Rattle.std.specs.List.{list_all, list_any, after_first, before_first, onto_first, position_or_len, slice_split, AllByRecursion}
use Rattle.std.proofs.lemmas.Bool.{and_from, and_right, and_parts, not-true, or_right}
use Rattle.std.proofs.lemmas.Bool.Decides.{nat_tests}
use Rattle.std.proofs.lemmas.Fmt.{decimal_by_steps, length-decimal-le}
use Rattle.std.proofs.lemmas.List.Splits.{slice_split-cons_no}
use Rattle.std.proofs.lemmas.Grind.{common_steps}
use Rattle.mvs_model.proofs.Types.{Absolute, Named}
use Rattle.mvs_model.specs.Name.{padded}
use Rattle.mvs_model.specs.Texts.{glyph, hex, last_digits}
use Rattle.mvs_model.specs.Grammar.{Number, HexByte, Name, Address, Bytes, Pair, NumberOrPair, Numbers, DistinctNumbers, DistinctNames, Addresses}
use Rattle.mvs_model.specs.Reading.{has_key, hex_bytes, is_absolute, is_address, is_address_in_range, is_in_range, is_named, is_pair, is_pair_in_range, is_twice, largest, location, smallest, hex_digit, hex_number, is_digit, is_empty, is_equals, is_hex_digit, is_list, is_name, is_name_byte, is_number, is_plus, is_quoted, items, number, quoted}
use Rattle.mvs_model.specs.Spelling.{EachIsWritten, IsAddressText, absolute, area, within, Fits, FitsAlone, AreBetween, IsOperand, absolute_text, bytes_text, closes, joined, list_text, named_text, quoted_text}
use Rattle.mvs_model.proofs.ReadingLoops.{counted, counted_all, hex_counted, hex_counted_all}
use Rattle.mvs_model.proofs.Spelling.{all_append, all_weaker, name_bytes, printed}
use Rattle.mvs_model.proofs.Tests.{true_false}

-- ---- texts of simple bytes: printed, and none that parts or closes

abbrev pub simple : ℕ → Bool
simple b = nat_le 33 b && nat_le b 126 && not (b == 40) && not (b == 41) && not (b == 44) && not (b == 61)

-- What is known of a byte that is simple.
record Simple (b : ℕ) : Type 0 where
  is_printed : printed b ≡ true
  no_open : (b == 40) ≡ false
  no_close : (b == 41) ≡ false
  no_comma : (b == 44) ≡ false
  no_equals : is_equals b ≡ false

simple_is : (b : ℕ) → simple b ≡ true → Simple b
simple_is b e = grind (arith, nat_tests)

digit_simple : (b : ℕ) → is_digit b ≡ true → simple b ≡ true
digit_simple b e = grind (arith, nat_tests)

hex_simple : (b : ℕ) → is_hex_digit b ≡ true → simple b ≡ true
hex_simple b e = grind (arith, nat_tests)

name_simple : (b : ℕ) → is_name_byte b ≡ true → simple b ≡ true
name_simple b e = grind (arith, nat_tests)

name_no_plus : (b : ℕ) → is_name_byte b ≡ true → is_plus b ≡ false
name_no_plus b e = grind (arith, nat_tests)

abbrev pub AllSimple : List ℕ → Type 0
AllSimple text = list_all simple text ≡ true

-- it opens and closes nothing
closes_past : (opened : ℕ) (text rest : List ℕ) → AllSimple text → closes opened (text ++ rest) ≡ closes opened rest
closes_past opened [] rest e = refl
closes_past opened (b ∷ text) rest e =
    let a = and_parts (simple b) (list_all simple text) e in
    let s = simple_is b a.0 in
    (λ i. not (s.no_comma i && (opened == 0)) && closes (if s.no_open i then opened + 1 else (if s.no_close i then opened - 1 else opened)) (text ++ rest)) ∙ closes_past opened text rest a.1

closes_alone : (text : List ℕ) → AllSimple text → closes 0 text ≡ true
closes_alone [] e = refl
closes_alone (b ∷ text) e =
    let a = and_parts (simple b) (list_all simple text) e in
    let s = simple_is b a.0 in
    (λ i. not (s.no_comma i && (0 == 0)) && closes (if s.no_open i then 1 else (if s.no_close i then 0 - 1 else 0)) text) ∙ closes_alone text a.1

simple_printed : (text : List ℕ) → AllSimple text → list_all printed text ≡ true
simple_printed text e = all_weaker simple printed (λ b f. (simple_is b f).is_printed) text e

simple_keyless : (text : List ℕ) → AllSimple text → has_key text ≡ false
simple_keyless [] e = refl
simple_keyless (b ∷ text) e =
    let a = and_parts (simple b) (list_all simple text) e in
    ap (λ t. t || has_key text) (simple_is b a.0).no_equals ∙ simple_keyless text a.1

simple_operand : (text : List ℕ) → is_empty text ≡ false → AllSimple text → IsOperand text
simple_operand text some e = record { word = record { some = some; printed = simple_printed text e }; closed = closes_alone text e }

-- ---- decimal numbers

-- Digits that write a number.
pub record Writes (n : ℕ) (text : List ℕ) : Type 0 where
  pub some : is_empty text ≡ false
  pub digits : list_all is_digit text ≡ true
  pub value : number text ≡ n

counted_after : (so_far : ℕ) (text : List ℕ) (b : ℕ) → counted so_far (text ++ (b ∷ [])) ≡ counted so_far text * 10 + (b - 48)
counted_after so_far [] b = refl
counted_after so_far (c ∷ text) b = counted_after (so_far * 10 + (c - 48)) text b

number_after : (text : List ℕ) (b : ℕ) → number (text ++ (b ∷ [])) ≡ number text * 10 + (b - 48)
number_after text b = sym (counted_all (text ++ (b ∷ []))) ∙ counted_after 0 text b ∙ ap (λ n. n * 10 + (b - 48)) (counted_all text)

one_digit : (n : ℕ) → n < 10 → Writes n ((48 + n) ∷ [])
one_digit n small = record { some = refl; digits = (let e : is_digit (48 + n) ≡ true = grind (arith, nat_tests) in and_from (is_digit (48 + n)) true e refl); value = (let e : (48 + n - 48) * 1 + 0 ≡ n = omega arith in e) }

append_some : (text more : List ℕ) → is_empty text ≡ false → is_empty (text ++ more) ≡ false
append_some text more h1 = grind (arith, nat_tests)

digit_more : (n : ℕ) (text : List ℕ) → 10 ≤ n → Writes (n / 10) text → Writes n (text ++ ((48 + n % 10) ∷ []))
digit_more n text large w = record {
  some = append_some text _ w.some;
  digits = all_append is_digit text _ w.digits (let e : is_digit (48 + n % 10) ≡ true = grind (arith, nat_tests) in and_from (is_digit (48 + n % 10)) true e refl);
  value = number_after text (48 + n % 10) ∙ ap (λ q. q * 10 + (48 + n % 10 - 48)) w.value ∙ (let e : n / 10 * 10 + (48 + n % 10 - 48) ≡ n = omega arith in e);
}

pub decimal_writes : (n : ℕ) → n < 2 ^ 64 → Writes n (decimal n)
decimal_writes n small = decimal_by_steps Writes one_digit digit_more n small

-- ---- hexadecimal digits

hex_counted_after : (so_far : ℕ) (text : List ℕ) (b : ℕ) → hex_counted so_far (text ++ (b ∷ [])) ≡ hex_counted so_far text * 16 + hex_digit b
hex_counted_after so_far [] b = refl
hex_counted_after so_far (c ∷ text) b = hex_counted_after (so_far * 16 + hex_digit c) text b

hex_number_after : (text : List ℕ) (b : ℕ) → hex_number (text ++ (b ∷ [])) ≡ hex_number text * 16 + hex_digit b
hex_number_after text b = sym (hex_counted_all (text ++ (b ∷ []))) ∙ hex_counted_after 0 text b ∙ ap (λ n. n * 16 + hex_digit b) (hex_counted_all text)

-- the glyph of a digit is one, and says it
glyph_says : (d : ℕ) → d < 16 → (is_hex_digit (glyph d) ≡ true) × (hex_digit (glyph d) ≡ d)
glyph_says d h1 = grind (arith, nat_tests)

-- So many hexadecimal digits that write a number.
pub record WritesHex (k n : ℕ) (text : List ℕ) : Type 0 where
  pub many : length text ≡ k
  pub digits : list_all is_hex_digit text ≡ true
  pub value : hex_number text ≡ n

pub hex_writes : (k n : ℕ) → n < 16 ^ k → WritesHex k n (hex k n)
unfolding last_digits
hex_writes zero n small = record { many = refl; digits = refl; value = (let e : 0 ≡ n = omega arith in e) }
hex_writes (suc k) n small =
    let w = hex_writes k (n / 16) (omega (arith, pow-suc 16 k)) in
    let g = glyph_says (n % 16) (omega arith) in
    record {
      many = length-append (hex k (n / 16)) (glyph (n % 16) ∷ []) ∙ (let e : length (hex k (n / 16)) + 1 ≡ suc k = omega (arith, w.many) in e);
      digits = all_append is_hex_digit (hex k (n / 16)) (glyph (n % 16) ∷ []) w.digits (and_from (is_hex_digit (glyph (n % 16))) true g.0 refl);
      value = hex_number_after (hex k (n / 16)) (glyph (n % 16)) ∙ (λ i. w.value i * 16 + g.1 i) ∙ (let e : n / 16 * 16 + n % 16 ≡ n = omega arith in e);
    }

-- ---- lists

front_of : {X : Type 0} (xs ys : List X) → take (length xs) (xs ++ ys) ≡ xs
front_of xs ys = grind (arith, common_steps)

back_of : {X : Type 0} (xs ys : List X) → drop (length xs) (xs ++ ys) ≡ ys
back_of xs ys = grind (arith, common_steps)

abbrev EachSimple : List (List ℕ) → Type 0
EachSimple texts = AllByRecursion AllSimple texts

comma_after : (text rest : List ℕ) → AllSimple text → slice_split (λ b. b == 44) (text ++ (44 ∷ rest)) ≡ text ∷ slice_split (λ b. b == 44) rest
comma_after [] rest e = refl
comma_after (b ∷ text) rest e =
    let a = and_parts (simple b) (list_all simple text) e in
    slice_split-cons_no (λ b. b == 44) b (text ++ (44 ∷ rest)) (simple_is b a.0).no_comma ∙ ap (onto_first b) (comma_after text rest a.1)

no_comma : (text : List ℕ) → AllSimple text → slice_split (λ b. b == 44) text ≡ text ∷ []
no_comma [] e = refl
no_comma (b ∷ text) e =
    let a = and_parts (simple b) (list_all simple text) e in
    slice_split-cons_no (λ b. b == 44) b text (simple_is b a.0).no_comma ∙ ap (onto_first b) (no_comma text a.1)

split_joined : (text : List ℕ) (texts : List (List ℕ)) → EachSimple (text ∷ texts) → slice_split (λ b. b == 44) (joined (text ∷ texts)) ≡ text ∷ texts
split_joined text [] each = no_comma text each.0
split_joined text (next ∷ texts) each = comma_after text (joined (next ∷ texts)) each.0 ∙ ap (λ l. text ∷ l) (split_joined next texts each.1)

joined_past : (text : List ℕ) (texts : List (List ℕ)) (rest : List ℕ) → EachSimple (text ∷ texts) → closes 1 (joined (text ∷ texts) ++ rest) ≡ closes 1 rest
joined_past text [] rest each = closes_past 1 text rest each.0
joined_past text (next ∷ texts) rest each =
    ap (closes 1) (append_assoc text (44 ∷ joined (next ∷ texts)) rest) ∙ closes_past 1 text (44 ∷ (joined (next ∷ texts) ++ rest)) each.0 ∙ joined_past next texts rest each.1

joined_printed : (text : List ℕ) (texts : List (List ℕ)) → EachSimple (text ∷ texts) → list_all printed (joined (text ∷ texts)) ≡ true
joined_printed text [] each = simple_printed text each.0
joined_printed text (next ∷ texts) each = all_append printed text (44 ∷ joined (next ∷ texts)) (simple_printed text each.0) (joined_printed next texts each.1)

-- What a list of simple texts is.
pub record Lists (texts : List (List ℕ)) : Type 0 where
  pub operand : IsOperand (list_text texts)
  pub list : is_list (list_text texts) ≡ true
  pub items_are : items (list_text texts) ≡ texts

pub lists : (text : List ℕ) (texts : List (List ℕ)) → EachSimple (text ∷ texts) → Lists (text ∷ texts)
lists text texts each =
    let j = joined (text ∷ texts) in
    let long : length (j ++ (41 ∷ [])) ≡ suc (length j) = length-append j (41 ∷ []) ∙ (let e : length j + 1 ≡ suc (length j) = omega arith in e) in
    let inner : suc (length (j ++ (41 ∷ []))) - 2 ≡ length j = ap (λ n. suc n - 2) long ∙ (let e : suc (suc (length j)) - 2 ≡ length j = omega arith in e) in
    let last : suc (length (j ++ (41 ∷ []))) - 1 ≡ suc (length j) = ap (λ n. suc n - 1) long ∙ (let e : suc (suc (length j)) - 1 ≡ suc (length j) = omega arith in e) in
    let two : nat_le 2 (suc (length (j ++ (41 ∷ [])))) ≡ true = ap (λ n. nat_le 2 (suc n)) long ∙ (let e : nat_le 2 (suc (suc (length j))) ≡ true = grind (arith, nat_tests) in e) in
    record {
      operand = record {
        word = record { some = refl; printed = all_append printed j (41 ∷ []) (joined_printed text texts each) refl };
        closed = joined_past text texts (41 ∷ []) each;
      };
      list = (λ i. two i && true && bytes_eq (drop (last i) (40 ∷ (j ++ (41 ∷ [])))) (codes ")")) ∙ ap (λ l. bytes_eq l (codes ")")) (back_of j (41 ∷ []));
      items_are = ap (λ n. slice_split (λ b. b == 44) (take n (j ++ (41 ∷ [])))) inner ∙ ap (slice_split (λ b. b == 44)) (front_of j (41 ∷ [])) ∙ split_joined text texts each;
    }

-- ---- X'..'

pub record Quotes (digits : List ℕ) : Type 0 where
  pub quotes : is_quoted (quoted_text digits) ≡ true
  pub inside : quoted (quoted_text digits) ≡ digits
  pub all_simple : AllSimple (quoted_text digits)

pub quoting : (digits : List ℕ) → list_all is_hex_digit digits ≡ true → Quotes digits
quoting digits e =
    let long : length (digits ++ (39 ∷ [])) ≡ suc (length digits) = length-append digits (39 ∷ []) ∙ (let e : length digits + 1 ≡ suc (length digits) = omega arith in e) in
    let inner : suc (suc (length (digits ++ (39 ∷ [])))) - 3 ≡ length digits = ap (λ n. suc (suc n) - 3) long ∙ (let e : suc (suc (suc (length digits))) - 3 ≡ length digits = omega arith in e) in
    let last : suc (suc (length (digits ++ (39 ∷ [])))) - 1 ≡ suc (suc (length digits)) = ap (λ n. suc (suc n) - 1) long ∙ (let e : suc (suc (suc (length digits))) - 1 ≡ suc (suc (length digits)) = omega arith in e) in
    let three : nat_le 3 (suc (suc (length (digits ++ (39 ∷ []))))) ≡ true = ap (λ n. nat_le 3 (suc (suc n))) long ∙ (let e : nat_le 3 (suc (suc (suc (length digits)))) ≡ true = grind (arith, nat_tests) in e) in
    record {
      quotes = (λ i. three i && true && bytes_eq (drop (last i) (88 ∷ 39 ∷ (digits ++ (39 ∷ [])))) (codes "'")) ∙ ap (λ l. bytes_eq l (codes "'")) (back_of digits (39 ∷ []));
      inside = ap (λ n. take n (digits ++ (39 ∷ []))) inner ∙ front_of digits (39 ∷ []);
      all_simple = all_append simple digits (39 ∷ []) (all_weaker is_hex_digit simple hex_simple digits e) refl;
    }

-- ---- numbers

short_decimal : (n : ℕ) → n < 10 ^ 10 → length (decimal n) ≤ 10
short_decimal n small = length-decimal-le 10 n (omega arith) (omega arith) (omega arith)

number_text : (n : ℕ) → n < 10 ^ 10 → is_number (decimal n) ≡ true
number_text n small = let w = decimal_writes n (omega arith) in and_from (not (is_empty (decimal n))) _ (ap not w.some) w.digits

in_range : (least most n : ℕ) → least ≤ n → n ≤ most → n < 10 ^ 10 → is_in_range least most (decimal n) ≡ true
in_range least most n low high small =
    let w = decimal_writes n (omega arith) in
    and_from (nat_le (length (decimal n)) 10 && nat_le least (number (decimal n))) _
    (and_from (nat_le (length (decimal n)) 10) _ (le-leb _ 10 (short_decimal n small)) (ap (nat_le least) w.value ∙ le-leb least n low))
    (ap (λ m. nat_le m most) w.value ∙ le-leb n most high)

decimal_simple : (n : ℕ) → n < 10 ^ 10 → AllSimple (decimal n)
decimal_simple n small = all_weaker is_digit simple digit_simple (decimal n) (decimal_writes n (omega arith)).digits

-- digits in their range, whatever zeros stand in front
pub digits_fit : (least most : ℕ) (text : List ℕ) → is_number text ≡ true → is_in_range least most text ≡ true → FitsAlone (Number least most) text
digits_fit least most text e range =
    let a = and_parts (not (is_empty text)) (list_all is_digit text) e in
    let s = all_weaker is_digit simple digit_simple text a.1 in
    record {
      fits = record { of_kind = e; within = range; once = refl; operand = simple_operand text (not-true _ a.0) s };
      no_key = simple_keyless text s;
    }

number_is : (least most n : ℕ) → least ≤ n → n ≤ most → most < 10 ^ 10 → FitsAlone (Number least most) (decimal n) × (number (decimal n) ≡ n)
number_is least most n low high few =
    let small : n < 10 ^ 10 = omega arith in
    (digits_fit least most (decimal n) (number_text n small) (in_range least most n low high small), (decimal_writes n (omega arith)).value)

-- ---- a byte

some_of : (text : List ℕ) (k : ℕ) → length text ≡ suc k → is_empty text ≡ false
some_of text k h1 = grind (arith, common_steps)

byte_is : (b : ℕ) → b < 256 → FitsAlone HexByte (hex 2 b) × (hex_number (hex 2 b) ≡ b)
byte_is b small =
    let w = hex_writes 2 b (omega arith) in
    let s = all_weaker is_hex_digit simple hex_simple (hex 2 b) w.digits in (
      record {
        fits = record { of_kind = and_from (length (hex 2 b) == 2) _ (ap (λ n. n == 2) w.many) w.digits; within = refl; once = refl; operand = simple_operand (hex 2 b) (some_of (hex 2 b) 1 w.many) s };
        no_key = simple_keyless (hex 2 b) s;
      },
      w.value,
    )

-- ---- names and addresses

name_all : (text : List ℕ) → is_name text ≡ true → AllSimple text
name_all text e = all_weaker is_name_byte simple name_simple text (name_bytes text e).1

name_is : (text : List ℕ) → is_name text ≡ true → FitsAlone Name text
name_is text e = record {
  fits = record { of_kind = e; within = refl; once = refl; operand = simple_operand text (name_bytes text e).0 (name_all text e) };
  no_key = simple_keyless text (name_all text e);
}

absolute_simple : (a : ℕ) → a < 2 ^ 31 → AllSimple (absolute_text a)
absolute_simple a small = (quoting (hex 8 a) (hex_writes 8 a (omega arith)).digits).all_simple

absolute_is : (a : ℕ) → a < 2 ^ 31 → FitsAlone Address (absolute_text a) × (location (absolute_text a) ≡ Absolute a)
absolute_is a small =
    let text = absolute_text a in
    let w = hex_writes 8 a (omega arith) in
    let q = quoting (hex 8 a) w.digits in
    let eight : (nat_le 1 (length (hex 8 a)) && nat_le (length (hex 8 a)) 8) ≡ true = ap (λ n. nat_le 1 n && nat_le n 8) w.many in
    let range : nat_le a 0x7FFFFFFF ≡ true = le-leb a 0x7FFFFFFF (omega arith) in (
      record {
        fits = record {
          of_kind = (λ i. if q.quotes i then is_absolute (q.inside i) else is_named text) ∙ and_from (nat_le 1 (length (hex 8 a)) && nat_le (length (hex 8 a)) 8) _ eight w.digits;
          within = (λ i. if q.quotes i then nat_le (hex_number (q.inside i)) 0x7FFFFFFF else (not (list_any is_plus text) || is_in_range 0 33554431 (after_first is_plus text))) ∙ ap (λ n. nat_le n 0x7FFFFFFF) w.value ∙ range;
          once = refl;
          operand = simple_operand text refl q.all_simple;
        };
        no_key = simple_keyless text q.all_simple;
      },
      (λ i. if q.quotes i then Absolute (hex_number (q.inside i)) else Named (padded (before_first is_plus text)) (number (after_first is_plus text))) ∙ ap (λ n. Absolute n) w.value,
    )

-- the plus sign after a name
plus_at : (name text : List ℕ) → list_all is_name_byte name ≡ true → position_or_len is_plus (name ++ (43 ∷ text)) ≡ length name
plus_at [] text e = refl
plus_at (b ∷ name) text e =
    let a = and_parts (is_name_byte b) (list_all is_name_byte name) e in
    ap (λ t. if not t then 1 + position_or_len is_plus (name ++ (43 ∷ text)) else 0) (name_no_plus b a.0) ∙ ap (λ n. 1 + n) (plus_at name text a.1) ∙ omega arith

has_plus : (name text : List ℕ) → list_any is_plus (name ++ (43 ∷ text)) ≡ true
has_plus name text = grind (arith, common_steps, or_right)

after_plus : (name text : List ℕ) → drop (suc (length name)) (name ++ (43 ∷ text)) ≡ text
after_plus [] text = refl
after_plus (b ∷ name) text = after_plus name text

-- a name is not the beginning of X'..'
no_quote_at : (b c : ℕ) (text : List ℕ) → list_all is_name_byte (b ∷ c ∷ text) ≡ true → ((b == 88) && ((c == 39) && true)) ≡ false
no_quote_at b c text h1 = grind (arith, nat_tests)

no_quote : (name text : List ℕ) → is_empty name ≡ false → list_all is_name_byte name ≡ true → bytes_eq (take 2 (name ++ (43 ∷ text))) (codes "X'") ≡ false
no_quote [] text some e = true_false some
no_quote (b ∷ []) text some e = and_right (b == 88) false refl
no_quote (b ∷ c ∷ name) text some e = no_quote_at b c name e

not_quoted : (a b c : Bool) → b ≡ false → (a && b && c) ≡ false
not_quoted a b c e = ap (λ t. a && t && c) e ∙ (elim a as (λ a. (a && false && c) ≡ false) [ true ↦ refl | false ↦ refl ])

distance_simple : (name digits : List ℕ) → is_name name ≡ true → list_all is_digit digits ≡ true → AllSimple (name ++ (43 ∷ digits))
distance_simple name digits e all = all_append simple name (43 ∷ digits) (name_all name e) (all_weaker is_digit simple digit_simple digits all)

-- a name with a distance in digits
pub name_with : (name digits : List ℕ) → is_name name ≡ true → is_number digits ≡ true → is_in_range 0 33554431 digits ≡ true
    → FitsAlone Address (name ++ (43 ∷ digits)) × (location (name ++ (43 ∷ digits)) ≡ Named (padded name) (number digits))
name_with name digits e figures range =
    let text = name ++ (43 ∷ digits) in
    let bytes = name_bytes name e in
    let d = and_parts (not (is_empty digits)) (list_all is_digit digits) figures in
    let unquoted : is_quoted text ≡ false = not_quoted (nat_le 3 (length text)) _ _ (no_quote name digits bytes.0 bytes.1) in
    let before : before_first is_plus text ≡ name = ap (λ k. take k text) (plus_at name digits bytes.1) ∙ front_of name (43 ∷ digits) in
    let one : length name + 1 ≡ suc (length name) = omega arith in
    let after : after_first is_plus text ≡ digits = ap (λ k. drop (k + 1) text) (plus_at name digits bytes.1) ∙ ap (λ k. drop k text) one ∙ after_plus name digits in
    let s : AllSimple text = distance_simple name digits e d.1 in
    let some : is_empty text ≡ false = append_some name (43 ∷ digits) bytes.0 in (
      record {
        fits = record {
          of_kind = (λ i. if unquoted i then is_absolute (quoted text) else (is_name (before i) && (not (has_plus name digits i) || is_number (after i)))) ∙ and_from (is_name name) _ e figures;
          within = (λ i. if unquoted i then nat_le (hex_number (quoted text)) 0x7FFFFFFF else (not (has_plus name digits i) || is_in_range 0 33554431 (after i))) ∙ range;
          once = refl;
          operand = simple_operand text some s;
        };
        no_key = simple_keyless text s;
      },
      (λ i. if unquoted i then Absolute (hex_number (quoted text)) else Named (padded (before i)) (number (after i))),
    )

named_is : (name : List ℕ) (n : ℕ) → is_name name ≡ true → n < 2 ^ 25 → FitsAlone Address (named_text name n) × (location (named_text name n) ≡ Named (padded name) n)
named_is name n e small =
    let is = name_with name (decimal n) e (number_text n (omega arith)) (in_range 0 33554431 n (omega arith) (omega arith) (omega arith)) in
    (is.0, is.1 ∙ ap (λ m. Named (padded name) m) (decimal_writes n (omega arith)).value)

-- a name alone
alone_unquoted : (name : List ℕ) → is_empty name ≡ false → list_all is_name_byte name ≡ true → bytes_eq (take 2 name) (codes "X'") ≡ false
alone_unquoted name h1 h2 = grind (arith, nat_tests)

no_plus : (name : List ℕ) → list_all is_name_byte name ≡ true → list_any is_plus name ≡ false
no_plus [] e = refl
no_plus (b ∷ name) e =
    let a = and_parts (is_name_byte b) (list_all is_name_byte name) e in
    ap (λ t. t || list_any is_plus name) (name_no_plus b a.0) ∙ no_plus name a.1

plus_nowhere : (name : List ℕ) → list_all is_name_byte name ≡ true → position_or_len is_plus name ≡ length name
plus_nowhere [] e = refl
plus_nowhere (b ∷ name) e =
    let a = and_parts (is_name_byte b) (list_all is_name_byte name) e in
    ap (λ t. if not t then 1 + position_or_len is_plus name else 0) (name_no_plus b a.0) ∙ ap (λ n. 1 + n) (plus_nowhere name a.1) ∙ omega arith

take_whole : (text : List ℕ) → take (length text) text ≡ text
take_whole text = grind (arith, common_steps)

none_beyond : (text : List ℕ) → drop (suc (length text)) text ≡ []
none_beyond text = grind (arith, common_steps)

pub name_alone : (name : List ℕ) → is_name name ≡ true → FitsAlone Address name × (location name ≡ Named (padded name) 0)
name_alone name e =
    let bytes = name_bytes name e in
    let unquoted : is_quoted name ≡ false = not_quoted (nat_le 3 (length name)) _ _ (alone_unquoted name bytes.0 bytes.1) in
    let before : before_first is_plus name ≡ name = ap (λ k. take k name) (plus_nowhere name bytes.1) ∙ take_whole name in
    let one : length name + 1 ≡ suc (length name) = omega arith in
    let after : after_first is_plus name ≡ [] = ap (λ k. drop (k + 1) name) (plus_nowhere name bytes.1) ∙ ap (λ k. drop k name) one ∙ none_beyond name in
    let none = no_plus name bytes.1 in (
      record {
        fits = record {
          of_kind = (λ i. if unquoted i then is_absolute (quoted name) else (is_name (before i) && (not (none i) || is_number (after i)))) ∙ and_from (is_name name) _ e refl;
          within = (λ i. if unquoted i then nat_le (hex_number (quoted name)) 0x7FFFFFFF else (not (none i) || is_in_range 0 33554431 (after i)));
          once = refl;
          operand = simple_operand name bytes.0 (name_all name e);
        };
        no_key = simple_keyless name (name_all name e);
      },
      (λ i. if unquoted i then Absolute (hex_number (quoted name)) else Named (padded (before i)) (number (after i))),
    )

-- ---- bytes

first_pair : (text rest : List ℕ) → length text ≡ 2 → hex_bytes (text ++ rest) ≡ hex_number text ∷ hex_bytes rest
first_pair [] rest e = absurd (omega arith)
first_pair (b ∷ []) rest e = absurd (omega arith)
first_pair (b ∷ c ∷ []) rest e = refl
first_pair (b ∷ c ∷ d ∷ text) rest e = absurd (omega arith)

-- the digits of some bytes
record Digits (bytes text : List ℕ) : Type 0 where
  many : length text ≡ 2 * length bytes
  digits : list_all is_hex_digit text ≡ true
  values : hex_bytes text ≡ bytes

digits_of : (bytes : List ℕ) → AllByRecursion (λ b. b < 256) bytes → Digits bytes (flat_map (hex 2) bytes)
digits_of [] small = record { many = refl; digits = refl; values = refl }
digits_of (b ∷ bytes) small =
    let w = hex_writes 2 b (let l : b < 256 = small.0 in omega arith) in
    let d = digits_of bytes small.1 in
    record {
      many = length-append (hex 2 b) (flat_map (hex 2) bytes) ∙ (let e : length (hex 2 b) + length (flat_map (hex 2) bytes) ≡ 2 * suc (length bytes) = omega (arith, w.many, d.many) in e);
      digits = all_append is_hex_digit (hex 2 b) (flat_map (hex 2) bytes) w.digits d.digits;
      values = first_pair (hex 2 b) (flat_map (hex 2) bytes) w.many ∙ (λ i. w.value i ∷ d.values i);
    }

-- digits between quotes, an even number of them
pub bytes_fit : (most : ℕ) (digits : List ℕ) → list_all is_hex_digit digits ≡ true → is_empty digits ≡ false → (length digits % 2 == 0) ≡ true → length digits ≤ 2 * most → FitsAlone (Bytes most) (quoted_text digits)
bytes_fit most digits are some even few =
    let q = quoting digits are in
    let room : nat_le (length digits) (2 * most) ≡ true = le-leb _ (2 * most) few in
    record {
      fits = record {
        of_kind = (λ i. q.quotes i && not (is_empty (q.inside i)) && (length (q.inside i) % 2 == 0) && list_all is_hex_digit (q.inside i)) ∙ (λ i. not (some i) && even i && are i);
        within = ap (λ l. nat_le (length l) (2 * most)) q.inside ∙ room;
        once = refl;
        operand = simple_operand (quoted_text digits) refl q.all_simple;
      };
      no_key = simple_keyless (quoted_text digits) q.all_simple;
    }

bytes_are : (most : ℕ) (bytes : List ℕ) → is_empty bytes ≡ false → length bytes ≤ most → AllByRecursion (λ b. b < 256) bytes
    → FitsAlone (Bytes most) (bytes_text bytes) × (hex_bytes (quoted (bytes_text bytes)) ≡ bytes)
bytes_are most [] some few small = true_false some
bytes_are most (b ∷ bytes) some few small =
    let digits = flat_map (hex 2) (b ∷ bytes) in
    let d = digits_of (b ∷ bytes) small in
    let there : is_empty digits ≡ false = some_of digits (1 + 2 * length bytes) (d.many ∙ omega arith) in
    let even : (length digits % 2 == 0) ≡ true = ap (λ n. n % 2 == 0) d.many ∙ (let e : (2 * suc (length bytes) % 2 == 0) ≡ true = grind (arith, nat_tests) in e) in
    let room : length digits ≤ 2 * most = (let l : suc (length bytes) ≤ most = few in omega (arith, d.many)) in
    (bytes_fit most digits d.digits there even room, ap hex_bytes (quoting digits d.digits).inside ∙ d.values)

-- ---- lengths

pair_is : (least most large small : ℕ) → least ≤ small → small ≤ large → large ≤ most → most < 10 ^ 10
    → Fits (Pair least most) (list_text (decimal large ∷ decimal small ∷ [])) × Fits (NumberOrPair least most) (list_text (decimal large ∷ decimal small ∷ []))
    × (largest (list_text (decimal large ∷ decimal small ∷ [])) ≡ large) × (smallest (list_text (decimal large ∷ decimal small ∷ [])) ≡ small)
pair_is least most large small low ordered high few =
    let text = list_text (decimal large ∷ decimal small ∷ []) in
    let is = lists (decimal large) (decimal small ∷ []) (decimal_simple large (omega arith), (decimal_simple small (omega arith), tt)) in
    let w = decimal_writes large (omega arith) in
    let v = decimal_writes small (omega arith) in
    let a = and_from (is_number (decimal large)) _ (number_text large (omega arith)) (and_from (is_number (decimal small)) true (number_text small (omega arith)) refl) in
    let b = and_from (is_in_range least most (decimal large)) _ (in_range least most large (omega arith) high (omega arith)) (and_from (is_in_range least most (decimal small)) true (in_range least most small low (omega arith) (omega arith)) refl) in
    let most_is : largest text ≡ large = (λ i. if is.list i then number (unwrap_or (slice_get (is.items_are i) 0) []) else number text) ∙ w.value in
    let least_is : smallest text ≡ small = (λ i. if is.list i then number (unwrap_or (slice_get (is.items_are i) 1) []) else number text) ∙ v.value in
    let pair : is_pair text ≡ true = (λ i. is.list i && (length (is.items_are i) == 2) && list_all is_number (is.items_are i)) ∙ a in
    let range : is_pair_in_range least most text ≡ true =
    (λ i. list_all (is_in_range least most) (is.items_are i) && nat_le (least_is i) (most_is i)) ∙ and_from (list_all (is_in_range least most) (decimal large ∷ decimal small ∷ [])) _ b (le-leb small large ordered) in (
      record { of_kind = pair; within = range; once = refl; operand = is.operand },
      record { of_kind = pair; within = ap (λ t. if t then is_pair_in_range least most text else is_in_range least most text) is.list ∙ range; once = refl; operand = is.operand },
      most_is,
      least_is,
    )

pub not_list : (text : List ℕ) → list_all is_digit text ≡ true → is_empty text ≡ false → is_list text ≡ false
not_list text h1 h2 = grind (arith, nat_tests)

one_length : (least most n : ℕ) → least ≤ n → n ≤ most → most < 10 ^ 10 → Fits (NumberOrPair least most) (decimal n) × (largest (decimal n) ≡ n) × (smallest (decimal n) ≡ n)
one_length least most n low high few =
    let small : n < 10 ^ 10 = omega arith in
    let w = decimal_writes n (omega arith) in
    let no = not_list (decimal n) w.digits w.some in (
      record {
        of_kind = ap (λ t. t || is_pair (decimal n)) (number_text n small);
        within = ap (λ t. if t then is_pair_in_range least most (decimal n) else is_in_range least most (decimal n)) no ∙ in_range least most n low high small;
        once = refl;
        operand = simple_operand (decimal n) w.some (decimal_simple n small);
      },
      (λ i. if no i then number (unwrap_or (slice_get (items (decimal n)) 0) []) else number (decimal n)) ∙ w.value,
      (λ i. if no i then number (unwrap_or (slice_get (items (decimal n)) 1) []) else number (decimal n)) ∙ w.value,
    )

-- ---- lists

-- the texts of some numbers
record Decimals (least most : ℕ) (numbers : List ℕ) : Type 0 where
  each_simple : EachSimple (map decimal numbers)
  each_number : list_all is_number (map decimal numbers) ≡ true
  each_within : list_all (is_in_range least most) (map decimal numbers) ≡ true
  values : map number (map decimal numbers) ≡ numbers
  many : length (map decimal numbers) ≡ length numbers

decimals : (least most : ℕ) (numbers : List ℕ) → most < 10 ^ 10 → AreBetween least most numbers → Decimals least most numbers
decimals least most [] few are = record { each_simple = tt; each_number = refl; each_within = refl; values = refl; many = refl }
decimals least most (n ∷ numbers) few are =
    let d = decimals least most numbers few are.1 in
    let low : least ≤ n = are.0.0 in
    let high : n ≤ most = are.0.1 in
    let small : n < 10 ^ 10 = omega arith in
    record {
      each_simple = (decimal_simple n small, d.each_simple);
      each_number = and_from (is_number (decimal n)) _ (number_text n small) d.each_number;
      each_within = and_from (is_in_range least most (decimal n)) _ (in_range least most n low high small) d.each_within;
      values = (λ i. (decimal_writes n (let l : n < 2 ^ 64 = omega arith in l)).value i ∷ d.values i);
      many = ap suc d.many;
    }

numbers_are : (count least most : ℕ) (numbers : List ℕ) → is_empty numbers ≡ false → length numbers ≤ count → AreBetween least most numbers → most < 10 ^ 10
    → Fits (Numbers count least most) (list_text (map decimal numbers)) × (map number (items (list_text (map decimal numbers))) ≡ numbers)
numbers_are count least most [] some room are few = true_false some
numbers_are count least most (n ∷ numbers) some room are few =
    let d = decimals least most (n ∷ numbers) few are in
    let is = lists (decimal n) (map decimal numbers) d.each_simple in
    let fits : nat_le (length (map decimal (n ∷ numbers))) count ≡ true = ap (λ k. nat_le k count) d.many ∙ le-leb _ count room in (
      record {
        of_kind = (λ i. is.list i && list_all is_number (is.items_are i)) ∙ d.each_number;
        within = (λ i. nat_le (length (is.items_are i)) count && list_all (is_in_range least most) (is.items_are i)) ∙ and_from (nat_le (length (map decimal (n ∷ numbers))) count) _ fits d.each_within;
        once = refl;
        operand = is.operand;
      },
      ap (map number) is.items_are ∙ d.values,
    )

distinct_are : (least most : ℕ) (numbers : List ℕ) → is_empty numbers ≡ false → AreBetween least most numbers → most < 10 ^ 10 → is_twice ◌==◌ numbers ≡ false
    → Fits (DistinctNumbers least most) (list_text (map decimal numbers)) × (map number (items (list_text (map decimal numbers))) ≡ numbers)
distinct_are least most [] some are few once = true_false some
distinct_are least most (n ∷ numbers) some are few once =
    let d = decimals least most (n ∷ numbers) few are in
    let is = lists (decimal n) (map decimal numbers) d.each_simple in
    let values : map number (items (list_text (map decimal (n ∷ numbers)))) ≡ n ∷ numbers = ap (map number) is.items_are ∙ d.values in (
      record {
        of_kind = (λ i. is.list i && list_all is_number (is.items_are i)) ∙ d.each_number;
        within = ap (λ l. list_all (is_in_range least most) l) is.items_are ∙ d.each_within;
        once = ap (is_twice ◌==◌) values ∙ once;
        operand = is.operand;
      },
      values,
    )

names_simple : (texts : List (List ℕ)) → AllByRecursion (λ text. is_name text ≡ true) texts → EachSimple texts
names_simple [] are = tt
names_simple (text ∷ texts) are = (name_all text are.0, names_simple texts are.1)

each_name : (texts : List (List ℕ)) → AllByRecursion (λ text. is_name text ≡ true) texts → list_all is_name texts ≡ true
each_name [] are = refl
each_name (text ∷ texts) are = and_from (is_name text) _ are.0 (each_name texts are.1)

names_are : (count : ℕ) (texts : List (List ℕ)) → is_empty texts ≡ false → length texts ≤ count → AllByRecursion (λ text. is_name text ≡ true) texts → is_twice bytes_eq texts ≡ false
    → Fits (DistinctNames count) (list_text texts) × (items (list_text texts) ≡ texts)
names_are count [] some room are once = true_false some
names_are count (text ∷ texts) some room are once =
    let is = lists text texts (names_simple (text ∷ texts) are) in (
      record {
        of_kind = (λ i. is.list i && list_all is_name (is.items_are i)) ∙ each_name (text ∷ texts) are;
        within = ap (λ l. nat_le (length l) count) is.items_are ∙ le-leb _ count room;
        once = ap (is_twice bytes_eq) is.items_are ∙ once;
        operand = is.operand;
      },
      is.items_are,
    )

-- the text of an address
record AddressText (text : List ℕ) : Type 0 where
  all_simple : AllSimple text
  fits : FitsAlone Address text

address_text : (text : List ℕ) → IsAddressText text → AddressText text
address_text text (absolute a small e) = subst AddressText (sym e) (record { all_simple = absolute_simple a small; fits = (absolute_is a small).0 })
address_text text (area e) = record { all_simple = name_all text e; fits = (name_alone text e).0 }
address_text text (within name n named small e) = subst AddressText (sym e) (record { all_simple = distance_simple name (decimal n) named (decimal_writes n (omega arith)).digits; fits = (named_is name n named small).0 })

-- the texts of some addresses
record AddressTexts (texts : List (List ℕ)) : Type 0 where
  each_simple : EachSimple texts
  each_address : list_all is_address texts ≡ true
  each_within : list_all is_address_in_range texts ≡ true

address_texts : (texts : List (List ℕ)) → AllByRecursion IsAddressText texts → AddressTexts texts
address_texts [] are = record { each_simple = tt; each_address = refl; each_within = refl }
address_texts (text ∷ texts) are =
    let later = address_texts texts are.1 in
    let is = address_text text are.0 in
    record {
      each_simple = (is.all_simple, later.each_simple);
      each_address = and_from (is_address text) _ is.fits.fits.of_kind later.each_address;
      each_within = and_from (is_address_in_range text) _ is.fits.fits.within later.each_within;
    }

addresses_are : (count : ℕ) (texts : List (List ℕ)) → is_empty texts ≡ false → length texts ≤ count → AllByRecursion IsAddressText texts
    → Fits (Addresses count) (list_text texts) × (items (list_text texts) ≡ texts)
addresses_are count [] some room are = true_false some
addresses_are count (text ∷ texts) some room are =
    let each = address_texts (text ∷ texts) are in
    let is = lists text texts each.each_simple in (
      record {
        of_kind = (λ i. is.list i && list_all is_address (is.items_are i)) ∙ each.each_address;
        within = (λ i. nat_le (length (is.items_are i)) count && list_all is_address_in_range (is.items_are i)) ∙ and_from (nat_le (length (text ∷ texts)) count) _ (le-leb _ count room) each.each_within;
        once = refl;
        operand = is.operand;
      },
      is.items_are,
    )

pub each_is_written : EachIsWritten
each_is_written = record {
  number_is = number_is;
  byte_is = byte_is;
  name_is = name_is;
  absolute_is = absolute_is;
  named_is = named_is;
  area_is = name_alone;
  bytes_are = bytes_are;
  pair_is = pair_is;
  one_length = one_length;
  numbers_are = numbers_are;
  distinct_are = distinct_are;
  names_are = names_are;
  addresses_are = addresses_are;
}
