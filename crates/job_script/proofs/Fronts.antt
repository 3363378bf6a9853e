-- What stands in front of a text.
use Rattle.std.specs.Prelude.{◌==◌, ◌%◌, nat_le, not, slice_index, codes, Option, Some}
use Rattle.std.proofs.Common.{drop, zero, append_assoc, take-append-drop, ◌≡◌, refl, suc, pow-suc, true, false, Bool, ℕ, ◌+◌, ◌-◌, ◌*◌, ◌^◌, ◌<◌, ◌≤◌, ◌&&◌, List, [], ◌∷◌, ◌++◌, length, take, get_or, sym, ap, subst, ◌∙◌, arith}
use Rattle.std.specs.List.{list_all}
use Rattle.std.specs.Char.{is_ascii_digit}
use Rattle.std.proofs.lemmas.Bool.Decides.{nat_tests}
use Rattle.std.proofs.lemmas.List.{take_more, take_rest}
use Rattle.std.proofs.lemmas.Bool.{and_from, le-leb}
use Rattle.std.proofs.lemmas.Grind.{common_steps}
use Rattle.mvs_model.specs.Grammar as grammar
use Rattle.mvs_model.specs.Reading.{is_digit, is_empty, is_hex_digit, is_in_range, is_name, is_name_byte, is_number, number}
use Rattle.mvs_model.specs.Name.{padded}
use Rattle.mvs_model.specs.declared.line.Location.TheVariants.{Named}
use Rattle.mvs_model.proofs.ValueTexts.{bytes_fit, digits_fit, each_is_written, name_alone, name_with}
use Rattle.mvs_model.specs.Spelling.{FitsAlone, quoted_text}
use Rattle.job_script.specs.Fronts.{IsAddressFront, IsFront, IsNumberFront, IsSubpoolFront}
use Rattle.mvs_model.proofs.ReadingLoops.{counted, counted_all}
use Rattle.mvs_model.proofs.ReadingTaken.{and_true}

all_push : (test : ℕ → Bool) (text : List ℕ) (b : ℕ) → list_all test text ≡ true → test b ≡ true → list_all test (text ++ b ∷ []) ≡ true
all_push test [] b e f = ap (λ t. t && true) f
all_push test (x ∷ text) b e f =
    let a = and_true (test x) (list_all test text) e in
    ap (λ t. t && list_all test (text ++ b ∷ [])) a.0 ∙ all_push test text b a.1 f

-- one byte more that passes
pub all_more : (test : ℕ → Bool) (text : List ℕ) (i : ℕ) → i < length text → list_all test (take i text) ≡ true → test (get_or text i 0) ≡ true → list_all test (take (i + 1) text) ≡ true
all_more test text i h e f = ap (list_all test) (take_more text i 0 h) ∙ all_push test (take i text) (get_or text i 0) e f

counted_push : (so_far : ℕ) (text : List ℕ) (b : ℕ) → counted so_far (text ++ b ∷ []) ≡ counted so_far text * 10 + (b - 48)
counted_push so_far [] b = refl
counted_push so_far (x ∷ text) b = counted_push (so_far * 10 + (x - 48)) text b

-- one digit more
pub number_more : (text : List ℕ) (i : ℕ) → i < length text → number (take (i + 1) text) ≡ number (take i text) * 10 + (get_or text i 0 - 48)
number_more text i h =
    ap number (take_more text i 0 h)
    ∙ sym (counted_all (take i text ++ get_or text i 0 ∷ []))
    ∙ counted_push 0 (take i text) (get_or text i 0)
    ∙ ap (λ n. n * 10 + (get_or text i 0 - 48)) (counted_all (take i text))

pub digit_is : (b : ℕ) → is_ascii_digit b ≡ true → is_digit b ≡ true
digit_is b e = grind (arith, nat_tests)

-- with one digit more it is still less than the power of ten
pub next_small : (n d i b : ℕ) → is_digit b ≡ true → d ≡ b - 48 → n < 10 ^ i → n * 10 + d < 10 ^ (i + 1)
next_small n d i b digit is small =
    let nine : d ≤ 9 = grind (arith, nat_tests) in
    let power : 10 ^ (i + 1) ≡ 10 ^ i * 10 = ap (λ k. 10 ^ k) (let on : i + 1 ≡ suc i = omega arith in on) ∙ pow-suc 10 i in
    subst (λ m. n * 10 + d < m) (sym power) (omega arith)

-- a text is its front and what stands after it
pub front_rest : (text : List ℕ) (n : ℕ) → text ≡ take n text ++ take (length text - n) (drop n text)
front_rest text n = sym (ap (λ rest. take n text ++ rest) (take_rest text n) ∙ take-append-drop n text)

some_front : (text : List ℕ) (n : ℕ) → (n ≡ 0 → ⊥) → n ≤ length text → is_empty (take n text) ≡ false
some_front text zero some h = absurd (some refl)
some_front [] (suc n) some h = absurd (omega arith)
some_front (b ∷ text) (suc n) some h = refl

short_front : (text : List ℕ) (n most : ℕ) → n ≤ most → nat_le (length (take n text)) most ≡ true
short_front text n most h = grind (arith, common_steps, nat_tests)

-- a number in front
pub number_front : (least most : ℕ) (text : List ℕ) (n value : ℕ) → list_all is_digit (take n text) ≡ true → value ≡ number (take n text) → n ≤ 10 → n ≤ length text → (n ≡ 0 → ⊥) → least ≤ value → value ≤ most
    → (digits : List ℕ) × IsNumberFront least most text value digits (take (length text - n) (drop n text))
number_front least most text n value digits is few within some low high =
    let front = take n text in
    let number_is : is_number front ≡ true = and_from (not (is_empty front)) _ (ap not (some_front text n some within)) digits in
    let range : is_in_range least most front ≡ true =
    and_from (nat_le (length front) 10 && nat_le least (number front)) _
    (and_from (nat_le (length front) 10) _ (short_front text n 10 few) (ap (nat_le least) (sym is) ∙ le-leb least value low)) (ap (λ m. nat_le m most) (sym is) ∙ le-leb value most high) in
    (front, record { front = record { whole = front_rest text n; alone = digits_fit least most front number_is range }; value = is; low = low; high = high })

-- a name in front
first_kept : (text : List ℕ) (n : ℕ) → (n ≡ 0 → ⊥) → n ≤ length text → is_ascii_digit (get_or text 0 0) ≡ false → is_digit (slice_index (take n text) 0) ≡ false
first_kept text zero some h e = absurd (some refl)
first_kept [] (suc n) some h e = absurd (omega arith)
first_kept (b ∷ text) (suc n) some h e = grind (arith, nat_tests)

name_is : (text : List ℕ) (n : ℕ) → list_all is_name_byte (take n text) ≡ true → n ≤ 8 → n ≤ length text → (n ≡ 0 → ⊥) → is_ascii_digit (get_or text 0 0) ≡ false → is_name (take n text) ≡ true
name_is text n bytes few within some first =
    let front = take n text in
    and_from (not (is_empty front) && nat_le (length front) 8 && list_all is_name_byte front) _
    (and_from (not (is_empty front) && nat_le (length front) 8) _ (and_from (not (is_empty front)) _ (ap not (some_front text n some within)) (short_front text n 8 few)) bytes)
    (ap not (first_kept text n some within first))

pub name_front : (text : List ℕ) (n : ℕ) → list_all is_name_byte (take n text) ≡ true → n ≤ 8 → n ≤ length text → (n ≡ 0 → ⊥) → is_ascii_digit (get_or text 0 0) ≡ false → IsFront grammar.Name text (take n text) (take (length text - n) (drop n text))
name_front text n bytes few within some first =
    record { whole = front_rest text n; alone = each_is_written.name_is (take n text) (name_is text n bytes few within some first) }

-- a name alone is an address
pub address_alone : (text name rest : List ℕ) → IsFront grammar.Name text name rest → (address : List ℕ) × IsAddressFront text name 0 address rest
address_alone text name rest front =
    let named = front.alone.fits.of_kind in
    let alone = name_alone name named in
    (name, record { front = record { whole = front.whole; alone = alone.0 }; named = named; location_is = sym alone.1; near = omega arith })

-- and so is one with an offset
pub address_with : (text name after inner digits rest : List ℕ) (n : ℕ) → IsFront grammar.Name text name after → after ≡ 43 ∷ inner → IsNumberFront 0 33554431 inner n digits rest
    → (address : List ℕ) × IsAddressFront text name n address rest
address_with text name after inner digits rest n front plus offset =
    let named = front.alone.fits.of_kind in
    let figures = offset.front.alone.fits in
    let with_offset = name_with name digits named figures.of_kind figures.within in
    let whole : text ≡ (name ++ (43 ∷ digits)) ++ rest = front.whole ∙ ap (λ t. name ++ t) (plus ∙ ap (λ t. 43 ∷ t) offset.front.whole) ∙ sym (append_assoc name (43 ∷ digits) rest) in
    (name ++ (43 ∷ digits), record { front = record { whole = whole; alone = with_offset.0 }; named = named; location_is = ap (λ m. Named (padded name) m) offset.value ∙ sym with_offset.1; near = offset.high })

-- the number of a subpool after its key
pub subpool_said : (text inner digits rest : List ℕ) (n : ℕ) → text ≡ codes ",SP=" ++ inner → IsNumberFront 0 255 inner n digits rest → (sp : Option (List ℕ)) × IsSubpoolFront text n sp rest
subpool_said text inner digits rest n key number = (Some digits, (key ∙ ap (λ t. codes ",SP=" ++ t) number.front.whole, number.front.alone.fits, number.value))

-- digits between quotes
long_front : (text : List ℕ) (n : ℕ) → n ≤ length text → length (take n text) ≡ n
long_front text n h = grind (arith, common_steps)

pub bytes_front : (text digits : List ℕ) (n : ℕ) → text ≡ 88 ∷ 39 ∷ digits → list_all is_hex_digit (take n digits) ≡ true → (n ≡ 0 → ⊥) → n ≤ 200 → (n % 2 == 0) ≡ true → n < length digits → get_or digits n 0 ≡ 39
    → IsFront (grammar.Bytes 100) text (take (n + 3) text) (take (length text - (n + 3)) (drop (n + 3) text))
bytes_front text digits n whole hex some few even within closed =
    let inside : n ≤ length digits = omega arith in
    let long : length (take n digits) ≡ n = long_front digits n inside in
    let three : n + 3 ≡ suc (suc (n + 1)) = omega arith in
    let front : take (n + 3) text ≡ quoted_text (take n digits) =
    ap (take (n + 3)) whole ∙ ap (λ k. take k (88 ∷ 39 ∷ digits)) three ∙ ap (λ l. 88 ∷ 39 ∷ l) (take_more digits n 0 within ∙ ap (λ b. take n digits ++ (b ∷ [])) closed) in
    record {
      whole = front_rest text (n + 3);
      alone = subst (FitsAlone (grammar.Bytes 100)) (sym front) (bytes_fit 100 (take n digits) hex (some_front digits n some inside) (ap (λ k. k % 2 == 0) long ∙ even) (omega (arith, long)));
    }
