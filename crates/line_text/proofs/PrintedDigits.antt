-- The digits of a number of 32 bits.
use Rattle.std.proofs.Common.{◌≡◌, ℕ, zero, suc, codes, slice_index, get_or, take, sym, length-set, ◌+◌, ◌*◌, ◌/◌, ◌%◌, ◌≤◌, ◌<◌, ◌^◌, List, [], ◌∷◌, ◌++◌, length, decimal, arith, ap, length-append, append_assoc, refl, ◌∙◌}
use Rattle.std.specs.Prelude.{slice_set}
use Rattle.std.proofs.lemmas.Grind.{take-set_at}
use Rattle.std.proofs.lemmas.Fmt.{decimal_step, decimal_digit, length-decimal-le}
use Rattle.std.specs.List.{flat_map}
use Rattle.mvs_model.specs.Texts.{glyph, hex, last_digits}
use Rattle.line_text.proofs.Appending.{one_line_more}

pub short_decimal : (n : ℕ) → n < 2 ^ 32 → length (decimal n) ≤ 10
short_decimal n small = length-decimal-le 10 n (omega arith) (omega arith) (omega arith)

-- a number of one digit
pub just_one : (n : ℕ) → n < 10 → decimal n ≡ (48 + n % 10) ∷ []
just_one n small =
    let r : n ≡ n % 10 = omega arith in
    decimal_digit n small ∙ ap (λ d. (48 + d) ∷ []) r

-- the last digits of a number after those in front
two_digits_more : (n : ℕ) → 100 ≤ n → n < 2 ^ 32 → decimal n ≡ decimal (n / 100) ++ (48 + n / 10 % 10) ∷ (48 + n % 10) ∷ []
two_digits_more n large small =
    let front : n / 10 / 10 ≡ n / 100 = omega arith in
    let high = decimal_step (n / 10) (omega arith) (omega arith) ∙ ap (λ m. decimal m ++ (48 + n / 10 % 10) ∷ []) front in
    decimal_step n (omega arith) (omega arith) ∙ ap (λ x. x ++ (48 + n % 10) ∷ []) high ∙ append_assoc (decimal (n / 100)) _ _

pub three_digits : (n : ℕ) → 1000 ≤ n → n < 2 ^ 32 → decimal n ≡ decimal (n / 1000) ++ (48 + n / 100 % 10) ∷ (48 + n / 10 % 10) ∷ (48 + n % 10) ∷ []
three_digits n large small =
    let front : n / 100 / 10 ≡ n / 1000 = omega arith in
    let high = decimal_step (n / 100) (omega arith) (omega arith) ∙ ap (λ m. decimal m ++ (48 + n / 100 % 10) ∷ []) front in
    two_digits_more n (omega arith) small ∙ ap (λ x. x ++ (48 + n / 10 % 10) ∷ (48 + n % 10) ∷ []) high ∙ append_assoc (decimal (n / 1000)) _ _

pub three_longer : (n : ℕ) → 1000 ≤ n → n < 2 ^ 32 → length (decimal n) ≡ length (decimal (n / 1000)) + 3
three_longer n large small = ap length (three_digits n large small) ∙ length-append (decimal (n / 1000)) _

-- a number of three digits, and one of two
pub just_three : (n : ℕ) → 100 ≤ n → n < 1000 → decimal n ≡ (48 + n / 100 % 10) ∷ (48 + n / 10 % 10) ∷ (48 + n % 10) ∷ []
just_three n large small = two_digits_more n large (omega arith) ∙ ap (λ x. x ++ (48 + n / 10 % 10) ∷ (48 + n % 10) ∷ []) (just_one (n / 100) (omega arith))

pub just_two : (n : ℕ) → 10 ≤ n → n < 100 → decimal n ≡ (48 + n / 10 % 10) ∷ (48 + n % 10) ∷ []
just_two n large small = decimal_step n large (omega arith) ∙ ap (λ x. x ++ (48 + n % 10) ∷ []) (just_one (n / 10) (omega arith))

-- the two digits of a byte
pub two_digits : (n : ℕ) → n < 2 ^ 8 → hex 2 n ≡ glyph (n / 16) ∷ glyph (n % 16) ∷ []
unfolding last_digits
two_digits n small =
    let high : (n / 16) % 16 ≡ n / 16 = omega arith in
    ap (λ d. glyph d ∷ glyph (n % 16) ∷ []) high

-- two digits that are put after a text in its array
pub two_pushed : (bytes : List ℕ) (len a b : ℕ) → len + 1 < length bytes → take (len + 2) (slice_set (slice_set bytes len a) (len + 1) b) ≡ take len bytes ++ a ∷ b ∷ []
two_pushed bytes len a b room =
    let within : len + 1 < length (slice_set bytes len a) = omega (arith, length-set bytes len a) in
    take-set_at (slice_set bytes len a) (len + 1) (len + 2) b (omega arith) within
    ∙ ap (λ l. l ++ b ∷ []) (take-set_at bytes len (len + 1) a refl (omega arith))
    ∙ append_assoc (take len bytes) (a ∷ []) (b ∷ [])

pub digits_pushed : (bytes now : List ℕ) (len a b byte : ℕ) → len + 1 < length bytes → take len bytes ≡ now → a ≡ glyph (byte / 16) → b ≡ glyph (byte % 16) → byte < 2 ^ 8
    → take (len + 2) (slice_set (slice_set bytes len a) (len + 1) b) ≡ now ++ hex 2 byte
digits_pushed bytes now len a b byte room is high low small =
    two_pushed bytes len a b room ∙ rw (is, high, low) (ap (λ digits. now ++ digits) (sym (two_digits byte small)))

-- two digits that are written after those of the bytes before
pub byte_written : (place bytes : List ℕ) (i a b byte : ℕ) → i < length bytes → length place ≡ 2 * length bytes → take (2 * i) place ≡ flat_map (hex 2) (take i bytes)
    → a ≡ glyph (byte / 16) → b ≡ glyph (byte % 16) → byte < 2 ^ 8 → byte ≡ get_or bytes i byte
    → take (2 * (i + 1)) (slice_set (slice_set place (2 * i) a) (2 * i + 1) b) ≡ flat_map (hex 2) (take (i + 1) bytes)
byte_written place bytes i a b byte inside len front high low small at =
    let room : 2 * i + 1 < length place = omega (arith, len, inside) in
    let two : 2 * (i + 1) ≡ 2 * i + 2 = omega arith in
    ap (λ n. take n (slice_set (slice_set place (2 * i) a) (2 * i + 1) b)) two
    ∙ digits_pushed place (flat_map (hex 2) (take i bytes)) (2 * i) a b byte room front high low small
    ∙ one_line_more (hex 2) [] bytes i byte inside at

-- the four digits of two bytes
pub four_digits : (n : ℕ) → n < 2 ^ 16 → hex 4 n ≡ hex 2 (n / 256) ++ hex 2 (n % 256)
unfolding last_digits
four_digits n small =
    let first : (n / 16 / 16 / 16) % 16 ≡ (n / 256 / 16) % 16 = omega arith in
    let second : (n / 16 / 16) % 16 ≡ (n / 256) % 16 = omega arith in
    let third : (n / 16) % 16 ≡ (n % 256 / 16) % 16 = omega arith in
    let fourth : n % 16 ≡ n % 256 % 16 = omega arith in
    rw (first, second, third, fourth) refl

-- the eight digits of four bytes
pub eight_digits : (n : ℕ) → n < 2 ^ 32 → hex 8 n ≡ hex 4 (n / 65536) ++ hex 4 (n % 65536)
unfolding last_digits
eight_digits n small =
    let first : (n / 16 / 16 / 16 / 16 / 16 / 16 / 16) % 16 ≡ (n / 65536 / 16 / 16 / 16) % 16 = omega arith in
    let second : (n / 16 / 16 / 16 / 16 / 16 / 16) % 16 ≡ (n / 65536 / 16 / 16) % 16 = omega arith in
    let third : (n / 16 / 16 / 16 / 16 / 16) % 16 ≡ (n / 65536 / 16) % 16 = omega arith in
    let fourth : (n / 16 / 16 / 16 / 16) % 16 ≡ (n / 65536) % 16 = omega arith in
    let fifth : (n / 16 / 16 / 16) % 16 ≡ (n % 65536 / 16 / 16 / 16) % 16 = omega arith in
    let sixth : (n / 16 / 16) % 16 ≡ (n % 65536 / 16 / 16) % 16 = omega arith in
    let seventh : (n / 16) % 16 ≡ (n % 65536 / 16) % 16 = omega arith in
    let eighth : n % 16 ≡ n % 65536 % 16 = omega arith in
    rw (first, second, third, fourth, fifth, sixth, seventh, eighth) refl

-- the glyphs of the digits, in their order
pub glyph_at : (d : ℕ) → d < 16 → slice_index (codes "0123456789ABCDEF") d ≡ glyph d
glyph_at zero small = refl
glyph_at (suc (zero)) small = refl
glyph_at (suc (suc (zero))) small = refl
glyph_at (suc (suc (suc (zero)))) small = refl
glyph_at (suc (suc (suc (suc (zero))))) small = refl
glyph_at (suc (suc (suc (suc (suc (zero)))))) small = refl
glyph_at (suc (suc (suc (suc (suc (suc (zero))))))) small = refl
glyph_at (suc (suc (suc (suc (suc (suc (suc (zero)))))))) small = refl
glyph_at (suc (suc (suc (suc (suc (suc (suc (suc (zero))))))))) small = refl
glyph_at (suc (suc (suc (suc (suc (suc (suc (suc (suc (zero)))))))))) small = refl
glyph_at (suc (suc (suc (suc (suc (suc (suc (suc (suc (suc (zero))))))))))) small = refl
glyph_at (suc (suc (suc (suc (suc (suc (suc (suc (suc (suc (suc (zero)))))))))))) small = refl
glyph_at (suc (suc (suc (suc (suc (suc (suc (suc (suc (suc (suc (suc (zero))))))))))))) small = refl
glyph_at (suc (suc (suc (suc (suc (suc (suc (suc (suc (suc (suc (suc (suc (zero)))))))))))))) small = refl
glyph_at (suc (suc (suc (suc (suc (suc (suc (suc (suc (suc (suc (suc (suc (suc (zero))))))))))))))) small = refl
glyph_at (suc (suc (suc (suc (suc (suc (suc (suc (suc (suc (suc (suc (suc (suc (suc (zero)))))))))))))))) small = refl
glyph_at (suc (suc (suc (suc (suc (suc (suc (suc (suc (suc (suc (suc (suc (suc (suc (suc (n))))))))))))))))) small = absurd (omega arith)
