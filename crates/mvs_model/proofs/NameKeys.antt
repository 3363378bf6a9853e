-- Names lie as the numbers that their bytes spell.
use Rattle.std.specs.Cmp.Lexicographic.{pointwise}
use Rattle.std.proofs.lemmas.Bool.Decides.{nat_tests}
use Rattle.std.proofs.Common.{◌≡◌, ℕ, suc, ◌+◌, ◌*◌, ◌<◌, ◌^◌, List, [], ◌∷◌, length, refl, sym, ap, ◌∙◌, arith, ◌&&◌, nat_eq, Ordering, Less, Equal, Greater, nat_cmp, w64}
use Rattle.std.specs.Ordering.{ordering_then, MatchOrdering}
use Rattle.std.specs.Cmp.{ranks, nat_cmp_is}
use Rattle.std.specs.Cmp.Lexicographic.{slice_cmp}
use Rattle.std.specs.Int.{from_be_bytes}
use Rattle.std.proofs.Math.Bool.{and-true, and_assoc}
use Rattle.std.proofs.lemmas.Grind.{common_steps}
use Rattle.mvs_model.specs.Name.{AreBytes}

-- the number that the bytes spell after another
abbrev spelled : ℕ → List ℕ → ℕ
spelled n [] = n
spelled n (b ∷ bs) = spelled (n * 256 + b) bs

trailing : (b : ℕ) (bs : List ℕ) → AreBytes (b ∷ bs) → AreBytes bs
trailing b bs are k = are (suc k)

-- what spells more at the front spells more
rises : (m n : ℕ) (xs ys : List ℕ) → length xs ≡ length ys → AreBytes xs → AreBytes ys → m < n → spelled m xs < spelled n ys
rises m n [] [] e bx by l = l
rises m n [] (y ∷ ys) e bx by l = absurd (omega arith)
rises m n (x ∷ xs) [] e bx by l = absurd (omega arith)
rises m n (x ∷ xs) (y ∷ ys) e bx by l =
    let small : x < 2 ^ 8 = bx 0 in
    rises (m * 256 + x) (n * 256 + y) xs ys (omega arith) (trailing x xs bx) (trailing y ys by) (omega arith)

settles : (n : ℕ) (xs ys : List ℕ) → length xs ≡ length ys → AreBytes xs → AreBytes ys → slice_cmp nat_cmp xs ys ≡ nat_cmp (spelled n xs) (spelled n ys)
settles n [] [] e bx by = nat_cmp_is n n Equal refl
settles n [] (y ∷ ys) e bx by = absurd (omega arith)
settles n (x ∷ xs) [] e bx by = absurd (omega arith)
settles n (x ∷ xs) (y ∷ ys) e bx by = at (nat_cmp x y) (ranks x y) (settles (n * 256 + x) xs ys (omega arith) (trailing x xs bx) (trailing y ys by)) where
  long : length xs ≡ length ys
  long = omega arith

  at : (r : Ordering) → MatchOrdering r (x < y) (x ≡ y) (y < x) → slice_cmp nat_cmp xs ys ≡ nat_cmp (spelled (n * 256 + x) xs) (spelled (n * 256 + x) ys)
      → ordering_then r (slice_cmp nat_cmp xs ys) ≡ nat_cmp (spelled (n * 256 + x) xs) (spelled (n * 256 + y) ys)
  at Less h same = nat_cmp_is _ _ Less (rises (n * 256 + x) (n * 256 + y) xs ys long (trailing x xs bx) (trailing y ys by) (omega (arith, h, bx 0)))
  at Equal h same = same ∙ ap (λ z. nat_cmp (spelled (n * 256 + x) xs) (spelled (n * 256 + z) ys)) h
  at Greater h same = nat_cmp_is _ _ Greater (rises (n * 256 + y) (n * 256 + x) ys xs (sym long) (trailing y ys by) (trailing x xs bx) (omega (arith, h, by 0)))

eight : (bs : List ℕ) → length bs ≡ 8 → from_be_bytes w64 bs ≡ spelled 0 bs
eight bs h1 = grind (arith, common_steps)

pub names_lie : (xs ys : List ℕ) → length xs ≡ 8 → length ys ≡ 8 → AreBytes xs → AreBytes ys → nat_cmp (from_be_bytes w64 xs) (from_be_bytes w64 ys) ≡ slice_cmp nat_cmp xs ys
names_lie xs ys ex ey bx by = rw (eight xs ex, eight ys ey) (sym (settles 0 xs ys (ex ∙ sym ey) bx by))

-- the same of whether they are one
same_front : (m n x y : ℕ) → x < 256 → y < 256 → nat_eq (m * 256 + x) (n * 256 + y) ≡ (nat_eq m n && nat_eq x y)
same_front m n x y lx ly = grind (arith, nat_tests)

same_spelled : (m n : ℕ) (xs ys : List ℕ) → length xs ≡ length ys → AreBytes xs → AreBytes ys → nat_eq (spelled m xs) (spelled n ys) ≡ (nat_eq m n && pointwise nat_eq xs ys)
same_spelled m n [] [] e bx by = sym (and-true (nat_eq m n))
same_spelled m n [] (y ∷ ys) e bx by = absurd (omega arith)
same_spelled m n (x ∷ xs) [] e bx by = absurd (omega arith)
same_spelled m n (x ∷ xs) (y ∷ ys) e bx by =
    same_spelled (m * 256 + x) (n * 256 + y) xs ys (omega arith) (trailing x xs bx) (trailing y ys by)
    ∙ ap (λ t. t && pointwise nat_eq xs ys) (same_front m n x y (bx 0) (by 0))
    ∙ and_assoc (nat_eq m n) (nat_eq x y) (pointwise nat_eq xs ys)

pub names_same : (xs ys : List ℕ) → length xs ≡ 8 → length ys ≡ 8 → AreBytes xs → AreBytes ys → nat_eq (from_be_bytes w64 xs) (from_be_bytes w64 ys) ≡ pointwise nat_eq xs ys
names_same xs ys ex ey bx by = rw (eight xs ex, eight ys ey) (same_spelled 0 0 xs ys (ex ∙ sym ey) bx by)
