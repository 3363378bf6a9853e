-- The position of a walk through a text.
use Rattle.std.proofs.Common.{◌≡◌, length, refl, ℕ, zero, suc, ◌+◌, ◌*◌, ◌≤◌, Bool, true, false, if◌then◌else◌, List, [], ◌∷◌, Some, drop, arith, sym, ap, subst, ◌∙◌}
use Rattle.std.specs.Prelude.{nat_lt, slice_get}
use Rattle.editor_messages.specs.declared.query.Position.{Position}
use Rattle.language_server.specs.Positions.{after_byte, ends_line, position_from, position_of, units_of}

-- one byte more
step : (p : Position) (n : ℕ) (text : List ℕ) (b : ℕ) → slice_get text n ≡ Some b → position_from p (suc n) text ≡ after_byte (ends_line b (drop (suc n) text)) (position_from p n text) b
step p n [] b is = let no : Some b ≡ slice_get [] n = sym is in absurd cc
step p zero (x ∷ text) b is = let e : x ≡ b = cc in ap (λ y. after_byte (ends_line y text) p y) e
step p (suc n) (x ∷ text) b is = step (after_byte (ends_line x text) p x) n text b is

pub one_more : (p : Position) (n : ℕ) (text : List ℕ) (b : ℕ) → slice_get text n ≡ Some b → position_from p (n + 1) text ≡ after_byte (ends_line b (drop (n + 1) text)) (position_from p n text) b
one_more p n text b is = let e : suc n ≡ n + 1 = omega arith in subst (λ m. position_from p m text ≡ after_byte (ends_line b (drop m text)) (position_from p n text) b) e (step p n text b is)

pub units_most : (b : ℕ) → units_of b ≤ 2
units_most b = by (nat_lt b 128) (nat_lt b 192) (nat_lt b 240) where
  by : (x y z : Bool) → (if x then 1 else if y then 0 else if z then 1 else 2) ≤ 2
  by true y z = omega arith
  by false true z = omega arith
  by false false true = omega arith
  by false false false = omega arith

-- how far a position is at most after a number of bytes
pub record IsNear (p q : Position) (n : ℕ) : Type 0 where
  pub line : q.line ≤ p.line + n
  pub character : q.character ≤ p.character + 2 * n

near_byte : (e : Bool) (p : Position) (b : ℕ) → IsNear p (after_byte e p b) 1
near_byte true p b = record { line = omega arith; character = omega arith }
near_byte false p b = let u = units_most b in record { line = omega arith; character = omega (arith, u) }

pub near : (p : Position) (n : ℕ) (text : List ℕ) → IsNear p (position_from p n text) n
near p zero text = record { line = omega arith; character = omega arith }
near p (suc n) [] = record { line = omega arith; character = omega arith }
near p (suc n) (x ∷ text) =
    let g = near_byte (ends_line x text) p x in
    let h = near (after_byte (ends_line x text) p x) n text in
    let a = h.line in let b = h.character in let k = g.line in let m = g.character in
    record { line = omega (arith, a, k); character = omega (arith, b, m) }

-- the position at a place, and after the byte there
module _ (text : List ℕ) (n : ℕ) (b : ℕ) (p : Position) (is : slice_get text n ≡ Some b) (on : p ≡ position_of text n) where
  pub moved : (e : Bool) → ends_line b (drop (n + 1) text) ≡ e → after_byte e p b ≡ position_of text (n + 1)
  moved e ends = ap (λ q. after_byte e q b) on ∙ ap (λ f. after_byte f (position_of text n) b) (sym ends) ∙ sym (one_more (record { line = 0; character = 0 }) n text b is)

pub line_most : (text : List ℕ) (n : ℕ) (p : Position) → p ≡ position_of text n → p.line ≤ n
line_most text n p on = let h = (near (record { line = 0; character = 0 }) n text).line in let e : p.line ≡ (position_of text n).line = ap (λ q. q.line) on in omega (arith, h, e)

pub character_most : (text : List ℕ) (n : ℕ) (p : Position) → p ≡ position_of text n → (b : ℕ) → p.character + units_of b ≤ 2 * n + 2
character_most text n p on b = let h = (near (record { line = 0; character = 0 }) n text).character in let e : p.character ≡ (position_of text n).character = ap (λ q. q.character) on in let u = units_most b in omega (arith, h, e, u)

-- A place after the end of a text has the position of its end.
pub after_end : (p : Position) (n : ℕ) (text : List ℕ) → length text ≤ n → position_from p (length text) text ≡ position_from p n text
after_end p zero [] past = refl
after_end p (suc n) [] past = refl
after_end p zero (x ∷ text) past = absurd (omega arith)
after_end p (suc n) (x ∷ text) past = let less : length text ≤ n = omega arith in after_end (after_byte (ends_line x text) p x) n text less

pub same_end : (text : List ℕ) (n m : ℕ) (p : Position) → length text ≤ n → n ≤ m → p ≡ position_of text n → p ≡ position_of text m
same_end text n m p past more on =
    let start : Position = record { line = 0; character = 0 } in
    let past_m : length text ≤ m = omega arith in
    on ∙ sym (after_end start n text past) ∙ after_end start m text past_m
