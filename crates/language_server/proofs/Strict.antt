-- Positions of later places are later.
use Rattle.std.proofs.Common.{◌≡◌, ℕ, zero, suc, ◌≤◌, ◌<◌, Bool, true, false, not, if◌then◌else◌, List, [], ◌∷◌, drop, length, arith, inl, inr, refl, ◌∙◌}
use Rattle.std.specs.Prelude.{◌⊎◌, ◌||◌, nat_lt}
use Rattle.editor_messages.specs.declared.query.Position.{Position}
use Rattle.language_server.specs.Positions.{IsBoundary, IsNotAfter, IsPlaceOf, after_byte, begins_character, ends_line, position_from, position_of, units_of}

-- A position is before the other one.
IsBefore : Position → Position → Type 0
IsBefore p q = (p.line < q.line) ⊎ ((p.line ≡ q.line) × (p.character < q.character))

units_some : (b : ℕ) → (nat_lt b 128 || not (nat_lt b 192)) ≡ true → 1 ≤ units_of b
units_some b begins = by (nat_lt b 128) (nat_lt b 192) (nat_lt b 240) begins where
  by : (x y z : Bool) → (x || not y) ≡ true → 1 ≤ (if x then 1 else if y then 0 else if z then 1 else 2)
  by true y z h = omega arith
  by false true z h = absurd (let g : false ≡ true = h in cc)
  by false false true h = omega arith
  by false false false h = omega arith

not_after_byte : (e : Bool) (p : Position) (b : ℕ) → IsNotAfter p (after_byte e p b)
not_after_byte true p b = inl (omega arith)
not_after_byte false p b = inr (refl, omega arith)

trans : (p q r : Position) → IsNotAfter p q → IsNotAfter q r → IsNotAfter p r
trans p q r (inl a) (inl b) = inl (omega (arith, a, b))
trans p q r (inl a) (inr b) = let e = b.0 in inl (omega (arith, a, e))
trans p q r (inr a) (inl b) = let e = a.0 in inl (omega (arith, b, e))
trans p q r (inr a) (inr b) = let x = a.1 in let y = b.1 in inr (a.0 ∙ b.0, omega (arith, x, y))

grows : (p : Position) (n : ℕ) (text : List ℕ) → IsNotAfter p (position_from p n text)
grows p zero text = inr (refl, omega arith)
grows p (suc n) [] = inr (refl, omega arith)
grows p (suc n) (x ∷ text) = trans p (after_byte (ends_line x text) p x) (position_from (after_byte (ends_line x text) p x) n text) (not_after_byte (ends_line x text) p x) (grows (after_byte (ends_line x text) p x) n text)

before_byte : (e : Bool) (p : Position) (b : ℕ) (r : Position) → 1 ≤ units_of b → IsNotAfter (after_byte e p b) r → IsBefore p r
unfolding IsBefore
before_byte true p b r some (inl a) = inl (omega (arith, a))
before_byte true p b r some (inr a) = let e = a.0 in inl (omega (arith, e))
before_byte false p b r some (inl a) = inl a
before_byte false p b r some (inr a) = let x = a.1 in inr (a.0, omega (arith, x, some))

strict : (p : Position) (m n : ℕ) (text : List ℕ) → m < n → n ≤ length text → begins_character (drop m text) ≡ true → IsBefore (position_from p m text) (position_from p n text)
strict p m zero text lt le begins = absurd (omega (arith, lt))
strict p m (suc n) [] lt le begins = absurd (omega (arith, le))
strict p zero (suc n) (x ∷ text) lt le begins = before_byte (ends_line x text) p x (position_from (after_byte (ends_line x text) p x) n text) (units_some x begins) (grows (after_byte (ends_line x text) p x) n text)
strict p (suc m) (suc n) (x ∷ text) lt le begins = strict (after_byte (ends_line x text) p x) m n text (omega (arith, lt)) (omega (arith, le)) begins

apart : (p q : Position) → IsBefore p q → IsNotAfter q p → ⊥
unfolding IsBefore
apart p q (inl a) (inl b) = omega (arith, a, b)
apart p q (inl a) (inr b) = let e = b.0 in omega (arith, a, e)
apart p q (inr a) (inl b) = let e = a.0 in omega (arith, b, e)
apart p q (inr a) (inr b) = let x = a.1 in let y = b.1 in omega (arith, x, y)

order : (m n : ℕ) → (n ≤ m) ⊎ (m < n)
order m zero = inl (omega arith)
order zero (suc n) = inr (omega arith)
order (suc m) (suc n) = up (order m n) where
  up : (n ≤ m) ⊎ (m < n) → (suc n ≤ suc m) ⊎ (suc m < suc n)
  up (inl a) = inl (omega (arith, a))
  up (inr a) = inr (omega (arith, a))

pub is_place : (text : List ℕ) (at : ℕ) → at ≤ length text → begins_character (drop at text) ≡ true → IsPlaceOf text (position_of text at) at
is_place text at le begins = record {
  boundary = (le, inr begins);
  before = inr (refl, omega arith);
  last = λ other boundary before. by other boundary before (order at other);
} where
  by : (other : ℕ) → IsBoundary text other → IsNotAfter (position_of text other) (position_of text at) → (other ≤ at) ⊎ (at < other) → other ≤ at
  by other boundary before (inl a) = a
  by other boundary before (inr a) = absurd (apart (position_of text at) (position_of text other) (strict (record { line = 0; character = 0 }) at other text a boundary.0 begins) before)
