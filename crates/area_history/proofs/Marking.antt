-- Marks on the doublewords of a place.
use Rattle.std.proofs.Common.{◌≡◌, ℕ, ◌+◌, ◌<◌, ◌≤◌, ◌&&◌, ◌||◌, ◌==◌, Bool, true, false, cond, not, refl, sym, ap, ◌∙◌, arith, suc, zero}
use Rattle.std.specs.Prelude.{◌-◌, ◌/◌, List, length, nat_le, nat_lt, if◌then◌else◌}
use Rattle.std.proofs.lemmas.Grind.{common_steps}
use Rattle.mvs_model.specs.Finite.{count_below}
use Rattle.mvs_model.proofs.Below.{count_more}
use Rattle.mvs_model.specs.Place.{PlaceValue}
use Rattle.area_history.specs.declared.by_doubleword.ByDoubleword.{ByDoubleword}
use Rattle.area_history.specs.Leaking.{HasRoom, has_doubleword}

-- whether a number is one of the next n from one on
abbrev pub is_next : ℕ → ℕ → ℕ → Bool
is_next first n d = nat_le first d && nat_lt d (first + n)

pub count_next : (n left one : ℕ) (test : ℕ → Bool) → left ≡ count_below n test → one ≡ cond (test n) 1 0 → left + one ≡ count_below (n + 1) test
count_next n left one test is at =
    (let e : left + one ≡ cond (test n) 1 0 + count_below n test = omega (arith, is, at) in e) ∙ sym (count_more n test) ∙ ap (λ k. count_below k test) (let f : suc n ≡ n + 1 = omega arith in f)

pub next_here : (first n d : ℕ) → (d == first + n) ≡ true → is_next first (n + 1) d ≡ true
next_here first n d e = grind (arith, common_steps)

pub next_other : (first n d : ℕ) → (d == first + n) ≡ false → is_next first (n + 1) d ≡ is_next first n d
next_other first n d e = grind (arith, common_steps)

pub none_next : (first d : ℕ) → is_next first 0 d ≡ false
none_next first d = grind (arith, common_steps)

module _ (first n d : ℕ) (start before after : Bool) where
  pub marks_next : before ≡ (is_next first n d || start) → ((d == first + n) ≡ true → after ≡ true) → ((d == first + n) ≡ false → after ≡ before) → after ≡ (is_next first (n + 1) d || start)
  marks_next is here other = at (d == first + n) refl where
    at : (b : Bool) → (d == first + n) ≡ b → after ≡ (is_next first (n + 1) d || start)
    at true e = here e ∙ ap (λ x. x || start) (sym (next_here first n d e))
    at false e = other e ∙ is ∙ ap (λ x. x || start) (sym (next_other first n d e))

  pub clear_next : before ≡ (not (is_next first n d) && start) → ((d == first + n) ≡ true → after ≡ false) → ((d == first + n) ≡ false → after ≡ before) → after ≡ (not (is_next first (n + 1) d) && start)
  clear_next is here other = at (d == first + n) refl where
    at : (b : Bool) → (d == first + n) ≡ b → after ≡ (not (is_next first (n + 1) d) && start)
    at true e = here e ∙ ap (λ x. not x && start) (sym (next_here first n d e))
    at false e = other e ∙ is ∙ ap (λ x. not x && start) (sym (next_other first n d e))

pub not_yet : (first n : ℕ) → is_next first n (first + n) ≡ false
not_yet first n = grind (arith, common_steps)

pub count_none : (test : ℕ → Bool) → 0 ≡ count_below 0 test
unfolding count_below
count_none test = refl

pub same_of : (d e : ℕ) → (d == e) ≡ true → d ≡ e
same_of d e h = grind (arith, common_steps)

-- ---- room

-- there is room for a place
pub room_made : {T : Type 0} (values : ByDoubleword T) (p : PlaceValue) (least : ℕ) → ((d : ℕ) → p.addr / 8 ≤ d → d < p.addr / 8 + p.len / 8 → d < 2097152 → d < least) → least ≤ length values.below → p.addr / 8 + p.len / 8 - 2097152 ≤ length values.above → HasRoom values p
room_made values p least below least_below above d h = at (nat_lt d 2097152) refl where
  from : p.addr / 8 ≤ d
  from = grind (arith, common_steps)

  to : d < p.addr / 8 + p.len / 8
  to = grind (arith, common_steps)

  at : (b : Bool) → nat_lt d 2097152 ≡ b → (if b then nat_lt d (length values.below) else nat_lt (d - 2097152) (length values.above)) ≡ true
  at true is = let small : d < 2097152 = grind (arith, common_steps) in let in_it = below d from to small in grind (arith, common_steps)
  at false is = let large : 2097152 ≤ d = grind (arith, common_steps) in let end = to in grind (arith, common_steps)

-- a doubleword of a place
pub inside : (p : PlaceValue) (k : ℕ) → k < p.len / 8 → has_doubleword p (p.addr / 8 + k) ≡ true
inside p k h = grind (arith, common_steps)
