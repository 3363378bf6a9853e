-- The lines of a text begin and end in it.
use Rattle.std.proofs.Common.{◌≡◌, ℕ, zero, suc, ◌+◌, ◌==◌, ◌≤◌, Bool, true, false, List, [], ◌∷◌, Some, None, length, arith, refl, sym}
use Rattle.std.specs.Prelude.{Option, slice_get, unwrap_or}
use Rattle.language_server.specs.Spans.{LinesAreInTexts, before_or, line_starts, onto_start, starts_from}

-- one byte more
one_more : (c : Bool) (at m s n : ℕ) (starts : List ℕ) → ((k t : ℕ) → slice_get starts k ≡ Some t → t ≤ (at + 1) + n) → slice_get (onto_start c (at + 1) starts) m ≡ Some s → s ≤ at + (n + 1)
one_more true at zero s n starts more e = let same : at + 1 ≡ s = cc in omega arith
one_more true at (suc m) s n starts more e = let h : s ≤ (at + 1) + n = more m s e in omega arith
one_more false at m s n starts more e = let h : s ≤ (at + 1) + n = more m s e in omega arith

start_most : (text : List ℕ) (at n s : ℕ) → slice_get (starts_from at text) n ≡ Some s → s ≤ at + length text
start_most [] at n s is = let none : Some s ≡ slice_get [] n = sym is in absurd cc
start_most (b ∷ text) at n s is =
    let h : s ≤ at + (length text + 1) = one_more (b == 10) at n s (length text) (starts_from (at + 1) text) (λ k t e. start_most text (at + 1) k t e) is in
    let long : length (b ∷ text) ≡ length text + 1 = omega arith in
    omega (arith, h, long)

most : (text : List ℕ) (n s : ℕ) → slice_get (line_starts text) n ≡ Some s → s ≤ length text
unfolding line_starts
most text zero s is = let same : 0 ≡ s = cc in omega arith
most text (suc n) s is = let h : s ≤ 0 + length text = start_most text 0 n s is in omega arith

pub lines_are_in : LinesAreInTexts
lines_are_in text n = (start (slice_get (line_starts text) n) refl, end (slice_get (line_starts text) (n + 1)) refl) where
  start : (o : Option ℕ) → slice_get (line_starts text) n ≡ o → unwrap_or o (length text) ≤ length text
  start None is = omega arith
  start (Some s) is = most text n s is

  end : (o : Option ℕ) → slice_get (line_starts text) (n + 1) ≡ o → before_or o (length text) ≤ length text
  end None is = omega arith
  end (Some s) is = let h : s ≤ length text = most text (n + 1) s is in omega arith
