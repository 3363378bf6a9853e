-- The words of a page, as its bytes.
use Rattle.std.proofs.Common.{◌≡◌, ◌∙◌, ℕ, ◌+◌, ◌-◌, ◌*◌, ◌/◌, ◌%◌, ◌^◌, ◌<◌, ◌≤◌, [], ◌∷◌, get_or, Option, Some, true, sym, ap, arith, unwrap_or, w32}
use Rattle.std.proofs.lemmas.Bool.{cases_lt}
use Rattle.std.proofs.lemmas.Nat.{from_be_bytes-to_be_bytes_4}
use Rattle.std.specs.Int.{from_be_bytes, to_be_bytes}
use Rattle.std.proofs.lemmas.Bool.Decides.{nat_tests}
use Rattle.mvs_model.specs.Numbers.{page_bytes}
use Rattle.region_raw.specs.Pages.{Pages, Writes, byte_of, is_open, word_of}
use Rattle.free_queue.specs.Runs.{Keeps, Same, page_of, word}

-- a word is that of its four bytes
word_from : (v : ℕ → Option ℕ) (o : ℕ) (a b c d : Option ℕ) → v o ≡ a → v (o + 1) ≡ b → v (o + 2) ≡ c → v (o + 3) ≡ d → word v o ≡ from_be_bytes w32 (unwrap_or a 0 ∷ unwrap_or b 0 ∷ unwrap_or c 0 ∷ unwrap_or d 0 ∷ [])
word_from v o a b c d e f g h = λ i. from_be_bytes w32 (unwrap_or (e i) 0 ∷ unwrap_or (f i) 0 ∷ unwrap_or (g i) 0 ∷ unwrap_or (h i) 0 ∷ [])

-- the word at an offset of a page is that of the region
pub word_here : (ps : Pages) (p at k : ℕ) → k ≡ page_bytes * p + at → word_of ps k ≡ word (page_of ps p) at
word_here ps p at k h1 = grind (arith, nat_tests, word_from)

-- a doubleword with the same bytes has the same words
pub same_words : (v w : ℕ → Option ℕ) (d : ℕ) → d % 8 ≡ 0 → Same v w d → (word w d ≡ word v d) × (word w (d + 4) ≡ word v (d + 4))
same_words v w d whole same =
    let at : (i : ℕ) → i < 8 → w (d + i) ≡ v (d + i) = same whole in
    let zero_is : d ≡ d + 0 = omega arith in
    let moved : (i : ℕ) → d + (4 + i) ≡ d + 4 + i = λ i. omega arith in
    let past : (i : ℕ) → 4 + i < 8 → w (d + 4 + i) ≡ v (d + 4 + i) = λ i low. ap w (sym (moved i)) ∙ at (4 + i) low ∙ ap v (moved i) in (
      word_from w d (v d) (v (d + 1)) (v (d + 2)) (v (d + 3)) (ap w zero_is ∙ at 0 (omega arith) ∙ ap v (sym zero_is)) (at 1 (omega arith)) (at 2 (omega arith)) (at 3 (omega arith)),
      word_from w (d + 4) (v (d + 4)) (v (d + 4 + 1)) (v (d + 4 + 2)) (v (d + 4 + 3)) (at 4 (omega arith)) (past 1 (omega arith)) (past 2 (omega arith)) (past 3 (omega arith)),
    )

-- the word that is put is read again
pub put_reads : (old new : Pages) (p at k w : ℕ) → k ≡ page_bytes * p + at → at + 4 ≤ page_bytes → is_open old p ≡ true → w < 2 ^ 32 → Writes old k (to_be_bytes w32 w) new → word (page_of new p) at ≡ w
put_reads old new p at k w e inside there small writes =
    let bs = to_be_bytes w32 w in
    let here : (i : ℕ) → i < 4 → byte_of new (page_bytes * p + (at + i)) ≡ Some (get_or bs i 0) = λ i low.
    let is : page_bytes * p + (at + i) ≡ k + i = omega (arith, e) in let back : k + i - k ≡ i = omega arith in let page : (k + i) / page_bytes ≡ p = omega (arith, e, inside, low) in
    ap (byte_of new) is ∙ writes.bytes (k + i) (omega arith) (omega (arith, low)) (ap (is_open old) page ∙ there) ∙ ap (λ j. Some (get_or bs j 0)) back in
    let none : at ≡ at + 0 = omega arith in
    word_from (page_of new p) at (Some (get_or bs 0 0)) (Some (get_or bs 1 0)) (Some (get_or bs 2 0)) (Some (get_or bs 3 0)) (ap (page_of new p) none ∙ here 0 (omega arith)) (here 1 (omega arith)) (here 2 (omega arith)) (here 3 (omega arith))
    ∙ from_be_bytes-to_be_bytes_4 w small

-- what a word that is put leaves
pub put_leaves : (old new : Pages) (p at k w : ℕ) → k ≡ page_bytes * p + at → Writes old k (to_be_bytes w32 w) new → (o : ℕ) → (at ≤ o → at + 4 ≤ o) → page_of new p o ≡ page_of old p o
put_leaves old new p at k w e writes o out = writes.others (page_bytes * p + o) (λ from. let past : at + 4 ≤ o = out (omega (arith, e, from)) in omega (arith, e, past))

-- and what two of them leave
module _ (old mid new : Pages) (p at k k' next n : ℕ) (e : k ≡ page_bytes * p + at) (e' : k' ≡ page_bytes * p + (at + 4)) (inside : at + 8 ≤ page_bytes)
    (one : Writes old k (to_be_bytes w32 next) mid) (two : Writes mid k' (to_be_bytes w32 n) new) where
  pub two_next : is_open old p ≡ true → next < 2 ^ 32 → word (page_of new p) at ≡ next
  two_next there small =
      let left : (i : ℕ) → i < 4 → page_of new p (at + i) ≡ page_of mid p (at + i) = λ i low. put_leaves mid new p (at + 4) k' n e' two (at + i) (λ from. absurd (omega (arith, from, low))) in
      let none : at ≡ at + 0 = omega arith in
      word_from (page_of new p) at (page_of mid p at) (page_of mid p (at + 1)) (page_of mid p (at + 2)) (page_of mid p (at + 3)) (ap (page_of new p) none ∙ left 0 (omega arith) ∙ ap (page_of mid p) (sym none)) (left 1 (omega arith)) (left 2 (omega arith)) (left 3 (omega arith))
      ∙ put_reads old mid p at k next e (omega (arith, inside)) there small one

  pub two_same : at % 8 ≡ 0 → (d : ℕ) → (d ≡ at → ⊥) → Same (page_of old p) (page_of new p) d
  two_same h1 d h2 = grind (arith, nat_tests, put_leaves, cases_lt)

  pub two_keeps : Keeps old p new
  two_keeps = grind (arith, nat_tests, cases_lt)
