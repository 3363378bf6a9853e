-- The bytes of a line that is read.
use Rattle.std.proofs.Common.{◌≡◌, ◌≢◌, ◌≤◌, ◌<◌, ◌+◌, ℕ, zero, suc, Bool, true, false, List, [], ◌∷◌, ◌++◌, append-nil, length, length-append, take, Option, arith, refl, sym, ap, ◌∙◌, subst}
use Rattle.std.specs.Io.KnownBytes.{Consumes}
use Rattle.std.proofs.KnownBytes.{Consumes-trans}
use Rattle.std.proofs.lemmas.List.{take_all}
use Rattle.job_script.specs.LineBuffers.{Pushes}
use Rattle.job_script.specs.declared.line_buffer.Pushed.{Pushed}
use Rattle.job_script.specs.declared.line_buffer.Pushed.TheVariants.{Full, Line, More}
use Rattle.mvs_model.specs.Lines.{IsUnended}
use Rattle.shell.specs.Inputs.{Begins, Finds, Reads}
use Rattle.shell.specs.declared.input.Next.{Next}

unended_more : (line : List ℕ) (b : ℕ) → IsUnended line → b ≢ 10 → IsUnended (line ++ b ∷ [])
unended_more [] b none other = (other, tt)
unended_more (x ∷ line) b none other = (none.0, unended_more line b none.1 other)

take_short : (n : ℕ) (line : List ℕ) (b : ℕ) → length (take n line) < n → take n (line ++ b ∷ []) ≡ take n line ++ b ∷ []
take_short zero line b short = absurd (omega (arith, short))
take_short (suc n) [] b short = ap (λ x. b ∷ x) (take_all n [] (omega arith))
take_short (suc n) (x ∷ line) b short = ap (λ y. x ∷ y) (take_short n line b (omega (arith, short)))

take_full : (n : ℕ) (line : List ℕ) (b : ℕ) → n ≤ length (take n line) → take n (line ++ b ∷ []) ≡ take n line
take_full zero line b full = refl
take_full (suc n) [] b full = absurd (omega (arith, full))
take_full (suc n) (x ∷ line) b full = ap (λ y. x ∷ y) (take_full n line b (omega (arith, full)))

pub pushed_byte : (old : List ℕ) (b : ℕ) (result : Pushed) (new : List ℕ) → Pushes old b result new → b ≢ 10 → new ≡ old ++ b ∷ []
pushed_byte old b Line new (end, same) other = absurd (other end)
pushed_byte old b Full new (kept, is, full) other = is
pushed_byte old b More new (kept, is, short) other = is

pub found_so : (unread left : Option (List ℕ)) (was ended : Bool) (count new : ℕ) (next other : Next) → next ≡ other → Finds unread left was ended count new next → Finds unread left was ended count new other
found_so unread left was ended count new next other is found = subst (Finds unread left was ended count new) is found

module _ (unread left later : Option (List ℕ)) (was : Bool) (first : List ℕ) (begun : Begins unread left was first) (goes_on : was ≡ false) where
  not_ended : (line : List ℕ) → was ≡ true → line ≡ []
  not_ended line e = absurd (let f : true ≡ false = sym e ∙ goes_on in cc)

  -- a byte that is kept, and one for which there is no room
  pub byte_kept : (b : ℕ) (new : List ℕ) → Consumes left later (b ∷ []) → b ≢ 10 → length first < 256 → new ≡ first ++ b ∷ [] → Begins unread later was new
  byte_kept b new read other room is =
      let short : length (take 256 begun.0) < 256 = subst (λ x. length x < 256) begun.2 room in
      let same : new ≡ take 256 (begun.0 ++ b ∷ []) = is ∙ ap (λ x. x ++ b ∷ []) begun.2 ∙ sym (take_short 256 begun.0 b short) in
      (begun.0 ++ b ∷ [], unended_more begun.0 b begun.1 other, same, Consumes-trans unread left later begun.0 (b ∷ []) begun.3 read, not_ended (begun.0 ++ b ∷ []))

  pub byte_dropped : (b : ℕ) → Consumes left later (b ∷ []) → b ≢ 10 → 256 ≤ length first → Begins unread later was first
  byte_dropped b read other full =
      let long : 256 ≤ length (take 256 begun.0) = subst (λ x. 256 ≤ length x) begun.2 full in
      let same : first ≡ take 256 (begun.0 ++ b ∷ []) = begun.2 ∙ sym (take_full 256 begun.0 b long) in
      (begun.0 ++ b ∷ [], unended_more begun.0 b begun.1 other, same, Consumes-trans unread left later begun.0 (b ∷ []) begun.3 read, not_ended (begun.0 ++ b ∷ []))

  pub line_read : (ended : Bool) → ended ≡ false → Consumes left later (10 ∷ []) → Reads unread later ended first
  line_read true e read = absurd (let f : true ≡ false = e in cc)
  line_read false e read = (begun.0, begun.1, begun.2, Consumes-trans unread left later begun.0 (10 ∷ []) begun.3 read)

module _ (unread left later : Option (List ℕ)) (was : Bool) (first : List ℕ) (begun : Begins unread left was first) where
  pub last_read : (ended : Bool) → ended ≡ true → Consumes left later [] → Reads unread later ended first
  last_read false e read = absurd (let f : false ≡ true = e in cc)
  last_read true e read = (begun.0, begun.1, begun.2, subst (Consumes unread later) (append-nil begun.0) (Consumes-trans unread left later begun.0 [] begun.3 read))

  -- a line of which something was read was not at the end before
  pub some_read : 0 < length first → was ≡ false
  some_read h = at was begun.4 where
    at : (b : Bool) → (b ≡ true → begun.0 ≡ []) → b ≡ false
    at false none = refl
    at true none = absurd (let e : length first ≡ 0 = ap length (begun.2 ∙ ap (take 256) (none refl) ∙ take_all 256 [] (omega arith)) in omega (arith, e, h))

  no_first : (line : List ℕ) → length (take 256 line) ≡ 0 → line ≡ []
  no_first [] e = refl
  no_first (x ∷ line) e = absurd (omega (arith, e))

  pub nothing_read : length first ≡ 0 → Consumes left later [] → Consumes unread later []
  nothing_read e read =
      let none : begun.0 ≡ [] = no_first begun.0 (sym (ap length begun.2) ∙ e) in
      subst (Consumes unread later) (append-nil begun.0 ∙ none) (Consumes-trans unread left later begun.0 [] begun.3 read)
