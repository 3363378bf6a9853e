-- Actions that mend what diagnostics report.
use Rattle.std.proofs.Common.{◌≡◌, ℕ, suc, ◌+◌, ◌-◌, ◌<◌, Bool, true, false, if◌then◌else◌, List, arith, ap, refl, ◌∙◌}
use Rattle.std.specs.Str.{IsUtf8, is_utf8}
use Rattle.std.proofs.lemmas.Str.{IsUtf8-from_is_utf8}
use Rattle.language_server.specs.Fixes.{begins_step, ends_itself, later_line, release_line}
use Rattle.language_server.specs.Names.{begins_statement}
use Rattle.language_server.specs.Spans.{line_bytes}

-- one line of those after a statement
pub release_step : (text task : List ℕ) (last n m : ℕ) → n < m
    → release_line text task last n (m - n)
    ≡ (if begins_step (line_bytes text n) then last + 1
    else if ends_itself task (line_bytes text n) then n else release_line text task (later_line last n (begins_statement (line_bytes text n))) (n + 1) (m - (n + 1)))
release_step text task last n m less = let e : m - n ≡ suc (m - (n + 1)) = omega arith in ap (release_line text task last n) e

-- a line begins a step
pub release_begins : (text task : List ℕ) (last n m : ℕ) → n < m → begins_step (line_bytes text n) ≡ true → release_line text task last n (m - n) ≡ last + 1
release_begins text task last n m less so =
    release_step text task last n m less
    ∙ ap
    (λ b. if b then last + 1
    else if ends_itself task (line_bytes text n) then n else release_line text task (later_line last n (begins_statement (line_bytes text n))) (n + 1) (m - (n + 1)))
    so

-- the task ends in a line
pub release_ends : (text task : List ℕ) (last n m : ℕ) → n < m → begins_step (line_bytes text n) ≡ false → ends_itself task (line_bytes text n) ≡ true → release_line text task last n (m - n) ≡ n
release_ends text task last n m less none so =
    release_step text task last n m less
    ∙ ap
    (λ b. if b then last + 1
    else if ends_itself task (line_bytes text n) then n else release_line text task (later_line last n (begins_statement (line_bytes text n))) (n + 1) (m - (n + 1)))
    none
    ∙ ap (λ b. if b then n else release_line text task (later_line last n (begins_statement (line_bytes text n))) (n + 1) (m - (n + 1))) so

-- any other line
pub release_goes_on : (text task : List ℕ) (last n m : ℕ) → n < m → begins_step (line_bytes text n) ≡ false → ends_itself task (line_bytes text n) ≡ false
    → release_line text task last n (m - n) ≡ release_line text task (later_line last n (begins_statement (line_bytes text n))) (n + 1) (m - (n + 1))
release_goes_on text task last n m less none not_it =
    release_step text task last n m less
    ∙ ap
    (λ b. if b then last + 1
    else if ends_itself task (line_bytes text n) then n else release_line text task (later_line last n (begins_statement (line_bytes text n))) (n + 1) (m - (n + 1)))
    none
    ∙ ap (λ b. if b then n else release_line text task (later_line last n (begins_statement (line_bytes text n))) (n + 1) (m - (n + 1))) not_it

pub later_most : (last n : ℕ) (b : Bool) → last < n → later_line last n b < n + 1
later_most last n true less = omega arith
later_most last n false less = omega arith

-- bytes that are no text
pub not_utf8 : (bytes : List ℕ) → (IsUtf8 bytes → ⊥) → is_utf8 bytes ≡ false
not_utf8 bytes none = by (is_utf8 bytes) refl where
  by : (b : Bool) → is_utf8 bytes ≡ b → is_utf8 bytes ≡ false
  by true e = absurd (none (IsUtf8-from_is_utf8 bytes e))
  by false e = e
