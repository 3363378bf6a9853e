-- Texts, parted at bytes.
use Rattle.std.specs.Prelude.{◌≡◌, ◌++◌, ℕ, suc, ◌+◌, ◌-◌, List, [], ◌∷◌, ◌==◌, ◌&&◌, ◌||◌, not, Bool, true, if◌then◌else◌}

-- The text ends with another one.
abbrev pub IsEnd : List ℕ → List ℕ → Type 0
IsEnd text end = (front : List ℕ) × (text ≡ front ++ end)

-- whether no blank comes first
abbrev pub starts_word : List ℕ → Bool
starts_word [] = true
starts_word (b ∷ bs) = not (b == 32)

-- the number of open parentheses after a byte; an unmatched one is ignored
abbrev pub opened_after : ℕ → ℕ → ℕ
opened_after opened b = if b == 40 then opened + 1 else (if b == 41 then opened - 1 else opened)

-- whether the byte is a comma outside parentheses
abbrev pub splits_at : ℕ → ℕ → Bool
splits_at opened b = (b == 44) && (opened == 0)

-- what a text starts with: all before its first blank
abbrev pub field_in : List ℕ → List ℕ
field_in [] = []
field_in (b ∷ bs) = if b == 32 then [] else b ∷ field_in bs

-- whether the byte ends an operand: it is a blank, or such a comma
abbrev pub ends_at : ℕ → ℕ → Bool
ends_at opened b = (b == 32) || splits_at opened b

-- where the first operand ends, in a text with a number of open parentheses
abbrev pub end_from : ℕ → List ℕ → ℕ
end_from opened [] = 0
end_from opened (b ∷ bs) = if ends_at opened b then 0 else suc (end_from (opened_after opened b) bs)
