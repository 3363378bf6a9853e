-- A reader of lines.
use Rattle.std.specs.Prelude.{◌≡◌, ◌≢◌, ◌+◌, ℕ, Bool, true, false, List, [], ◌∷◌, ◌++◌, take, Option}
use Rattle.std.specs.Io.KnownBytes.{Consumes}
use Rattle.mvs_model.specs.Lines.{IsUnended}
use Rattle.mvs_model.specs.Watched.{WatchedValue}
use Rattle.shell.specs.declared.input.Next.{Next}
use Rattle.shell.specs.declared.input.Next.TheVariants.{Byte, End, Line}

-- The reader, how many bytes were read, and whether it was found to be at its end.
pub record InputValue (R : Type 0) : Type 0 where
  pub inner : WatchedValue R
  pub count : ℕ
  pub ended : Bool

-- A reader, and the bytes that were read of it and not given yet.
pub record AheadValue (R : Type 0) : Type 0 where
  pub inner : R
  pub ahead : List ℕ

-- The bytes of a line were read: with the byte that ends it, or up to the end of the reader.
abbrev pub ReadsLine : Option (List ℕ) → Option (List ℕ) → Bool → List ℕ → Type 0
ReadsLine unread left false line = Consumes unread left (line ++ 10 ∷ [])
ReadsLine unread left true line = Consumes unread left line

-- A line was read, and these are its first 256 bytes.
abbrev pub Reads : Option (List ℕ) → Option (List ℕ) → Bool → List ℕ → Type 0
Reads unread left ended first = (line : List ℕ) × IsUnended line × (first ≡ take 256 line) × ReadsLine unread left ended line

-- The bytes of a line were read that has not ended, and these are its first 256. There are none, if the reader was found to be at its
-- end before.
abbrev pub Begins : Option (List ℕ) → Option (List ℕ) → Bool → List ℕ → Type 0
Begins unread left was first = (line : List ℕ) × IsUnended line × (first ≡ take 256 line) × Consumes unread left line × (was ≡ true → line ≡ [])

-- What a read of one byte finds, of a reader that was found to be at its end before, or not.
abbrev pub Finds : Option (List ℕ) → Option (List ℕ) → Bool → Bool → ℕ → ℕ → Next → Type 0
Finds unread left was ended count new (Byte b) = Consumes unread left (b ∷ []) × (b ≢ 10) × (was ≡ false) × (ended ≡ false) × (new ≡ count + 1)
Finds unread left was ended count new Line = Consumes unread left (10 ∷ []) × (was ≡ false) × (ended ≡ false) × (new ≡ count + 1)
Finds unread left was ended count new End = Consumes unread left [] × (ended ≡ true) × (new ≡ count)
