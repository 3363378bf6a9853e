-- What was consumed of a reader and what was written then, where both are known.
use Rattle.std.specs.Prelude.{◌≡◌, ◌++◌, ℕ, List, Option, Some, None}
use Rattle.std.specs.Io.KnownBytes.{Appends, Consumes}

-- These bytes are left to be read, where that is known.
abbrev pub IsRest : Option (List ℕ) → List ℕ → Type 0
IsRest None rest = Unit {0}
IsRest (Some xs) rest = xs ≡ rest

-- Some bytes of the reader were consumed, with a rest left, and some were written. P holds of what was consumed, of the script, which
-- is that and the rest, and of what was written.
abbrev pub Exchanges : Option (List ℕ) → Option (List ℕ) → Option (List ℕ) → Option (List ℕ) → (List ℕ → List ℕ → List ℕ → Type 0) → Type 0
Exchanges unread left before after P = (consumed : List ℕ) × (rest : List ℕ) × (written : List ℕ) × Consumes unread left consumed × IsRest left rest × Appends before after written × P consumed (consumed ++ rest) written
