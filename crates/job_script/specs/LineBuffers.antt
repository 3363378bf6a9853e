-- What is kept of a line as it comes.
use Rattle.std.specs.Prelude.{◌≡◌, ◌≢◌, ℕ, ◌<◌, List, [], ◌∷◌, ◌++◌, length}
use Rattle.job_script.specs.declared.line_buffer.Pushed.{Pushed}
use Rattle.job_script.specs.declared.line_buffer.Pushed.TheVariants.{Line, Full, More}

-- What a byte makes of what is kept: X'0A' ends the line and is not kept; every other byte is, and the 256th fills it. (this
-- project's choice)
abbrev pub Pushes : List ℕ → ℕ → Pushed → List ℕ → Type 0
Pushes old byte Line new = (byte ≡ 10) × (new ≡ old)
Pushes old byte Full new = (byte ≢ 10) × (new ≡ old ++ byte ∷ []) × (length new ≡ 256)
Pushes old byte More new = (byte ≢ 10) × (new ≡ old ++ byte ∷ []) × (length new < 256)
