-- The bytes that have arrived and were not read yet.
use Rattle.std.specs.Prelude.{ℕ, ◌-◌, List, ◌++◌, length, drop}
use Rattle.editor_messages.specs.declared.frames.Frame.{Frame}
use Rattle.editor_messages.specs.declared.frames.Frame.TheVariants as frame

-- these bytes, and how many of those that arrive next are left out
pub record InputValue : Type 0 where
  pub rest : List ℕ
  pub skipped : ℕ

-- after more bytes have arrived
abbrev pub with_more : InputValue → List ℕ → InputValue
with_more i more = record { rest = i.rest ++ drop i.skipped more; skipped = i.skipped - length more }

-- after a number of bytes are left out, also of those that have not arrived yet
abbrev pub without : InputValue → ℕ → InputValue
without i n = record { rest = drop n i.rest; skipped = n - length i.rest }

-- after the frame with which the bytes begin
abbrev pub after_frame : InputValue → Frame → InputValue
after_frame i frame.Incomplete = i
after_frame i (frame.Content start end) = without i end
after_frame i (frame.NoLength n) = without i n
after_frame i (frame.TooLong header n) = without (without i header) n
