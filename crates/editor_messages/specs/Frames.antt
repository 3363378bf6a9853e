-- Frames: the header of a message, as in HTTP, and its content.
use Rattle.std.specs.Prelude.{ℕ, ◌≤◌, ◌+◌, ◌-◌, ◌&&◌, ◌==◌, nat_lt, nat_le, bytes_eq, Bool, if◌then◌else◌, List, [], ◌∷◌, map, length, take, codes, Option, Some, None, option_map, slice_get, unwrap_or}
use Rattle.std.specs.List.{after_first, before_first}
use Rattle.std.specs.Char.{to_ascii_lowercase}
use Rattle.mvs_model.specs.Lines.{lines_of}
use Rattle.mvs_model.specs.Reading.{is_number, number, words}
use Rattle.expected_answers.specs.Blank.{place_of}
use Rattle.editor_messages.specs.declared.frames.Frame.{Frame}
use Rattle.editor_messages.specs.declared.frames.Frame.TheVariants as frame

-- the most bytes of a header, and of the content of a message
abbrev pub most_header : ℕ
most_header = 4096

abbrev pub most_content : ℕ
most_content = 33554432

-- the number of bytes of a header, with the empty line that ends it
abbrev pub header_len : List ℕ → Option ℕ
header_len bytes = option_map (λ n. n + 4) (place_of (13 ∷ 10 ∷ 13 ∷ 10 ∷ []) bytes)

-- the value of a field of a header: its first word
abbrev pub value_of : List ℕ → List ℕ
value_of line = unwrap_or (slice_get (words (after_first (λ b. b == 58) line)) 0) []

-- whether a line is the field of the length
abbrev pub is_length : List ℕ → Bool
is_length line = bytes_eq (map to_ascii_lowercase (before_first (λ b. b == 58) line)) (codes "content-length")

-- the length that at most ten digits give
abbrev pub length_from : List ℕ → Option ℕ
length_from digits = if is_number digits && nat_le (length digits) 10 then Some (number digits) else None

-- the length that a line of a header gives, up to its carriage return
abbrev pub length_in : List ℕ → Option ℕ
length_in line = let field : List ℕ = before_first (λ b. b == 13) line in if is_length field then length_from (value_of field) else None

-- the first length that lines give
abbrev pub or_else : Option ℕ → Option ℕ → Option ℕ
or_else None other = other
or_else (Some n) other = Some n

abbrev pub length_of : List (List ℕ) → Option ℕ
length_of [] = None
length_of (l ∷ lines) = or_else (length_in l) (length_of lines)

-- what bytes are that begin with a header of this size, which gives this length
abbrev pub content_of : List ℕ → ℕ → ℕ → Frame
content_of bytes header n =
    if nat_lt most_content n then frame.TooLong header n
    else if nat_lt (length bytes - header) n then frame.Incomplete
    else frame.Content header (header + n)

abbrev pub with_length : List ℕ → ℕ → Option ℕ → Frame
with_length bytes header None = frame.NoLength header
with_length bytes header (Some n) = content_of bytes header n

-- What some bytes begin with. Bytes without a header are none as soon as they are as many as a header has at most, and so is a header
-- that is longer. The last three bytes may begin what ends a header.
abbrev pub with_header : List ℕ → Option ℕ → Frame
with_header bytes None = if nat_lt (length bytes) most_header then frame.Incomplete else frame.NoLength (length bytes - 3)
with_header bytes (Some n) = if nat_lt most_header n then frame.NoLength n else with_length bytes n (length_of (lines_of (take n bytes)))

abbrev pub frame_of : List ℕ → Frame
frame_of bytes = with_header bytes (header_len bytes)

-- The places of a frame are in the bytes.
abbrev pub IsWithin : Frame → ℕ → Type 0
IsWithin frame.Incomplete n = Unit {0}
IsWithin (frame.Content start end) n = (start ≤ end) × (end ≤ n)
IsWithin (frame.NoLength count) n = count ≤ n
IsWithin (frame.TooLong header size) n = header ≤ n

-- the most bytes of a message that is not complete
abbrev pub most_incomplete : ℕ
most_incomplete = 33558528

-- A message that is not complete has at most as many bytes as a header and a content.
abbrev pub IsShort : Frame → ℕ → Type 0
IsShort frame.Incomplete n = n ≤ most_incomplete
IsShort f n = Unit {0}
