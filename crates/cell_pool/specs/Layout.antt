-- The layout of a part of a pool in storage: sixteen bytes with four words, the flags, and the cells.
use Rattle.std.specs.Prelude.{◌≡◌, ℕ, ◌+◌, ◌-◌, ◌*◌, ◌/◌, ◌%◌, ◌<◌, ◌≤◌, ◌==◌, Bool, false, [], ◌∷◌, unwrap_or}
use Rattle.std.specs.Int.{bit_at, from_be_bytes, w32}
use Rattle.std.specs.FinMap.{get}
use Rattle.mvs_model.specs.Finite.{count_below}
use Rattle.mvs_model.specs.Storage.{Storage}

-- the byte at an address
abbrev pub byte_of : Storage → ℕ → ℕ
byte_of st a = unwrap_or (get st.bytes a) 0

-- the word at an address, its high byte first
unfoldable pub word : (ℕ → ℕ) → ℕ → ℕ
word m a = from_be_bytes w32 (m a ∷ m (a + 1) ∷ m (a + 2) ∷ m (a + 3) ∷ [])

-- the four words of the part at an address: the address of the next part, 0 at the last; how many cells it has; how many of
-- them are taken; and how long a cell is. (this project's choice)
abbrev pub next_at : (ℕ → ℕ) → ℕ → ℕ
next_at m a = word m a

abbrev pub count_at : (ℕ → ℕ) → ℕ → ℕ
count_at m a = word m (a + 4)

abbrev pub taken_at : (ℕ → ℕ) → ℕ → ℕ
taken_at m a = word m (a + 8)

abbrev pub size_at : (ℕ → ℕ) → ℕ → ℕ
size_at m a = word m (a + 12)

-- the flag of a cell, which is set if it is taken: bit 0 is the high bit of the first byte after the words. (this project's choice)
unfoldable pub flag : (ℕ → ℕ) → ℕ → ℕ → Bool
flag m a i = bit_at (m (a + 16 + i / 8)) (7 - i % 8) == 1

-- how many flags there are: whole doublewords of them
abbrev pub flag_room : ℕ → ℕ
flag_room count = 64 * ((count + 63) / 64)

-- the number of bytes before the cells
abbrev pub head_length : ℕ → ℕ
head_length count = 16 + 8 * ((count + 63) / 64)

-- The part at the address is of cells of this size, at most 65,536 of them; it says how many of them are taken, and the flags
-- past the last cell are not set. (this project's choice)
pub record IsLaid (m : ℕ → ℕ) (size a : ℕ) : Type 0 where
  pub sized : size_at m a ≡ size
  pub few : count_at m a ≤ 65536
  pub taken : taken_at m a ≡ count_below (count_at m a) (flag m a)
  pub past : (i : ℕ) → count_at m a ≤ i → i < flag_room (count_at m a) → flag m a i ≡ false
