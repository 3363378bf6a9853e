-- A region as a list of pages, each blank or a list of bytes, and as one row of bytes.
use Rattle.std.specs.Prelude.{◌≡◌, ℕ, zero, suc, ◌+◌, ◌-◌, ◌/◌, ◌%◌, ◌<◌, ◌≤◌, Bool, true, false, List, [], ◌∷◌, ◌++◌, map, length, take, drop, replicate, get_or, slice_index, Option, Some, None, is_some, unwrap_or, ⊤}
use Rattle.std.specs.Int.{from_be_bytes, w32}
use Rattle.mvs_model.specs.Numbers.{page_bytes}
use Rattle.region_raw.specs.Rows.{overlaid, run, values}

-- pages, each blank (None) or with its bytes
abbrev pub Pages : Type 0
Pages = List (Option (List ℕ))

-- the bytes of one page of a size
abbrev pub page_row : ℕ → Option (List ℕ) → List (Option ℕ)
page_row size None = replicate size None
page_row size (Some bytes) = map Some bytes

-- the bytes of the pages, one after another
abbrev pub spread : ℕ → Pages → List (Option ℕ)
spread size [] = []
spread size (p ∷ ps) = page_row size p ++ spread size ps

-- each page that is open has its size in bytes
abbrev pub ArePages : ℕ → Pages → Type 0
ArePages size [] = ⊤
ArePages size (None ∷ ps) = ArePages size ps
ArePages size (Some bytes ∷ ps) = (length bytes ≡ size) × ArePages size ps

-- the page that a row of bytes is: blank if its first byte is
abbrev pub page_of : List (Option ℕ) → Option (List ℕ)
page_of [] = None
page_of (None ∷ cs) = None
page_of (Some b ∷ cs) = Some (b ∷ values cs)

-- a row of bytes, cut into n pages
abbrev pub pages_of : ℕ → ℕ → List (Option ℕ) → Pages
pages_of size zero cs = []
pages_of size (suc n) cs = page_of (take size cs) ∷ pages_of size n (drop size cs)

-- whether there is such a page and it is open
abbrev pub is_open : Pages → ℕ → Bool
is_open ps p = is_some (get_or ps p None)

-- there is such a page, and it is blank
abbrev pub IsBlank : Pages → ℕ → Type 0
IsBlank ps p = (p < length ps) × (is_open ps p ≡ false)

-- the byte at an index of a page, if the page is open
abbrev pub byte_in : Option (List ℕ) → ℕ → Option ℕ
byte_in None i = None
byte_in (Some bytes) i = Some (slice_index bytes i)

-- the byte at an index of a region, if its page is open
abbrev pub byte_of : Pages → ℕ → Option ℕ
byte_of ps k = byte_in (get_or ps (k / page_bytes) None) (k % page_bytes)

-- the value of the byte at an index of a region, where its page is open
abbrev pub value_at : Pages → ℕ → ℕ
value_at ps k = unwrap_or (byte_of ps k) 0

-- the word in the four bytes from an index of a region on, the high byte first
abbrev pub word_of : Pages → ℕ → ℕ
word_of ps k = from_be_bytes w32 (value_at ps k ∷ value_at ps (k + 1) ∷ value_at ps (k + 2) ∷ value_at ps (k + 3) ∷ [])

-- there is a byte, and each of the n bytes from an index of a region on is in an open page
abbrev pub IsPart : Pages → ℕ → ℕ → Type 0
IsPart ps at n = (1 ≤ n) × ((k : ℕ) → at ≤ k → k < at + n → is_open ps (k / page_bytes) ≡ true)

-- the bytes of a region, one after another
abbrev pub row_of : Pages → List (Option ℕ)
row_of ps = spread page_bytes ps

-- the values of the n bytes from an index of a region on
abbrev pub part_of : Pages → ℕ → ℕ → List ℕ
part_of ps at n = run (row_of ps) at n

-- the pages with values in place of those from an index of a region on
abbrev pub with_part : Pages → ℕ → List ℕ → Pages
with_part ps at ws = pages_of page_bytes (length ps) (overlaid (row_of ps) at ws)

-- The values are at an index of a region and after it, in the open pages. Nothing else has changed.
pub record Writes (old : Pages) (at : ℕ) (ws : List ℕ) (new : Pages) : Type 0 where
  pub sizes : length new ≡ length old
  pub pages : (p : ℕ) → is_open new p ≡ is_open old p
  pub bytes : (k : ℕ) → at ≤ k → k < at + length ws → is_open old (k / page_bytes) ≡ true → byte_of new k ≡ Some (slice_index ws (k - at))
  pub others : (k : ℕ) → (at ≤ k → at + length ws ≤ k) → byte_of new k ≡ byte_of old k
