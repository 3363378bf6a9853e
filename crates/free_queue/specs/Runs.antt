-- The free runs of a page, and how the bytes of the page spell them. All is counted in bytes from the page's start.
use Rattle.std.specs.Prelude.{◌≡◌, ℕ, zero, suc, ◌+◌, ◌*◌, ◌%◌, ◌/◌, ◌<◌, ◌≤◌, ◌⊎◌, ◌↔◌, List, [], ◌∷◌, length, Option, Some, None, ⊤, if◌then◌else◌, nat_lt, unwrap_or}
use Rattle.std.specs.Int.{from_be_bytes, w32}
use Rattle.mvs_model.specs.Numbers.{page_bytes}
use Rattle.region_raw.specs.Pages.{Pages, byte_of, is_open}

-- A run: where it begins, and its length.
pub record Run : Type 0 where
  pub from : ℕ
  pub len : ℕ

-- the only run of a page that is all free
abbrev pub whole_page : List Run
whole_page = record { from = 0; len = page_bytes } ∷ []

-- the head of a page that has no run, and the word that ends the chain
abbrev pub end : ℕ
end = 0xFFFFFFFF

-- the byte at an offset of a page
abbrev pub page_of : Pages → ℕ → ℕ → Option ℕ
page_of ps p o = byte_of ps (page_bytes * p + o)

-- the word at an offset of a page, the high byte first
abbrev pub word : (ℕ → Option ℕ) → ℕ → ℕ
word v o = from_be_bytes w32 (unwrap_or (v o) 0 ∷ unwrap_or (v (o + 1)) 0 ∷ unwrap_or (v (o + 2)) 0 ∷ unwrap_or (v (o + 3)) 0 ∷ [])

-- from the run at h on, the page stores the runs: the first word of a run is where the next one begins, the second is its length
abbrev pub Spells : (ℕ → Option ℕ) → ℕ → List Run → Type 0
Spells v h [] = h ≡ end
Spells v h (r ∷ rs) = (h ≡ r.from) × (word v (r.from + 4) ≡ r.len) × Spells v (word v r.from) rs

-- the runs rise from lo on, no two touch, none is empty, and each is of whole doublewords of the page
abbrev pub Rising : ℕ → List Run → Type 0
Rising lo [] = ⊤
Rising lo (r ∷ rs) = (lo ≤ r.from) × (0 < r.len) × (r.from + r.len ≤ page_bytes) × Rising (r.from + r.len + 1) rs × (r.from % 8 ≡ 0) × (r.len % 8 ≡ 0)

-- a queue from lo on: the page stores sorted runs
abbrev pub Queue : ℕ → (ℕ → Option ℕ) → ℕ → List Run → Type 0
Queue lo v h rs = Rising lo rs × Spells v h rs

-- the runs that the page stores from h on, at most n
abbrev pub runs_from : ℕ → (ℕ → Option ℕ) → ℕ → List Run
runs_from zero v h = []
runs_from (suc n) v h = if nat_lt h page_bytes then record { from = h; len = word v (h + 4) } ∷ runs_from n v (word v h) else []

-- the runs that the page stores from h on
unfoldable pub runs_of : (ℕ → Option ℕ) → ℕ → List Run
runs_of v h = runs_from page_bytes v h

-- d is among the n from a on
abbrev pub Within : ℕ → ℕ → ℕ → Type 0
Within a n d = (a ≤ d) × (d < a + n)

-- d is not among the n from a on
abbrev pub Outside : ℕ → ℕ → ℕ → Type 0
Outside a n d = (d < a) ⊎ (a + n ≤ d)

-- d is in a run
abbrev pub IsFree : List Run → ℕ → Type 0
IsFree [] d = ⊥
IsFree (r ∷ rs) d = Within r.from r.len d ⊎ IsFree rs d

-- the n from a on are in one run
abbrev pub Covers : List Run → ℕ → ℕ → Type 0
Covers [] a n = ⊥
Covers (r ∷ rs) a n = ((r.from ≤ a) × (a + n ≤ r.from + r.len)) ⊎ Covers rs a n

-- none of the n from a on is in a run
abbrev pub NoneFree : List Run → ℕ → ℕ → Type 0
NoneFree rs a n = (d : ℕ) → Within a n d → IsFree rs d → ⊥

-- the doubleword at d has the same bytes in both pages
abbrev pub Same : (ℕ → Option ℕ) → (ℕ → Option ℕ) → ℕ → Type 0
Same v w d = d % 8 ≡ 0 → (i : ℕ) → i < 8 → w (d + i) ≡ v (d + i)

-- from h on the page has a queue of what is between a and b and of what is free in rs
abbrev pub Adds : ℕ → ℕ → List Run → (ℕ → Option ℕ) → ℕ → Type 0
Adds a b rs v h = (rs' : List Run) × Queue a v h rs' × ((d : ℕ) → IsFree rs' d ↔ (((a ≤ d) × (d < b)) ⊎ IsFree rs d))

-- from h on the page has a queue of what is free in rs without the n from a on
abbrev pub Takes : ℕ → List Run → ℕ → ℕ → (ℕ → Option ℕ) → ℕ → Type 0
Takes lo rs a n v h = (rs' : List Run) × Queue lo v h rs' × ((d : ℕ) → IsFree rs' d ↔ (IsFree rs d × Outside a n d))

-- from h on the page has a queue of what is free in rs and of the n from a on
abbrev pub Gives : ℕ → List Run → ℕ → ℕ → (ℕ → Option ℕ) → ℕ → Type 0
Gives lo rs a n v h = (rs' : List Run) × Queue lo v h rs' × ((d : ℕ) → IsFree rs' d ↔ (IsFree rs d ⊎ Within a n d))

-- the first run that begins at a or after
abbrev pub next_run : ℕ → List Run → Option Run
next_run a [] = None
next_run a (r ∷ rs) = if nat_lt r.from a then next_run a rs else Some r

-- a run as the place where it begins and its length
abbrev pub place_of : Option Run → Option (ℕ × ℕ)
place_of None = None
place_of (Some r) = Some (r.from, r.len)

-- How many pages there are and which of them are open is as before, and so are the bytes of all pages but p.
pub record Keeps (old : Pages) (p : ℕ) (new : Pages) : Type 0 where
  pub sizes : length new ≡ length old
  pub pages : (q : ℕ) → is_open new q ≡ is_open old q
  pub others : (k : ℕ) → (k / page_bytes ≡ p → ⊥) → byte_of new k ≡ byte_of old k
