-- Small laws that show what the definitions mean.
use Rattle.std.specs.Prelude.{◌≡◌, ◌≢◌, ◌↔◌, ◌⊎◌, ℕ, ◌+◌, ◌*◌, ◌/◌, ◌%◌, ◌^◌, ◌<◌, ◌≤◌, ◌==◌, true, false, Option, Some, None, if◌then◌else◌, List}
use Rattle.std.specs.FinMap.{get}
use Rattle.mvs_model.specs.declared.name.Name.{Name}
use Rattle.mvs_model.specs.declared.want.Residence.{Residence}
use Rattle.mvs_model.specs.declared.want.Side.TheVariants.{Either}
use Rattle.mvs_model.specs.Place.{PlaceValue, place_at}
use Rattle.mvs_model.specs.Want.{WantValue, IsExponent}
use Rattle.mvs_model.specs.Gifts.{GiftsValue, gives, shares}
use Rattle.mvs_model.specs.Numbers.{above_begins, below_begins, first_doubleword_below, first_page_below, most_pages_above, most_pages_below, page_bytes, page_doublewords, task_numbers}
use Rattle.mvs_model.specs.Storage.{Regions, Open, Meets, Places, Chosen, Storage, holder, PageRule, Grant, Release, IsStorage}
use Rattle.mvs_model.specs.Owners.{Owners, entry, is_among_ended, ends_with, Attach, Ends}
use Rattle.mvs_model.specs.Pools.{part_length, IsCellOf}

-- two pages below and none above
abbrev pub two_pages : Regions
two_pages = record { below = 2; above = 0; fill = 0 }

-- subpool 1 holds the first doubleword of the region below
abbrev pub one_held : ℕ → Option ℕ
one_held d = if d == first_doubleword_below then Some 1 else None

-- the same, and subpool 2 holds another doubleword
abbrev pub two_held : ℕ → ℕ → Option ℕ
two_held e d = if d == first_doubleword_below then Some 1 else (if d == e then Some 2 else None)

-- A place across a subpool's own page and a free one is open to it, and is not once another subpool holds a doubleword of
-- either page.
abbrev pub AcrossPages : Type 0
AcrossPages =
    Open two_pages one_held 1 (place_at (below_begins + 8) page_bytes)
    × ((e : ℕ) → e ≢ first_doubleword_below → (e / page_doublewords ≡ first_page_below) ⊎ (e / page_doublewords ≡ first_page_below + 1) → Open two_pages (two_held e) 1 (place_at (below_begins + 8) page_bytes) → ⊥)

-- eight bytes within a boundary
abbrev pub within_want : ℕ → WantValue
within_want k = record { least = 8; most = 8; start = 3; within = Some k; side = Either }

-- eight bytes on a boundary
abbrev pub start_want : ℕ → WantValue
start_want k = record { least = 8; most = 8; start = k; within = None; side = Either }

-- An area as long as the containing boundary that begins on it meets it, and one byte more does not. No place of the regions begins
-- on a boundary of 2 to the 31st.
abbrev pub BoundaryEdges : Type 0
BoundaryEdges =
    ((k a : ℕ) → IsExponent k → a % 2 ^ k ≡ 0 → Meets (within_want k) (place_at a (2 ^ k)) × (Meets (within_want k) (place_at a (2 ^ k + 1)) → ⊥))
    × ((r : Regions) (h : ℕ → Option ℕ) (s n a : ℕ) → r.below ≤ most_pages_below → r.above ≤ most_pages_above → Places r h s (start_want 31) n a → ⊥)

-- nothing is held
abbrev pub nothing_held : ℕ → Option ℕ
nothing_held d = None

-- regions with a number of pages
abbrev pub pages : ℕ → ℕ → Regions
pages below above = record { below = below; above = above; fill = 0 }

-- as much as there is, up to four pages
abbrev pub most_want : WantValue
most_want = record { least = 8; most = 4 * page_bytes; start = 3; within = None; side = Either }

-- Of one length above and below, the place above is chosen; a longer one below is chosen before it.
abbrev pub AboveOnATie : Type 0
AboveOnATie =
    ((p : PlaceValue) → Chosen (pages 1 1) nothing_held 1 most_want p → p ≡ place_at above_begins page_bytes)
    × ((p : PlaceValue) → Chosen (pages 2 1) nothing_held 1 most_want p → p ≡ place_at below_begins (2 * page_bytes))

-- Two places that touch, released one after the other, are released as one place is.
abbrev pub ReleasesJoin : Type 0
ReleasesJoin = (old mid new : Storage) (s a m n : ℕ) → Release old s (place_at a m) mid → Release mid s (place_at (a + m) n) new → Release old s (place_at a (m + n)) new

-- Each whole part of what was granted may be released.
abbrev pub PartsReleased : Type 0
PartsReleased =
    (old mid : Storage) (s : ℕ) (want : WantValue) (p : PlaceValue) (a n : ℕ) → Grant old s want p mid → a % 8 ≡ 0 → n % 8 ≡ 0 → p.addr ≤ a → a + n ≤ p.addr + p.len
    → (new : Storage) × Release mid s (place_at a n) new

-- A grant keeps that each page is of one subpool, and so does a release.
abbrev pub GrantKeepsPages : Type 0
GrantKeepsPages = (old new : Storage) (s : ℕ) (want : WantValue) (p : PlaceValue) → Grant old s want p new → PageRule (holder old) → PageRule (holder new)

-- So does a release.
abbrev pub ReleaseKeepsPages : Type 0
ReleaseKeepsPages = (old new : Storage) (s : ℕ) (p : PlaceValue) → Release old s p new → PageRule (holder old) → PageRule (holder new)

-- What is granted and released again leaves the storage as it was.
abbrev pub TakenBack : Type 0
TakenBack = (old mid new : Storage) (s : ℕ) (want : WantValue) (p : PlaceValue) → IsStorage old → Grant old s want p mid → Release mid s p new → new ≡ old

-- The subtask owns what ATTACH gives. Both have what it shares.
abbrev pub GivesAndShares : Type 0
GivesAndShares =
    (old : Owners) (mother name : Name) (gifts : GiftsValue) (residence : Residence) (new : Owners) (g s m r : ℕ)
    → mother ≢ name → Attach old mother name gifts residence new
    → g < task_numbers → gives gifts g ≡ true → entry old mother g ≡ Some s
    → m < task_numbers → gives gifts m ≡ false → shares gifts m ≡ true → entry old mother m ≡ Some r
    → (entry new name g ≡ Some s) × (entry new mother g ≡ None) × (get new.owner s ≡ Some name)
    × (entry new name m ≡ Some r) × (entry new mother m ≡ Some r)

-- When a task ends, the others keep what it only shared and lose what it owned.
abbrev pub SharersKeep : Type 0
SharersKeep =
    (old : Owners) (t : Name) (fallen : List Name) (new : Owners) (other : Name) (n s : ℕ)
    → Ends old t fallen new → is_among_ended t fallen other ≡ false → entry old other n ≡ Some s
    → (ends_with old t fallen s ≡ false → entry new other n ≡ Some s) × (ends_with old t fallen s ≡ true → entry new other n ≡ None)

-- A part of two cells of 12 bytes has 48 bytes, and its cells begin at 24 and 36.
abbrev pub SmallPart : Type 0
SmallPart =
    (part_length 12 2 ≡ 48)
    × ((a c : ℕ) → IsCellOf 12 (record { place = place_at a 48; count = 2 }) c ↔ ((c ≡ a + 24) ⊎ (c ≡ a + 36)))
