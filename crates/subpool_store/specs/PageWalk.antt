-- The position of a pass over a region.
use Rattle.std.specs.Prelude.{◌≡◌, ℕ, ◌+◌, ◌-◌, ◌*◌, ◌/◌, ◌%◌, ◌<◌, ◌≤◌, ◌⊎◌, ◌==◌, ◌&&◌, ◌||◌, not, Bool, true, false, Option, Some, None, List, length, nat_lt, slice_index_or, if◌then◌else◌}
use Rattle.mvs_model.specs.Finite.{count_below}
use Rattle.mvs_model.specs.Numbers.{page_bytes, page_doublewords}
use Rattle.page_map.specs.Owners.{is_of, owner_of}
use Rattle.subpool_store.specs.Bits.{digit}
use Rattle.subpool_store.specs.Edits.{IsFreeRun}
use Rattle.subpool_store.specs.Memory.{IsCursor, MemoryState}
use Rattle.subpool_store.specs.Search.{may_take}
use Rattle.subpool_store.specs.declared.counted.PageUse.{PageUse}
use Rattle.subpool_store.specs.declared.counted.PageUse.TheVariants.{Free, Own, Other, End}
use Rattle.subpool_store.specs.declared.walk.ReadPart.{ReadPart}
use Rattle.subpool_store.specs.declared.walk.PageWalk.{PageWalk}

-- what the entry of a page of this owner is for s
abbrev pub entry_by : ℕ → Option ℕ → PageUse
entry_by s None = Free
entry_by s (Some t) = if t == s then Own else Other

-- the entry of a page for s, and the end after the last page
abbrev pub entry_of : List (Option ℕ) → ℕ → ℕ → PageUse
entry_of pages s p = if nat_lt p (length pages) then entry_by s (owner_of pages p) else End

-- The entry is of a page of s.
abbrev pub IsOwn : PageUse → Type 0
IsOwn entry = entry ≡ Own

-- A pass is before a page whose entry it has read, or inside such a page of s, before the free runs in its queue.
pub record IsPassing (m : MemoryState) (pages : List (Option ℕ)) (s at : ℕ) (entry : PageUse) (queue : ℕ) : Type 0 where
  pub is : entry ≡ entry_of pages s (at / page_doublewords)
  pub page : IsOwn entry ⊎ (at % page_doublewords ≡ 0)
  pub cursor : IsOwn entry → IsCursor m (at / page_doublewords) at queue
  pub fresh : IsOwn entry → (at % page_doublewords ≡ 0) ⊎ (slice_index_or m.held at false ≡ true)

-- whether a free run of a page of s begins at an index: it is free, and it is the first of its page or the one before it is held
abbrev pub begins_run : List Bool → List (Option ℕ) → ℕ → ℕ → Bool
begins_run bits pages s i = not (slice_index_or bits i false) && (is_of s (owner_of pages (i / page_doublewords)) && (i % page_doublewords == 0 || slice_index_or bits (i - 1) false))

-- the page is of s, and each of its doublewords is held
abbrev pub IsFull : List Bool → List (Option ℕ) → ℕ → ℕ → Type 0
IsFull bits pages s p = (owner_of pages p ≡ Some s) × ((i : ℕ) → i / page_doublewords ≡ p → slice_index_or bits i false ≡ true)

-- how many page entries there are up to that of a page
abbrev pub entries_to : List (Option ℕ) → ℕ → ℕ
entries_to pages p = p + digit (nat_lt p (length pages))

-- the number of page entries and free runs that a pass has read when it is at an index: the entries up to that of its page, and the
-- free runs of pages of s before it
abbrev pub looked_at : MemoryState → List (Option ℕ) → ℕ → ℕ → ℕ
looked_at m pages s at = entries_to pages (at / page_doublewords) + count_below at (begins_run m.held pages s)

-- The part is what comes next from an index on: first doublewords that s may not take, then some that s may take.
pub record IsNextPart (m : MemoryState) (pages : List (Option ℕ)) (s from steps : ℕ) (part : ReadPart) : Type 0 where
  pub after : from ≤ part.start
  pub ordered : part.start ≤ part.end
  pub farther : from < part.end
  pub within : part.end ≤ length m.held
  pub skipped : (i : ℕ) → from ≤ i → i < part.start → may_take m.held pages s i ≡ false
  pub passes : (i : ℕ) → part.start ≤ i → i < part.end → may_take m.held pages s i ≡ true
  pub stands : IsPassing m pages s part.end part.entry part.queue
  pub counted : looked_at m pages s from + part.counted.steps ≡ looked_at m pages s part.end + steps

-- The pass has joined a run up to its position.
pub record IsWalk (m : MemoryState) (pages : List (Option ℕ)) (s : ℕ) (w : PageWalk) : Type 0 where
  pub ordered : w.start ≤ w.end
  pub within : w.end ≤ length m.held
  pub passes : (i : ℕ) → w.start ≤ i → i < w.end → may_take m.held pages s i ≡ true
  pub stands : IsPassing m pages s w.end w.entry w.queue
  pub counted : w.counted.steps ≡ looked_at m pages s w.end

-- The first free run of a page from an index on extends from one byte of the page to another, and then the queue continues.
pub record IsFoundRun (m : MemoryState) (page from at end queue : ℕ) : Type 0 where
  pub run : IsFreeRun m.held from (page_doublewords * page + page_doublewords) (page_doublewords * page + at / 8) (page_doublewords * page + end / 8)
  pub whole : at % 8 ≡ 0
  pub inside : end ≤ page_bytes
  pub cursor : IsCursor m page (page_doublewords * page + end / 8) queue

-- The pass is inside a page of s.
abbrev pub IsInside : List (Option ℕ) → ℕ → PageWalk → Type 0
IsInside pages s w = entry_of pages s (w.end / page_doublewords) ≡ Own
