-- The pages of a region, which store the queues of what is free: which doublewords are held, and the bytes.
use Rattle.std.specs.Prelude.{◌≡◌, ℕ, ◌+◌, ◌-◌, ◌*◌, ◌/◌, ◌%◌, ◌<◌, ◌≤◌, ◌↔◌, ◌&&◌, ◌||◌, ◌==◌, not, Bool, true, false, List, [], ◌∷◌, Some, length, map, slice_index, slice_index_or, if◌then◌else◌, refl}
use Rattle.std.specs.Coded.{Coded, code_by, coded×, coded_bool, coded_list, coded_ℕ, coded_option}
use Rattle.std.specs.List.{range_with_len}
use Rattle.mvs_model.specs.Numbers.{most_pages_above, page_bytes, page_doublewords}
use Rattle.free_queue.specs.Runs.{IsFree, Queue, Run, page_of, runs_of}
use Rattle.region_raw.specs.Pages.{Pages, byte_of, is_open}
use Rattle.subpool_store.specs.Bits.{in_range}

-- Which doublewords of a region are held, and its pages with their bytes.
pub record MemoryState : Type 0 where
  pub held : List Bool
  pub bytes : Pages

-- a code, for a model's value
abbrev pub memory_code : Coded MemoryState
memory_code = code_by (List Bool × Pages) (coded× (coded_list coded_bool) (coded_list (coded_option (coded_list coded_ℕ)))) (λ m. (m.held, m.bytes)) (λ p. record { held = p.0; bytes = p.1 }) (λ _. refl)

-- whether d is in a run
abbrev pub is_free : List Run → ℕ → Bool
is_free [] d = false
is_free (r ∷ rs) d = in_range r.from (r.from + r.len) d || is_free rs d

-- whether the doubleword at an index is held: its page is open, and in the queue of the page it is not free
abbrev pub is_held : Pages → List ℕ → ℕ → Bool
is_held ps heads i = is_open ps (i / page_doublewords) && not (is_free (runs_of (page_of ps (i / page_doublewords)) (slice_index heads (i / page_doublewords))) (8 * (i % page_doublewords)))

-- whether each doubleword is in a run, in a row
unfoldable pub held_bits : Pages → List ℕ → List Bool
held_bits ps heads = map (is_held ps heads) (range_with_len 0 (page_doublewords * length heads))

-- what pages with these heads hold
abbrev pub memory_of : Pages → List ℕ → MemoryState
memory_of ps heads = record { held = held_bits ps heads; bytes = ps }

-- Each page that is open has a queue.
pub record IsMemory (ps : Pages) (heads : List ℕ) : Type 0 where
  pub sizes : length heads ≡ length ps
  pub most : length ps ≤ most_pages_above
  pub queues : (p : ℕ) → is_open ps p ≡ true → (rs : List Run) × Queue 0 (page_of ps p) (slice_index heads p) rs

-- Which pages are open is as before, but for one, which is open now or not; and so are the bytes of all others.
pub record Turns (old : Pages) (page : ℕ) (now_open : Bool) (new : Pages) : Type 0 where
  pub sizes : length new ≡ length old
  pub pages : (p : ℕ) → is_open new p ≡ (if p == page then now_open else is_open old p)
  pub others : (k : ℕ) → (k / page_bytes ≡ page → ⊥) → byte_of new k ≡ byte_of old k

-- the bytes of what is held are as before
abbrev pub Stays : List Bool → Pages → Pages → Type 0
Stays held old new = (k : ℕ) → slice_index_or held (k / 8) false ≡ true → byte_of new k ≡ byte_of old k

-- each byte of some doublewords has the value
abbrev pub IsFilled : ℕ → ℕ → ℕ → Pages → Type 0
IsFilled from to value bytes = (k : ℕ) → 8 * from ≤ k → k < 8 * to → byte_of bytes k ≡ Some value

-- Which pages are open is as before, and so are the bytes of what is held.
pub record KeepsHeld (held : List Bool) (old new : Pages) : Type 0 where
  pub sizes : length new ≡ length old
  pub pages : (p : ℕ) → is_open new p ≡ is_open old p
  pub stays : Stays held old new

-- there is a byte, and the doubleword of each of the n bytes from an index on is held
abbrev pub IsHeldPart : List Bool → ℕ → ℕ → Type 0
IsHeldPart held at n = (1 ≤ n) × ((k : ℕ) → at ≤ k → k < at + n → slice_index_or held (k / 8) false ≡ true)

-- from h on the page has a queue of what is free in it from an index on
abbrev pub IsCursor : MemoryState → ℕ → ℕ → ℕ → Type 0
IsCursor m page from h = (rs : List Run) × Queue (8 * from - page_bytes * page) (page_of m.bytes page) h rs
    × ((i : ℕ) → from ≤ i → i / page_doublewords ≡ page → slice_index_or m.held i false ≡ false ↔ IsFree rs (8 * (i % page_doublewords)))
