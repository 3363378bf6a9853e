-- What the owner of a row of bytes owns in memory, what a `&` to it may read, and the right to free a block.
use Rattle.std.specs.Prelude.{ℕ, zero, suc, ◌+◌, ◌^◌, List, [], ◌∷◌, length, Option, Some, None}
use base.Fraction.{full_share}
use base.Fml.{Lft, Fml, ftrue, ffalse, fsep, flt, froom}
use mir.Syntax.{Ty, ty_int, ty_array, w8}
use denote.Builtin.{u8}
use denote.Memory.{part_at, shared_of}
use denote.Sharing.{nothing, said, beside}
use denote.RawPtr.{Ptr, block_ptr, null_ptr}
use Rattle.std_heap.specs.contracts.GlobalAllocator.TheImpl.{ghosts}

-- one byte at an offset of a block: it has a value, or there is room for one
abbrev pub byte_at : ℕ → ℕ → Option ℕ → Fml
byte_at b o (Some x) = part_at u8 full_share x b o
byte_at b o None = froom (ty_int w8) b o

-- bytes side by side
abbrev pub row : ℕ → ℕ → List (Option ℕ) → Fml
row b o [] = ftrue
row b o (c ∷ cs) = fsep (byte_at b o c) (row b (o + 1) cs)

-- a row of bytes at a pointer, not longer than a pointer can reach
abbrev pub owned : Ptr → List (Option ℕ) → Fml
owned (block_ptr b o) cs = fsep (flt (length cs) (2 ^ 63)) (row b o cs)
owned null_ptr cs = ffalse

-- one byte as a `&` reads it: a blank one is not read
abbrev pub byte_seen : ℕ → ℕ → Option ℕ → Lft → Fml
byte_seen b o (Some x) = shared_of u8 x b o
byte_seen b o None = nothing

-- bytes side by side, as a `&` reads them
abbrev pub row_seen : ℕ → ℕ → List (Option ℕ) → Lft → Fml
row_seen b o [] = nothing
row_seen b o (c ∷ cs) = beside (byte_seen b o c) (row_seen b (o + 1) cs)

-- a row of bytes at a pointer, as a `&` reads it
abbrev pub seen : Ptr → List (Option ℕ) → Lft → Fml
seen (block_ptr b o) cs = beside (said (flt (length cs) (2 ^ 63))) (row_seen b o cs)
seen null_ptr cs = said ffalse

-- the type of n bytes side by side
abbrev pub bytes_ty : ℕ → Ty
bytes_ty n = ty_array (ty_int w8) n

-- the heap's own right to free a block, which is the same for each handle of the heap
abbrev pub heap_right : Ty → Ptr → Fml
heap_right = ghosts.dealloc_token (record { memory = record { seal = tt } })

-- a block of n bytes is yet to be freed; for no bytes no memory was taken
abbrev pub to_be_freed : Ptr → ℕ → Fml
to_be_freed p zero = ftrue
to_be_freed p (suc n) = heap_right (bytes_ty (suc n)) p
