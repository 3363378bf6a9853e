-- What a handle owns.
use Rattle.std.specs.Prelude.{Option, Some, None}
use base.Fml.{Fml, feq}
use mir.Syntax.{Ty}
use denote.RattleType.{RattleType}
use denote.RawPtr.{Ptr, null_ptr}
use Rattle.std_alloc.specs.Box.Ownership.{box_owns}
use Rattle.std_heap.specs.contracts.GlobalAllocator.TheImpl.{ghosts}

-- the heap's right to free a block
abbrev pub heap_right : Ty → Ptr → Fml
heap_right = ghosts.dealloc_token (record { memory = record { seal = tt } })

-- nothing, where the pointer is null; or else a value in its block, and the right to free that
abbrev pub owned : (R : RattleType) → Ptr → Option R.Denot → Fml
owned R p None = feq Ptr p null_ptr
owned R p (Some x) = box_owns heap_right R p x
