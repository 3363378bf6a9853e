-- What is lent to C of a session's memory.
use Rattle.std.specs.Prelude.{◌≡◌, ℕ, ◌+◌, ◌^◌, ◌<◌, ◌≤◌, true, false, List, length, Option, Some, None, MatchBool, ⊤}
use Rattle.std.specs.Borrow.{follows_so, Fml, MutBor}
use mathlib.Core.Option.{none}
use Rattle.mvs_model.specs.State.{State, granted}
use Rattle.mvs_c.specs.declared.handle.Handle.{Handle}
use Rattle.mvs_c.specs.contracts.handle.Handle.{the_row}
use Rattle.mvs_c.specs.Access.{AreAt, MayRead}
use Rattle.mvs_c.specs.Opens.{OpenValue, keeps_bytes}

-- Each byte from an address up to another can be read.
abbrev pub AllGranted : State → ℕ → ℕ → Type 0
AllGranted st from to = (a : ℕ) → from ≤ a → a < to → granted st a ≡ true

-- From an address up to a greater one not each byte can be read; or they are the same, and there is no such address.
pub record Stops (st : State) (end gap : ℕ) : Type 0 where
  pub ordered : end ≤ gap
  pub last : end ≡ gap → end ≡ 2 ^ 31
  pub unreadable : end < gap → AllGranted st end gap → ⊥

-- The bytes from an address up to this one can be read, and the byte at this one cannot, or there is no such address.
pub record IsReadableEnd (st : State) (address end : ℕ) : Type 0 where
  pub from : address ≤ end
  pub low : end ≤ 2 ^ 31
  pub readable : AllGranted st address end
  pub stops : end < 2 ^ 31 → granted st end ≡ false

-- The bytes from an address on are lent, up to the first that cannot be read, if there is one to read.
pub record Lends (o : OpenValue) (address : ℕ) (before after : List ℕ) (status : ℕ) : Type 0 where
  pub bytes : MayRead o address 1 → AreAt o address after × MayRead o address (length after) × (status ≡ 0)
  pub most : MayRead o address 1 → address + length after < 2 ^ 31 → MayRead o (address + length after) 1 → ⊥
  pub refused : (MayRead o address 1 → ⊥) → (after ≡ before) × (status ≡ 36)

-- So they are of a session that has bytes; one without bytes lends none.
abbrev pub LendsAny : OpenValue → ℕ → List ℕ → List ℕ → ℕ → Type 0
LendsAny o address before after status = MatchBool (keeps_bytes o) (Lends o address before after status) ((after ≡ before) × (status ≡ 68))

-- The same of a handle, which may have no session.
abbrev pub AnswersLend : Option OpenValue → ℕ → List ℕ → List ℕ → ℕ → Type 0
AnswersLend None address before after status = (after ≡ before) × (status ≡ 20)
AnswersLend (Some o) address before after status = LendsAny o address before after status

-- When the bytes are no longer lent, the handle has the session that it had.
abbrev pub IsLeft : MutBor Handle → Fml
IsLeft h = follows_so the_row the_row h.ghost_name none (λ _ _. ⊤) (λ new. new.«open» ≡ h.now.«open»)
