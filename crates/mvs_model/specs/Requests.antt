-- What a request refers to, and what it does if it is not refused.
use Rattle.std.specs.Prelude.{◌≡◌, ℕ, ◌+◌, ◌-◌, ◌%◌, ◌≤◌, Bool, not, ◌==◌, List, [], Option, Some, None, slice_get}
use Rattle.std.specs.Option.{option_map, unwrap_or}
use Rattle.std.specs.FinMap.{get}
use Rattle.std.specs.FinSet as set
use Rattle.mvs_model.specs.declared.name.Name.{Name}
use Rattle.mvs_model.specs.declared.want.Side.{Side}
use Rattle.mvs_model.specs.declared.want.Residence.{Residence}
use Rattle.mvs_model.specs.declared.want.Residence.TheVariants as residence
use Rattle.mvs_model.specs.declared.want.Loc.{Loc}
use Rattle.mvs_model.specs.declared.code.Form.{Form}
use Rattle.mvs_model.specs.declared.request.Request.{Request}
use Rattle.mvs_model.specs.declared.request.Request.TheVariants.{Obtain, Build, Attach}
use Rattle.mvs_model.specs.declared.request.Reply.{Reply}
use Rattle.mvs_model.specs.declared.request.Reply.TheVariants.{Cell}
use Rattle.mvs_model.specs.Place.{PlaceValue, place_at, round8}
use Rattle.mvs_model.specs.Subpool.{is_subpool_number}
use Rattle.mvs_model.specs.Want.{IsAsk, side_of}
use Rattle.mvs_model.specs.Gifts.{GiftsValue, IsGifts}
use Rattle.mvs_model.specs.Finite.{all_below}
use Rattle.mvs_model.specs.Owners as owners
use Rattle.mvs_model.specs.Owners.{Owners, SubpoolOf, Enters}
use Rattle.mvs_model.specs.Pools.{Pool, IsCellOf, cell_at}
use Rattle.mvs_model.specs.State.{State, granted}
use Rattle.mvs_model.specs.Codes.{family, form_side}
use Rattle.mvs_model.specs.Changes.{Empties, Extends, with_part, TakesCell}

-- where the task resides
abbrev pub residence_of : Owners → Name → Residence
residence_of o t = unwrap_or (option_map (λ task. task.residence) (get o.tasks t)) residence.Below

-- the side on which a form's location serves a task
abbrev pub side_for : State → Name → Form → Loc → Side
side_for st t form loc = form_side (family form) (side_of loc (residence_of st.owners t))

-- whether a request may not name the subpool number
abbrev pub is_invalid : ℕ → Bool
is_invalid number = not (is_subpool_number number)

-- the place with its length rounded
abbrev pub whole : PlaceValue → PlaceValue
whole p = place_at p.addr (round8 p.len)

-- whether the place begins on a doubleword
abbrev pub on_doubleword : PlaceValue → Bool
on_doubleword p = p.addr % 8 == 0

-- A number under which the task has no subpool releases nothing and is answered 0. (this project's choice)
abbrev pub EmptiesEntry : State → Option ℕ → State → Type 0
EmptiesEntry old None new = new ≡ old
EmptiesEntry old (Some s) new = Empties old s new

-- What CPOOL BUILD says of a pool.
pub record Plan : Type 0 where
  pub cell_size : ℕ
  pub primary : ℕ
  pub secondary : ℕ
  pub side : Side

-- a pool without parts
abbrev pub new_pool : ℕ → Plan → Pool
new_pool s plan = record { subpool = s; cell_size = plan.cell_size; primary = plan.primary; secondary = plan.secondary; side = plan.side; parts = []; taken = set.empty }

-- The pool is made with its first part, in the subpool that the task has or now gets under the number.
abbrev pub Builds : State → Name → Name → ℕ → Plan → State → Type 0
Builds old t name number plan new =
    (s : ℕ) × SubpoolOf old.owners t number s × ((p : PlaceValue) × (o : Owners) × Enters old.owners t number s o × Extends old name (new_pool s plan) plan.primary p o new)

-- A cell is taken, and the reply is its place.
abbrev pub Gets : State → Name → Pool → ℕ → Reply → State → Type 0
Gets old name pool c reply new = TakesCell old name pool c new × (reply ≡ Cell (cell_at pool c))

-- A further part is put to the pool, and one of its cells is taken.
abbrev pub GetsMore : State → Name → Pool → Reply → State → Type 0
GetsMore old name pool reply new =
    (p : PlaceValue) × (mid : State) × Extends old name pool pool.secondary p old.owners mid
    × ((c : ℕ) × IsCellOf pool.cell_size (record { place = p; count = pool.secondary }) c × Gets mid name (with_part pool pool.secondary p) c reply new)

-- The subtask is there, and the storage and the pools are as before.
pub record Attaches (old : State) (t name : Name) (gifts : GiftsValue) (residence : Residence) (new : State) : Type 0 where
  pub regions : new.regions ≡ old.regions
  pub held : new.held ≡ old.held
  pub bytes : new.bytes ≡ old.bytes
  pub owners : owners.Attach old.owners t name gifts residence new.owners
  pub pools : new.pools ≡ old.pools

-- whether each byte of the place may be read and written
abbrev pub all_granted : State → PlaceValue → Bool
all_granted st p = all_below (λ i. granted st (p.addr + i)) p.len

-- the bytes of a list, at the addresses from one on
abbrev pub bytes_from : ℕ → List ℕ → ℕ → Option ℕ
bytes_from a bytes x = slice_get bytes (x - a)

-- the bytes of one place, at the addresses of another
abbrev pub moved_from : State → ℕ → ℕ → ℕ → Option ℕ
moved_from old to from x = get old.bytes (from + (x - to))

-- A request has its operands in their ranges, as its type says: a place's length and address, a list's members, the counts
-- of a pool, what a mother gives.
abbrev pub IsRequest : Request → Type 0
IsRequest (Obtain form number ask) = IsAsk ask
IsRequest (Build name number size primary secondary loc) = (4 ≤ size) × (1 ≤ primary) × (1 ≤ secondary)
IsRequest (Attach name gifts residence) = IsGifts gifts
IsRequest _ = Unit {0}
