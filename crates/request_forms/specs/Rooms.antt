-- What room is left in a store.
use Rattle.std.specs.Prelude.{◌≡◌, ℕ}
use Rattle.mvs_model.specs.declared.reason.FreeSpace.{FreeSpace}
use Rattle.mvs_model.specs.FreeRuns.{free_runs}
use Rattle.mvs_model.specs.Numbers.{first_page_below, first_page_above}
use Rattle.mvs_model.specs.Reasons.{IsLongest}
use Rattle.mvs_model.specs.Storage.{Storage, holder, NoPlace}
use Rattle.mvs_model.specs.Want.{WantValue}
use Rattle.subpool_store.specs.FreePages.{free_pages}

-- The storage that s can obtain in a store for a request.
pub record IsRoomIn (st : Storage) (s : ℕ) (want : WantValue) (room : FreeSpace) : Type 0 where
  pub longest : IsLongest st.regions (holder st) s want room.longest
  pub runs : room.runs ≡ free_runs st.regions (holder st) s want.side
  pub below : room.below ≡ free_pages st first_page_below st.regions.below
  pub above : room.above ≡ free_pages st first_page_above st.regions.above

-- There is no place, and this room.
abbrev pub LacksPlace : Storage → ℕ → WantValue → FreeSpace → Type 0
LacksPlace st s want room = NoPlace st.regions (holder st) s want × IsRoomIn st s want room
