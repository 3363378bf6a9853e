-- The room that is left in a store is the machine's.
use Rattle.std.proofs.Common.{ℕ, Option, Some, None, sym, ap, ◌∙◌}
use Rattle.std.specs.Prelude.{MatchOption}
use Rattle.std.specs.FinMap.{FinMap}
use Rattle.mvs_model.specs.declared.reason.FreeSpace.{FreeSpace}
use Rattle.mvs_model.specs.FreeRuns.{free_runs}
use Rattle.mvs_model.specs.Name.{name_cmp}
use Rattle.mvs_model.specs.Numbers.{first_page_below, first_page_above}
use Rattle.mvs_model.specs.Owners.{Owners}
use Rattle.mvs_model.specs.Place.{PlaceValue}
use Rattle.mvs_model.specs.Reasons.{IsRoom}
use Rattle.mvs_model.specs.Storage.{Storage, Chosen, NoPlace, holder}
use Rattle.mvs_model.specs.State.{holder as state_holder}
use Rattle.mvs_model.specs.Want.{WantValue}
use Rattle.mvs_model.proofs.Seen.{no_place_seen, same_holder}
use Rattle.cell_pool.specs.Agree.{Agree}
use Rattle.cell_pool.specs.Roots.{Root, pools_of}
use Rattle.request_forms.specs.Machine.{machine_state}
use Rattle.request_forms.specs.Rooms.{IsRoomIn, LacksPlace}
use Rattle.request_forms.proofs.Longest.{found_place, longest_seen, pages_free}

module _ (roots : FinMap name_cmp Root) where
  room_seen : (st : Storage) (o : Owners) (s : ℕ) (want : WantValue) (room : FreeSpace) → Agree roots st → IsRoomIn st s want room → IsRoom (machine_state roots st o) s want room
  room_seen st o s want room agree h = record {
    longest = longest_seen roots st o agree s want room.longest h.longest;
    runs = h.runs ∙ ap (λ f. free_runs st.regions f s want.side) (sym (same_holder st o (pools_of roots st) agree.parts.storage));
    below = pages_free roots st o agree first_page_below st.regions.below room.below h.below;
    above = pages_free roots st o agree first_page_above st.regions.above room.above h.above;
  }

  -- what the machine has where its store has no place
  pub room_lacks : (st : Storage) (o : Owners) (s : ℕ) (want : WantValue) (room : FreeSpace) → Agree roots st → LacksPlace st s want room
      → NoPlace st.regions (state_holder (machine_state roots st o)) s want × IsRoom (machine_state roots st o) s want room
  room_lacks st o s want room agree h = (no_place_seen st o (pools_of roots st) s want agree.parts.storage h.0, room_seen st o s want room agree h.1)

  -- what is found of a store's room is the machine's
  pub room_found : (st : Storage) (o : Owners) (s : ℕ) (want : WantValue) (v : Option FreeSpace) → Agree roots st → MatchOption v ((p : PlaceValue) × Chosen st.regions (holder st) s want p) (LacksPlace st s want)
      → MatchOption v ((p : PlaceValue) × Chosen st.regions (state_holder (machine_state roots st o)) s want p) (λ room. NoPlace st.regions (state_holder (machine_state roots st o)) s want × IsRoom (machine_state roots st o) s want room)
  room_found st o s want None agree h = found_place roots st o agree s want h.0 h.1
  room_found st o s want (Some room) agree h = room_lacks st o s want room agree h
