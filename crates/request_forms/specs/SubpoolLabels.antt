-- Properties of a step that are reported after a granted request.
use Rattle.std.specs.Prelude.{ℕ, ◌&&◌, Option, None, if◌then◌else◌}
use Rattle.mvs_model.specs.declared.name.Name.{Name}
use Rattle.mvs_model.specs.Numbers.{first_page_below, first_page_above}
use Rattle.mvs_model.specs.Owners.{Owners, is_active, entry, subpool_meant}
use Rattle.mvs_model.specs.Reasons.{free_pages}
use Rattle.mvs_model.specs.Reports.{label_of}
use Rattle.mvs_model.specs.State.{State}
use Rattle.mvs_model.specs.Subpool.{is_subpool_number}

-- how many pages of the region below hold nothing
abbrev pub free_below : State → ℕ
free_below st = free_pages st first_page_below st.regions.below

-- how many pages of the region above do
abbrev pub free_above : State → ℕ
free_above st = free_pages st first_page_above st.regions.above

-- the number under which the owner has the subpool that a task has under a number, and the owner
abbrev pub entry_owner : Owners → Name → ℕ → Option (ℕ × Name)
entry_owner o t number = if is_active o t then label_of o (entry o t number) else None

-- the subpool that a task uses for a valid number: its owner's number for it, and the owner
abbrev pub resolved_owner : Owners → Name → ℕ → Option (ℕ × Name)
resolved_owner o t number = if is_subpool_number number && is_active o t then label_of o (subpool_meant o t number) else None
