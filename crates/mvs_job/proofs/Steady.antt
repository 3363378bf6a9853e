-- What the state of a job keeps, and the cells that it gives.
use Rattle.std.proofs.Common.{◌≡◌, ℕ, ◌+◌, ◌-◌, ◌/◌, ◌≤◌, Bool, true, false, List, length, Some, sym, ap, ◌∙◌, subst, arith}
use Rattle.std.specs.Prelude.{◌||◌, MatchBool}
use Rattle.std.proofs.lemmas.Grind.{common_steps}
use Rattle.std.specs.Cmp.{nat_cmp_total}
use Rattle.std.specs.FinMap.{get}
use Rattle.std.specs.FinSet as set
use Rattle.mvs_model.specs.declared.name.Name.{Name}
use Rattle.mvs_model.specs.declared.request.Request.{Request}
use Rattle.mvs_model.specs.declared.request.Reply.{Reply}
use Rattle.mvs_model.specs.Card.{CardValue, IsCard}
use Rattle.mvs_model.specs.Changes.{Granted, TakesCell, Writes}
use Rattle.mvs_model.specs.Place.{PlaceValue, place_at}
use Rattle.mvs_model.specs.Pools.{Pool, cell_at}
use Rattle.mvs_model.specs.Start.{start}
use Rattle.mvs_model.specs.State.{State, granted}
use Rattle.mvs_model.specs.Steps.{Step}
use Rattle.mvs_model.specs.Requests.{IsRequest, all_granted, bytes_from}
use Rattle.mvs_model.specs.View.{IsBounded}
use Rattle.mvs_model.proofs.Below.{each_below}
use Rattle.mvs_model.proofs.CellPlaces.{cell_inside}
use Rattle.mvs_laws.proofs.Going.{start_sized}
use Rattle.mvs_laws.proofs.Kept.{HasPlan, step_keeps, plan_in_range}
use Rattle.mvs_model.proofs.Operands.{HasBytes, bytes_put}
use Rattle.mvs_laws.proofs.PartsApart.{StaysApart, apart_closed, start_apart}
use Rattle.mvs_model.proofs.PartsTaken.{same_number}
use Rattle.mvs_model.proofs.PoolPut.{put_here}
use Rattle.mvs_laws.proofs.RegionsKept.{regions_stay}
use Rattle.mvs_laws.proofs.WithinKept.{Placed, placed_closed, start_placed}
use Rattle.job_script.specs.Areas.{IsArea}
use Rattle.mvs_job.specs.Steady.{IsSteady}
use Rattle.mvs_job.specs.Valued.{BuildsInRange}

-- a step keeps it
step_by_plan : (old : State) (t : Name) (r : Request) (reply : Reply) (new : State) → HasPlan r → Step old t r reply new → IsSteady old → IsSteady new
step_by_plan old t r reply new plan step s =
    let placed = step_keeps Placed placed_closed old t r reply new plan step (s.within, s.bounded.below) in
    let apart = step_keeps StaysApart apart_closed old t r reply new plan step (s.apart, s.sized) in
    record {
      bounded = subst IsBounded (sym (regions_stay old t r reply new plan step)) s.bounded;
      within = placed.0;
      apart = apart.0;
      sized = apart.1;
    }

pub steady_step : (old : State) (t : Name) (r : Request) (reply : Reply) (new : State) → IsRequest r → Step old t r reply new → IsSteady old → IsSteady new
steady_step old t r reply new is = step_by_plan old t r reply new (plan_in_range r is)

-- the same of a request that is given by values
has_plan : (r : Request) → BuildsInRange r → HasPlan r
has_plan r h = grind (arith, common_steps)

pub steady_request : (old : State) (t : Name) (r : Request) (reply : Reply) (new : State) → BuildsInRange r → Step old t r reply new → IsSteady old → IsSteady new
steady_request old t r reply new is = step_by_plan old t r reply new (has_plan r is)

-- bytes that are written change nothing of it
steady_over : (old : State) (p : PlaceValue) (bytes : List ℕ) (new : State) → length bytes ≡ p.len → Granted old p → Writes old p (bytes_from p.addr bytes) new → IsSteady old → IsSteady new
steady_over old p bytes new len may w s =
    let all : all_granted old p ≡ true = each_below (λ i. granted old (p.addr + i)) p.len (λ i l. may (p.addr + i) (omega arith) (omega arith)) in
    let some : HasBytes old p (bytes_from p.addr bytes) = subst (λ n. HasBytes old (place_at p.addr n) (bytes_from p.addr bytes)) len (bytes_put old p.addr bytes) in
    let placed = placed_closed.written old p _ new all some w (s.within, s.bounded.below) in
    let apart = apart_closed.written old p _ new all some w (s.apart, s.sized) in
    record {
      bounded = subst IsBounded (sym w.regions) s.bounded;
      within = placed.0;
      apart = apart.0;
      sized = apart.1;
    }

pub steady_write : (written : Bool) (old : State) (p : PlaceValue) (bytes : List ℕ) (new : State) → length bytes ≡ p.len
    → MatchBool written (Granted old p × Writes old p (bytes_from p.addr bytes) new) ((Granted old p → ⊥) × (new ≡ old)) → IsSteady old → IsSteady new
steady_write true old p bytes new len h s = steady_over old p bytes new len h.0 h.1 s
steady_write false old p bytes new len h s = subst IsSteady (sym h.1) s

pub steady_start : (card : CardValue) → IsCard card → IsBounded (start card).regions → IsSteady (start card)
steady_start card is bounded = record { bounded = bounded; within = (start_placed card is).0; apart = start_apart card; sized = start_sized card }

-- a taken cell ends before the regions do
taken_area : (st : State) (name : Name) (pool : Pool) (c : ℕ) → IsSteady st → get st.pools name ≡ Some pool → set.contains pool.taken c ≡ true → IsArea (cell_at pool c)
taken_area st name pool c s is taken =
    let cell = s.apart.cells name pool c is taken in
    let part = s.apart.parts name pool cell.0 is cell.1 in
    let size : 1 ≤ pool.cell_size = (s.sized name pool is).size in
    let last = cell_inside pool.cell_size cell.0 c (c + pool.cell_size - 1) part.length cell.2 (omega arith) (omega arith) in
    let within = s.within ((c + pool.cell_size - 1) / 8) _ (part.held ((c + pool.cell_size - 1) / 8) last) in
    omega (arith, size, within, s.bounded.above)

pub takes_area : (old new : State) (name : Name) (pool : Pool) (c : ℕ) → IsSteady new → TakesCell old name pool c new → IsArea (cell_at pool c)
takes_area old new name pool c s takes =
    taken_area new name (record pool { taken = set.insert pool.taken c }) c s (put_here old new name _ takes.pools)
    (set.contains-insert nat_cmp_total pool.taken c c ∙ ap (λ b. b || set.contains pool.taken c) (same_number c))
