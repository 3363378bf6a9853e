-- Two starts in a run that decide for the whole run.
use Rattle.std.specs.Prelude.{ℕ, ◌<◌, ◌≤◌, ◌↔◌, ◌⊎◌}
use Rattle.mvs_model.specs.Place.{PlaceValue, place_at}
use Rattle.mvs_model.specs.Want.{WantValue}
use Rattle.mvs_model.specs.Storage.{Meets, InRun}
use Rattle.boundary_loc.specs.declared.Starts.{Starts}

-- the place is in the run and meets the request except for its lengths
abbrev pub Serves : PlaceValue → WantValue → PlaceValue → Type 0
Serves run want p = InRun run p × Meets want p

-- The rooms are the greatest lengths that serve at the two starts. No place that serves begins before the first start, and
-- its length serves at the first start, or at the next one, which is then no higher.
pub record IsStarts (run : PlaceValue) (want : WantValue) (starts : Starts) : Type 0 where
  pub first : (n : ℕ) → 0 < n → (n ≤ starts.first_room) ↔ Serves run want (place_at starts.first n)
  pub next : (n : ℕ) → 0 < n → (n ≤ starts.next_room) ↔ Serves run want (place_at starts.next n)
  pub lowest : (q : PlaceValue) → InRun run q → Meets want q → starts.first ≤ q.addr
  pub enough : (q : PlaceValue) → 0 < q.len → InRun run q → Meets want q → (q.len ≤ starts.first_room) ⊎ ((starts.next ≤ q.addr) × (q.len ≤ starts.next_room))
