use Rattle.std.proofs.Common.{◌≡◌, ℕ, ◌-◌, List}
use Rattle.free_queue.specs.Runs.{Run, Queue, next_run, page_of}
use Rattle.free_queue.proofs.next_free.Given as goal

abbrev pub invariant-runs : goal.invariant-runs
invariant-runs l = (rs : List Run) → Queue 0 (page_of l.region l.page) l.head rs → (lo : ℕ) × (left : List Run) × Queue lo (page_of l.region l.page) l.at left × (next_run l.from rs ≡ next_run l.from left)

abbrev pub decreases-runs : goal.decreases-runs
decreases-runs l = 4294967295 - l.at
