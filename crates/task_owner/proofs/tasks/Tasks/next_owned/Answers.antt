use Rattle.std.proofs.Common.{◌≡◌, ℕ, ◌<◌, ◌≤◌, None, IsSome, length, subst, sym, arith}
use Rattle.std.specs.FinMap.{get}
use Rattle.task_owner.specs.Seats.{item_at}
use Rattle.task_owner.proofs.tasks.Tasks.next_owned.Goals as goal
use Rattle.task_owner.proofs.Labels.{has_label, none_owned, none_past}

pub returns : goal.returns
returns c =
    let s = c.self.inside in
    let found = c.in_ok-first.ensures in
    let same : c.new.result ≡ c.in_ok-first.first = c.new.ensures in (
      omega (arith, same, found.0, c.from.ensures),
      subst (λ n. IsSome (get c.args.self.now.owners.owner n)) (sym same) (has_label s.active.slots s.owned.items c.args.self.now c.in_ok-first.first c.self.view_is c.self.invariant.0 (subst (λ xs. IsSome (item_at xs c.in_ok-first.first)) c.deref.ensures.value found.2)),
      λ k low high. none_owned s.active.slots s.owned.items c.args.self.now c.from.result c.in_ok-first.first c.self.view_is (subst (λ xs. (k : ℕ) → c.from.result ≤ k → k < c.in_ok-first.first → item_at xs k ≡ None) c.deref.ensures.value found.3) k (omega (arith, low, c.from.ensures)) (omega (arith, high, same)),
    )

pub returns-in_err-first : goal.returns-in_err-first
returns-in_err-first c =
    let s = c.self.inside in
    rw c.from_residual.ensures λ k low. none_past s.active.slots s.owned.items c.args.self.now c.from.result c.self.view_is (subst (λ xs. (k : ℕ) → c.from.result ≤ k → k < length xs → item_at xs k ≡ None) c.deref.ensures.value c.in_err-first.ensures) k (omega (arith, low, c.from.ensures))
