use Rattle.std.proofs.Common.{◌≡◌, ◌++◌, ◌∷◌, [], rules, slice_index, subst, take, true}
use Rattle.std.proofs.lemmas.List.{get_or_read}
use Rattle.schedules.specs.Next.{can_run}
use Rattle.schedules.proofs.branching.push_first.Goals as goal

pub returns : goal.returns
returns c =
    let branch = c.args.branch in
    let lines = c.args.lines.now in
    let left = branch.left.items in
    let at = c.args.at in
    let pushed : c.push.new.self.items ≡ c.args.stack.now.items ++ c.in_ok-next.next ∷ [] = search rules in
    let position : c.index.result.now ≡ slice_index left at = get_or_read left _ _ c.requires c.index.ensures 0 in
    let can : can_run lines c.deref.result.now.step (take at c.deref-2.result.now) (slice_index left at) ≡ true =
    subst (λ k. can_run lines c.deref.result.now.step (take at c.deref-2.result.now) k ≡ true) position c.in-Some.ensures.0 in
    let here : can_run lines branch.walk.value.step (take at c.deref-2.result.now) (slice_index left at) ≡ true = subst (λ w. can_run lines w.step (take at c.deref-2.result.now) (slice_index left at) ≡ true) c.deref.ensures can in
    (true, (c.in_ok-next.next, subst (λ x. can_run lines branch.walk.value.step (take at x) (slice_index left at) ≡ true) c.deref-2.ensures.value here, c.in_ok-next.ensures, pushed))
