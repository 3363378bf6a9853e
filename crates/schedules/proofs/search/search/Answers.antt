use Rattle.std.proofs.Common.{◌≡◌, ◌∷◌, [], arith, rules, subst, sym}
use Rattle.schedules.specs.Searching.{IsSearchedSoFar}
use Rattle.schedules.proofs.Branches.{so_far_all, so_far_first, so_far_stopped}
use Rattle.schedules.proofs.search.search.Goals as goal

pub branches-init : goal.branches-init
branches-init c =
    let start = c.args.start in
    let pushed : c.push.new.self.items ≡ start ∷ [] = search rules in
    record {
      so_far = subst (λ x. IsSearchedSoFar c.args.lines.now start.walk.value start.left.items x c.new-tally.result c.new-outcomes.result) (sym pushed)
          (so_far_first c.args.lines.now start c.new-tally.result c.new-outcomes.result c.requires.start (record { tally = c.new-tally.ensures; has = c.new-outcomes.ensures }));
      most = let none = c.new-tally.ensures.counted in omega (arith, none);
    }

pub returns-then-tally-most-clause-counted : goal.returns-then-tally-most-clause-counted
returns-then-tally-most-clause-counted c = so_far_stopped c.args.lines.now c.args.start.walk.value c.args.start.left.items c.branches.stack.items c.branches.tally c.branches.outcomes c.branches.invariant.so_far

pub returns-clause-counted : goal.returns-clause-counted
returns-clause-counted c =
    let none : c.branches.stack.items ≡ [] = search rules in
    so_far_all c.args.lines.now c.args.start.walk.value c.args.start.left.items c.branches.stack.items c.branches.tally c.branches.outcomes none c.branches.invariant.so_far
