use Rattle.std.proofs.Common.{arith, sym, ap, subst, ◌∙◌, ◌+◌}
use Rattle.std.proofs.lemmas.Bool.Decides.{nat_tests}
use Rattle.std.specs.Option.{option_copied}
use Rattle.cell_pool.proofs.NextPools.{FirstBelow, none_more, one_more, first_correct, within}
use Rattle.cell_pool.proofs.entry.find_next.Goals as goal
use Rattle.cell_pool.proofs.entry.find_next.Goals.{in-Some, in_default}

pub loop-key-preserved : goal.loop-key-preserved
loop-key-preserved c = elim c.match-get.branch [
  | in-Some w ↦ subst (FirstBelow c.args.entries.now c.args.given.now (c.loop-key.key + 1)) (sym w.next-is) (one_more _ _ _ _ c.loop-key.invariant _ _ (sym c.get.ensures ∙ ap option_copied w.in-Some.is) w.first_of-next.ensures)
  | in_default w ↦ subst (FirstBelow c.args.entries.now c.args.given.now (c.loop-key.key + 1)) (sym w.next-is) (none_more _ _ _ _ c.loop-key.invariant (sym c.get.ensures ∙ ap option_copied w.in_default.is))
]

pub returns : goal.returns
returns c = first_correct _ _ c.loop-key.key c.loop-key.next (λ k x there. grind (arith, nat_tests, within c.args.entries.now.slots k x there, c.capacity-key-end.ensures.value, c.capacity-key-end.ensures.slots, c.loop-key-test.false)) c.loop-key.invariant
