use Rattle.std.proofs.Common.{◌≡◌, ◌<◌, ◌+◌, length, length-set, set, Some, None, ap, sym, ◌∙◌, arith}
use Rattle.task_owner.specs.Seats.{item_at}
use Rattle.task_owner.specs.Family.{is_freed_below}
use Rattle.task_owner.proofs.Collecting.{freed_next, was_there}
use Rattle.task_owner.proofs.Places.{read_at}
use Rattle.task_owner.proofs.freed.free_subpools.Goals as goal

pub subpools-preserved : goal.subpools-preserved
subpools-preserved c =
    let e = c.in-Some.ensures in
    let was = c.subpools.invariant.freed in
    let r = c.in-Some.subpool in
    let range : c.get-s.result < length c.subpools.owned.items = omega (arith, was.sizes, c.requires.long, c.get-s.ensures.low) in
    let here : item_at c.subpools.owned.items r ≡ Some c.in-Some-index.o = read_at c.subpools.owned.items c.get-s.result r c.index.result.now c.index.ensures c.get-s.ensures.value range ∙ c.in-Some-index.is in
    let there : item_at c.args.owned.now.items r ≡ Some c.in-Some-index.o = was_there (is_freed_below c.args.freed.now c.subpools.from r) _ c.in-Some-index.o (sym (was.owners r) ∙ here) in
    record {
      within = omega (arith, c.get-s.ensures.low);
      freed = freed_next c.args.freed.now c.args.active.now c.subpools.active c.drop_entries.new.active c.args.owned.now.items c.subpools.owned.items _ c.subpools.from (c.get-s.result + 1) r c.in-Some-index.o.number
          e.0 (ap (λ n. n + 1) c.get-s.ensures.value) e.1 e.2 was (ap (λ n. set c.subpools.owned.items n None) c.get-s.ensures.value) (length-set c.subpools.owned.items c.get-s.result None)
          c.drop_entries.ensures.each
          (λ k n x h f. let o = c.requires.entries k n r x h f in let g : Some o.0 ≡ Some c.in-Some-index.o = sym o.1 ∙ there in let same : o.0 ≡ c.in-Some-index.o = cc in sym o.2 ∙ ap (λ p. p.number) same)
          c.drop_entries.ensures.len c.drop_entries.ensures.capacity;
    }
