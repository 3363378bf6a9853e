use Rattle.std.proofs.Common.{◌≤◌, ◌+◌, subst, sym, ap, ◌∙◌, arith}
use Rattle.mvs_model.specs.Place.{place_at}
use Rattle.boundary_loc.proofs.Deciding.{IsLowest, lowest_at_first, lowest_at_next}
use Rattle.boundary_loc.proofs.first_in.Goals as goal

pub place-requires-clause-most : goal.place-requires-clause-most
place-requires-clause-most c =
    let ends : c.in_ok-starts.starts.first + c.args.len ≤ c.args.run.addr + c.args.run.len = ((c.in_ok-starts.ensures.first c.args.len (omega arith)).0 (omega arith)).0.1 in
    omega arith

pub place-requires-then-len-starts-2-clause-most :
    goal.place-requires-then-len-starts-2-clause-most
place-requires-then-len-starts-2-clause-most c =
    let ends : c.in_ok-starts.starts.next + c.args.len ≤ c.args.run.addr + c.args.run.len = ((c.in_ok-starts.ensures.next c.args.len (omega arith)).0 (omega arith)).0.1 in
    omega arith

pub returns-then-len-starts : goal.returns-then-len-starts
returns-then-len-starts c =
    subst (IsLowest c.args.run c.args.want.now c.args.len) (sym (c.place.ensures ∙ ap (place_at c.in_ok-starts.starts.first) c.from-len.ensures))
    (lowest_at_first c.args.run c.args.want.now c.in_ok-starts.starts c.args.len c.in_ok-starts.ensures c.requires.some (omega arith))

pub returns-then-len-starts-2 : goal.returns-then-len-starts-2
returns-then-len-starts-2 c =
    subst (IsLowest c.args.run c.args.want.now c.args.len) (sym (c.place-then-len-starts-2.ensures ∙ ap (place_at c.in_ok-starts.starts.next) c.from-len.ensures))
    (lowest_at_next c.args.run c.args.want.now c.in_ok-starts.starts c.args.len c.in_ok-starts.ensures c.requires.some (omega arith) (omega arith))
