use Rattle.std.proofs.Common.{subst, sym, arith, inl, inr}
use Rattle.boundary_loc.proofs.Deciding.{IsLongest, longest_at_first, longest_at_next}
use Rattle.boundary_loc.proofs.longest_in.Goals as goal

pub returns-then-len-starts : goal.returns-then-len-starts
returns-then-len-starts c =
    subst (IsLongest c.args.run c.args.want.now) (sym c.place.ensures)
    (longest_at_first c.args.run c.args.want.now c.in_ok-starts.starts _ c.in_ok-starts.ensures c.most.ensures.wanted
    (record { least = omega arith; most = omega arith; whole = omega arith })
    (omega arith)
    (λ m whole most room. elim room [ inl r ↦ omega arith | inr r ↦ omega arith ]))

pub returns-else-len-starts : goal.returns-else-len-starts
returns-else-len-starts c =
    subst (IsLongest c.args.run c.args.want.now) (sym c.place-else-len-starts.ensures)
    (longest_at_next c.args.run c.args.want.now c.in_ok-starts.starts _ c.in_ok-starts.ensures c.most.ensures.wanted
    (record { least = omega arith; most = omega arith; whole = omega arith })
    (omega arith)
    (λ m whole most room. elim room [ inl r ↦ omega arith | inr r ↦ omega arith ]))
