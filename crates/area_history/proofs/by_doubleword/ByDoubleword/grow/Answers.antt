use Rattle.std.proofs.Common.{◌≡◌, ◌+◌, ◌-◌, ◌/◌, ◌<◌, ◌≤◌, length, sym, subst, ◌∙◌}
use Rattle.area_history.specs.declared.by_doubleword.ByDoubleword.{ByDoubleword}
use Rattle.area_history.proofs.Marking.{room_made}
use Rattle.area_history.proofs.Recording.{ok_maps}
use Rattle.area_history.proofs.by_doubleword.ByDoubleword.grow.Goals as goal

pub returns-clause-room : goal.returns-clause-room
returns-clause-room g c =
    let p = c.args.place in
    let first = c.get-first.result in
    let above = c.grow-2.new.self in
    let values : ByDoubleword g.row.T.Denot = record { below = c.grow.new.self; above = above } in
    let addr : first ≡ p.addr = c.get-first.ensures.value ∙ c.addr.ensures in
    let len : c.len.result ≡ p.len = c.len.ensures.len in
    ok_maps c.grow-2.result
    (λ h. room_made values p c.end_below.result
    (λ d from to small. c.end_below.ensures d (subst (λ a. a / 8 ≤ d) (sym addr) from) (subst (λ l. d < first / 8 + l / 8) (sym len) (subst (λ a. d < a / 8 + p.len / 8) (sym addr) to)) small)
    c.in_ok-grow.ensures.len
    (subst (λ a. a / 8 + p.len / 8 - 2097152 ≤ length above) addr (subst (λ l. first / 8 + l / 8 - 2097152 ≤ length above) len (subst (λ n. n ≤ length above) c.saturating_sub.ensures h))))
    c.grow-2.ensures.len
