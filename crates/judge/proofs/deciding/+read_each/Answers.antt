use Rattle.std.proofs.Common.{◌++◌, ◌≡◌, ap, arith, length, subst, ◌∙◌}
use Rattle.std.specs.Prelude.{IfOk}
use Rattle.judge.proofs.Decided.{at_long}
use Rattle.judge.proofs.ListLines.{read_next}
use Rattle.judge.proofs.deciding.+read_each.Goals as goal

pub overflow_sub-len : goal.overflow_sub-len
overflow_sub-len t c = let l = at_long c.args.line_number c.args.task.now 0 (omega arith) in omega (arith, l, c.in_ok-len.ensures)

pub returns : goal.returns
returns t c = λ addrs rest many small e.
    read_next c.args.line_number c.args.task.now c.args.text.now c.in_ok-len.len c.address_after-addr.result (length c.in-Some.areas.now) c.args.hints.items (λ items. IfOk c.read_each.result (λ all. all.items ≡ items)) c.in_ok-len.ensures c.address_after-addr.ensures
    (λ addrs rest many small e. subst (λ items. IfOk c.read_each.result (λ all. all.items ≡ items ++ addrs)) c.in_ok-all.ensures (c.read_each.ensures addrs rest many small (c.text_after.ensures ∙ e)))
    addrs rest (many ∙ ap length c.in-Some.ensures.cases.0) small e
