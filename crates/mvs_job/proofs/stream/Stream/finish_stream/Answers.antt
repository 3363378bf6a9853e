use Rattle.std.proofs.Common.{arith, ap, refl, Err}
use Rattle.std.proofs.lemmas.Result.{err_from_is_err_and}
use Rattle.mvs_job.proofs.Feeding.{read_failed, read_end, read_end_stopped, read_too_many, given_up}
use Rattle.mvs_job.proofs.stream.Stream.finish_stream.Goals as goal

pub returns-in_err-count-clause-pump : goal.returns-in_err-count-clause-pump
returns-in_err-count-clause-pump g c =
    let p = err_from_is_err_and c.from_residual.result c.from_residual.ensures.1 in
    rw (p.1, p.2) (λ first unread start count u. given_up g.C.Consumer.piece (g.C.Consumer.knows first) _ _ _ _ count _ _ c.in_err-count.field-0.0 (read_failed g.C.Consumer.piece (g.C.Consumer.knows first) _ _ _ _ _ _ _ _ _ _ u c.in_err-count.ensures.unwritten 0 c.in_err-count.field-0.0 (λ e. c.in_err-count.ensures.not_memory (ap (λ x. Err x) e)) (λ e. c.in_err-count.ensures.not_long (ap (λ x. Err x) e)) c.in_err-count.ensures.bytes) (omega arith) (λ e. c.in_err-count.ensures.not_long (ap (λ x. Err x) e)))

pub returns-then-count-gt0-clause-pump : goal.returns-then-count-gt0-clause-pump
returns-then-count-gt0-clause-pump g c = λ first unread start count u.
    read_too_many g.C.Consumer.piece (g.C.Consumer.knows first) _ _ _ _ _ _ _ _ _ _ u c.in_ok-count.ensures.unwritten c.in_ok-count.count c.read.new.chunk c.in_ok-count.ensures.bytes c.in_ok-count.ensures.bound (omega (arith, c.in_ok-count.ensures.room)) (omega (arith, c.if-count-gt0.true))

pub returns-clause-pump : goal.returns-clause-pump
returns-clause-pump g c = λ first unread start count u.
    read_end g.C.Consumer.piece (g.C.Consumer.knows first) _ _ _ _ _ _ _ _ _ _ u c.in_ok-count.ensures.unwritten _ _ c.in_ok-count.count _ c.read.new.chunk (omega arith) (omega (arith, c.if-count-gt0.false)) (c.in_ok-count.ensures.end (omega (arith, c.if-count-gt0.false)) (omega (arith, c.in_ok-count.ensures.room))) c.in_ok-count.ensures.bytes c.in_ok-finish.field-0 (c.in_ok-finish.ensures.bytes first)

pub returns-in_err-finish-clause-pump : goal.returns-in_err-finish-clause-pump
returns-in_err-finish-clause-pump g c =
    let p = err_from_is_err_and c.from_residual-in_err-finish.result c.from_residual-in_err-finish.ensures.1 in
    rw (p.1, p.2) (λ first unread start count u. read_end_stopped g.C.Consumer.piece (g.C.Consumer.knows first) _ _ _ _ _ _ _ _ _ _ u c.in_ok-count.ensures.unwritten _ _ c.in_ok-count.count _ c.read.new.chunk (omega arith) (omega (arith, c.if-count-gt0.false)) (c.in_ok-count.ensures.end (omega (arith, c.if-count-gt0.false)) (omega (arith, c.in_ok-count.ensures.room))) c.in_ok-count.ensures.bytes c.in_err-finish.field-0.0 _ refl (c.in_err-finish.ensures.bytes first))
