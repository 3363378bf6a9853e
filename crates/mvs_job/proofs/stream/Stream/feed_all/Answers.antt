use Rattle.std.proofs.Common.{◌≡◌, ◌∙◌, ◌-◌, arith, take, drop, length, length-drop, ap}
use Rattle.std.proofs.lemmas.List.{take_rest, take_all}
use Rattle.std.proofs.lemmas.Result.{err_from_is_err_and}
use Rattle.mvs_job.proofs.Feeding.{some_on, some_fault, some_stopped}
use Rattle.mvs_job.proofs.stream.Stream.feed_all.Goals as goal

pub returns-in_err-consumed-clause-bytes : goal.returns-in_err-consumed-clause-bytes
returns-in_err-consumed-clause-bytes g c = λ first start consumed st.
    let p = err_from_is_err_and c.from_residual.result c.from_residual.ensures.1 in
    rw (p.1, p.2)
    (some_stopped g.C.Consumer.piece (g.C.Consumer.knows first) _ _ c.args.bytes.now _ c.feed_some.new.self.walk _ c.feed_some.new.consumer _ c.loop-at.at _ c.feed_some.new.self.line (take_rest c.args.bytes.now c.loop-at.at) start consumed (c.loop-at.invariant.stands first start consumed st) c.in_err-consumed.field-0.0 (c.in_err-consumed.ensures.bytes first))

pub loop-at-preserved : goal.loop-at-preserved
loop-at-preserved g c =
    let taken = rw (c.in-Some.is) at c.in_ok-consumed.ensures.consumed in
    let rest : length (take (length c.args.bytes.now - c.loop-at.at) (drop c.loop-at.at c.args.bytes.now)) ≡ length c.args.bytes.now - c.loop-at.at = ap length (take_rest c.args.bytes.now c.loop-at.at) ∙ length-drop c.loop-at.at c.args.bytes.now in
    record {
      stands = λ first start consumed st. some_on g.C.Consumer.piece (g.C.Consumer.knows first) _ _ c.args.bytes.now _ _ _ _ _ c.loop-at.at _ _ (take_rest c.args.bytes.now c.loop-at.at) start consumed (c.loop-at.invariant.stands first start consumed st) c.in-Some.consumed (rw (c.in-Some.is) at (c.in_ok-consumed.ensures.bytes first));
      within = omega (arith, taken.1, rest);
      room = c.in_ok-consumed.ensures.room;
      number = omega (arith, taken.0, c.in_ok-consumed.ensures.number);
      same = c.in_ok-consumed.ensures.ok ∙ c.loop-at.invariant.same;
    }

pub returns-in-None-clause-bytes : goal.returns-in-None-clause-bytes
returns-in-None-clause-bytes g c = λ first start consumed st.
    some_fault g.C.Consumer.piece (g.C.Consumer.knows first) _ _ c.args.bytes.now _ c.feed_some.new.self.walk _ c.feed_some.new.consumer _ c.loop-at.at _ c.feed_some.new.self.line (take_rest c.args.bytes.now c.loop-at.at) start consumed (c.loop-at.invariant.stands first start consumed st) (rw (c.in-None.is) at (c.in_ok-consumed.ensures.bytes first))

pub returns-clause-bytes : goal.returns-clause-bytes
returns-clause-bytes g c = λ first start consumed st.
    let all : take c.loop-at.at c.args.bytes.now ≡ c.args.bytes.now = take_all c.loop-at.at c.args.bytes.now (omega arith) in
    rw all at (c.loop-at.invariant.stands first start consumed st)
