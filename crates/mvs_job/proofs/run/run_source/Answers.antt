use Rattle.std.proofs.Common.{◌≡◌, ◌∙◌, ap, Ok, Err, refl, length, arith}
use Rattle.std.proofs.lemmas.Grind.{common_steps}
use Rattle.std.proofs.lemmas.Result.{err_from_is_err_and}
use Rattle.mvs_job.specs.Streams.{HasEnded, HasGivenUp}
use Rattle.mvs_job.proofs.Feeding.{under_way_start, given_up, given_up_within, ended_within, if_ok, if_err}
use Rattle.mvs_job.proofs.run.run_source.Goals as goal

pub reading-init : goal.reading-init
reading-init g c = record {
  under_way = under_way_start g.C.Consumer.piece (g.C.Consumer.knows c.args.consumer.now) _ _ _ _ _ c.new-stream.ensures.walk c.new-stream.ensures.line c.requires.new;
  room = let e : length c.new-stream.result.line ≡ 0 = ap length c.new-stream.ensures.line in omega arith;
  number = let e : c.new-stream.result.walk.number ≡ 1 = ap (λ w. w.number) c.new-stream.ensures.walk in omega (arith, e);
  small = omega arith;
  reader = refl;
  since = λ start h. h;
  writer = refl;
}

pub reading-preserved : goal.reading-preserved
reading-preserved g c =
    let on = c.in_ok-consumed.ensures.on c.in-On.consumed (ap (λ x. Ok x) c.in-On.is) in
    record {
      under_way = rw (c.in-On.is) at (c.in_ok-consumed.ensures.pump c.args.consumer.now _ _ _ c.reading.invariant.under_way);
      room = on.3;
      number = omega (arith, on.2);
      small = grind (arith, common_steps);
      reader = c.in_ok-consumed.ensures.healthy.0 ∙ c.reading.invariant.reader;
      since = λ start h. c.in_ok-consumed.ensures.since start (c.reading.invariant.since start h);
      writer = c.in_ok-consumed.ensures.healthy.1 ∙ c.reading.invariant.writer;
    }

pub returns-in_err-consumed-clause-fault : goal.returns-in_err-consumed-clause-fault
returns-in_err-consumed-clause-fault g c =
    let p = err_from_is_err_and c.from_residual.result c.from_residual.ensures.1 in
    rw (p.1, p.2) (given_up g.C.Consumer.piece (g.C.Consumer.knows c.args.consumer.now) _ _ _ _ 16777215 _ _ _ (c.in_err-consumed.ensures.pump c.args.consumer.now _ _ _ c.reading.invariant.under_way) (grind (arith, common_steps)) (λ e. c.in_err-consumed.ensures.not_long (ap (λ x. Err x) e)))

pub returns-in-Ended-clause-ok : goal.returns-in-Ended-clause-ok
returns-in-Ended-clause-ok g c =
    ended_within g.C.Consumer.piece (g.C.Consumer.knows c.args.consumer.now) _ _ _ _ _ _ c.in-Ended.outcome (rw (c.in-Ended.is) at (c.in_ok-consumed.ensures.pump c.args.consumer.now _ _ _ c.reading.invariant.under_way)) (grind (arith, common_steps))

pub returns-clause-ok : goal.returns-clause-ok
returns-clause-ok g c =
    if_ok c.finish_stream.result _ (λ o. HasEnded g.C.Consumer.piece (g.C.Consumer.knows c.args.consumer.now) (g.S.Source.left c.args.reader.now) (g.S.Source.left c.finish_stream.new.reader) (g.W.Write.contents c.args.writer.now.inner) (g.W.Write.contents c.finish_stream.new.writer.inner) 16777215 c.finish_stream.new.consumer o) _
    (c.finish_stream.ensures.pump c.args.consumer.now _ _ _ c.reading.invariant.under_way) (λ o h. ended_within g.C.Consumer.piece (g.C.Consumer.knows c.args.consumer.now) _ _ _ _ _ _ o h (omega (arith, c.reading.invariant.small)))

pub returns-clause-fault : goal.returns-clause-fault
returns-clause-fault g c =
    if_err c.finish_stream.result _ _ (λ fault. HasGivenUp g.C.Consumer.piece (g.C.Consumer.knows c.args.consumer.now) (g.S.Source.left c.args.reader.now) (g.S.Source.left c.finish_stream.new.reader) (g.W.Write.contents c.args.writer.now.inner) (g.W.Write.contents c.finish_stream.new.writer.inner) 16777215 c.finish_stream.new.consumer fault)
    (c.finish_stream.ensures.pump c.args.consumer.now _ _ _ c.reading.invariant.under_way) (λ fault h. given_up_within g.C.Consumer.piece (g.C.Consumer.knows c.args.consumer.now) _ _ _ _ _ _ fault h (omega (arith, c.reading.invariant.small)))
