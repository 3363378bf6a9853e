use Rattle.std.proofs.Common.{◌∙◌, subst}
use Rattle.std.specs.Io.KnownBytes.{Appends}
use Rattle.mvsjob.proofs.judging.judge_output.Goals as goal

pub returns : goal.returns
returns g c =
    let printed = subst (λ t. Appends (g.W.Write.contents c.args.writer.now.inner) (g.W.Write.contents c.write_all.new.writer.inner) t) (c.deref.ensures.value ∙ c.in_ok-report.ensures.1) c.in_ok-write_all.ensures.bytes in
    (c.in_ok-judgement.judgement.finding, c.in_ok-judgement.judgement.text.items, c.in_ok-judgement.judgement.outcome, c.in_ok-report.ensures.0, c.in_ok-judgement.ensures.found, printed, c.of.ensures.ending, c.of.ensures.faulty)
