use Rattle.mvs_job.proofs.Feeding.{fed_line, fed_full, fed_more}
use Rattle.mvs_job.proofs.stream.Stream.feed.Goals as goal

pub returns-in-More-clause-bytes : goal.returns-in-More-clause-bytes
returns-in-More-clause-bytes g c first = fed_more g.C.Consumer.piece (g.C.Consumer.knows first) _ _ _ _ _ _ c.in-More.ensures

pub returns-in-Line-clause-bytes : goal.returns-in-Line-clause-bytes
returns-in-Line-clause-bytes g c first = fed_line g.C.Consumer.piece (g.C.Consumer.knows first) _ _ _ _ _ _ _ _ _ _ _ (c.end_line.ensures.ran first) c.in-Line.ensures c.end_line.ensures.number c.end_line.ensures.line

pub returns-in-Full-clause-bytes : goal.returns-in-Full-clause-bytes
returns-in-Full-clause-bytes g c first = fed_full g.C.Consumer.piece (g.C.Consumer.knows first) _ _ _ _ _ _ _ _ _ _ _ (c.end_line-in-Full.ensures.ran first) c.in-Full.ensures c.end_line-in-Full.ensures.line
