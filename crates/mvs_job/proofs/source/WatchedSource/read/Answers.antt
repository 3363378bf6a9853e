use Rattle.mvs_job.proofs.Sources.{since_read}
use Rattle.mvs_job.proofs.source.WatchedSource.read.Goals as goal

pub returns-clause-since : goal.returns-clause-since
returns-clause-since g c = λ start h. since_read start _ _ c.read.result c.read.new.buf c.read.ensures.bytes h
