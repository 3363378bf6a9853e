use Rattle.std.proofs.Common.{length}
use Rattle.mvs_job.proofs.name_origins.NameOrigins.+put_all.Given as goal

abbrev pub decreases-put_all : goal.decreases-put_all
decreases-put_all l = length l.names.now
