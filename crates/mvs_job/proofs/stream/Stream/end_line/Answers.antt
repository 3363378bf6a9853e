use Rattle.mvs_job.proofs.stream.Stream.end_line.Goals as goal

pub returns-clause-ran : goal.returns-clause-ran
returns-clause-ran g c first = rw (c.bytes.ensures) at (c.run_entry-continues.ensures.ran first)
