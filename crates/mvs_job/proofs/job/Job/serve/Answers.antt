use Rattle.mvs_job.proofs.job.Job.serve.Goals as goal

pub returns-in-Where-clause-full_answer : goal.returns-in-Where-clause-full_answer
returns-in-Where-clause-full_answer g c = c.where_answer.ensures.quiet c.args.self.now.state
