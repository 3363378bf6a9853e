use Rattle.std.proofs.Common.{ap, ◌∙◌}
use Rattle.mvs_model.specs.Reading.{set_of}
use Rattle.job_script.proofs.Gifted.{alone_given, alone_numbers}
use Rattle.job_script.proofs.subtasks.set_in.Goals as goal

pub set-requires : goal.set-requires
set-requires c = alone_given c.args.text.now c.requires c.in-None.ensures

pub returns-in-None : goal.returns-in-None
returns-in-None c = c.set.ensures ∙ ap set_of (alone_numbers c.args.text.now c.requires c.in-None.ensures)
