use Rattle.std.proofs.Common.{[]}
use Rattle.mvs_job.specs.Trace.{events_of}
use Rattle.event_json.proofs.Written.{lines_of_entries}
use Rattle.event_json.proofs.laws.event_lines_are_of_runs.Goals as goal

pub returns : goal.returns
returns c = λ script text outcome w. (events_of w.entries, c.traces_are_runs.ensures script w.entries outcome w.trace, lines_of_entries [] w.entries text w.is)
