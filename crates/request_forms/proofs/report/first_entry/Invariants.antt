use Rattle.task_owner.specs.Tasks.{name_of}
use Rattle.request_forms.specs.Reports.{HasNone}
use Rattle.request_forms.proofs.report.first_entry.Given as goal

abbrev pub invariant-loop-n : goal.invariant-loop-n
invariant-loop-n l = HasNone l.fn.tasks.owners (name_of l.fn.tasks l.fn.t) l.fn.from l.n
