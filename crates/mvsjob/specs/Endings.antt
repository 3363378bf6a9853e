-- How the program ends: its exit status, where nobody reads that of a command that SIGPIPE ended, and what standard error says.
-- (this project's choice)
use Rattle.std.specs.Prelude.{ℕ, List, Option, Some, None, Bool, codes, if◌then◌else◌}
use Rattle.judge.specs.declared.Finding.{Finding}
use Rattle.judge.specs.declared.Finding.TheVariants.{Accepted, Undecided}
use Rattle.judge.specs.declared.Finding.TheVariants as finding
use Rattle.mvs_model.specs.declared.outcome.Outcome.{Outcome}
use Rattle.mvs_model.specs.declared.outcome.Outcome.TheVariants.{Clean, SomeAbend, ScriptFault}
use Rattle.mvs_job.specs.declared.printing.Stop.{Stop}
use Rattle.mvs_job.specs.declared.printing.Stop.TheVariants as stop
use Rattle.mvs_job.specs.declared.run.RunFault.TheVariants as fault
use Rattle.mvs_job.specs.Giving.{fault_text}
use Rattle.mvsjob.specs.declared.ending.Cause.{Cause}
use Rattle.mvsjob.specs.declared.ending.Cause.TheVariants.{Missing, Forbidden, Directory, Unnamed, TooLong, Other}
use Rattle.mvsjob.specs.declared.ending.ExitReason.{ExitReason}
use Rattle.mvsjob.specs.declared.ending.ExitReason.TheVariants.{Ran, NotServed, Leaked, Printed, Checked, Judged, Explored, Refused, GaveUp}
use Rattle.mvsjob.specs.declared.ending.CliError.{CliError}
use Rattle.mvsjob.specs.declared.ending.CliError.TheVariants.{Script, Output, Second, PageFile, Order, SecondOrder, Pipe, Job}
use Rattle.schedules.specs.declared.report.Verdict.TheVariants.{Same, Varies, Stopped}

abbrev pub status_of : ExitReason → ℕ
status_of (Ran Clean) = 0
status_of (Ran SomeAbend) = 8
status_of (Ran ScriptFault) = 12
status_of NotServed = 4
status_of Leaked = 4
status_of Printed = 0
status_of (Checked differs) = if differs then 1 else 0
status_of (Judged Accepted) = 0
status_of (Judged finding.Refused) = 1
status_of (Judged (Undecided line)) = 2
status_of (Explored Same) = 0
status_of (Explored Varies) = 1
status_of (Explored Stopped) = 2
status_of Refused = 16
status_of (GaveUp Pipe) = 141
status_of (GaveUp (Script why)) = 16
status_of (GaveUp (Output why)) = 16
status_of (GaveUp (Second why)) = 16
status_of (GaveUp (PageFile why)) = 16
status_of (GaveUp (Order why)) = 16
status_of (GaveUp (SecondOrder why)) = 16
status_of (GaveUp (Job fault)) = 16

-- how a strict run ends, in which each line was executed, or not
abbrev pub strict_ending : Outcome → Bool → ExitReason
strict_ending Clean all = if all then Ran Clean else NotServed
strict_ending outcome all = Ran outcome

-- how the program ends after a run with reports of leaks: by how it would end without them, and whether a step ended with a leak
abbrev pub leak_ending : Bool → ExitReason → ExitReason
leak_ending leaked (Ran Clean) = if leaked then Leaked else Ran Clean
leak_ending leaked ending = ending

-- why the program stops where a job stops
abbrev pub gave_up : Stop → CliError
gave_up stop.Write = Job fault.Write
gave_up stop.Memory = Job fault.Memory

-- the text of a cause, which comes after the name of the file
abbrev pub cause_of : Cause → List ℕ
cause_of Missing = codes "no such file"
cause_of Forbidden = codes "permission denied"
cause_of Directory = codes "is a directory"
cause_of Unnamed = codes "the name is not UTF-8"
cause_of TooLong = codes "more than 268,435,455 bytes"
cause_of Other = codes "cannot be opened or read"

-- what comes after the name of the program
abbrev pub text_of : ExitReason → Option (List ℕ)
text_of (GaveUp (Script Directory)) = Some (fault_text fault.Read)
text_of (GaveUp (Script why)) = Some (codes "cannot open script")
text_of (GaveUp (Output why)) = Some (codes "cannot read output")
text_of (GaveUp (Second why)) = Some (codes "cannot read the second script")
text_of (GaveUp (PageFile why)) = Some (codes "cannot create a file for the page")
text_of (GaveUp (Job fault)) = Some (fault_text fault)
text_of _ = None
