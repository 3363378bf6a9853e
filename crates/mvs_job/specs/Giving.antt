-- The message of a job that stops with an error. (this project's choice)
use Rattle.std.specs.Prelude.{ℕ, List, codes}
use Rattle.mvs_job.specs.declared.run.RunFault.{RunFault}
use Rattle.mvs_job.specs.declared.run.RunFault.TheVariants.{Read, Write, Memory, ReadTooLong}

abbrev pub fault_text : RunFault → List ℕ
fault_text Read = codes "read failed"
fault_text Write = codes "write failed"
fault_text Memory = codes "out of memory"
fault_text ReadTooLong = codes "script too long"
