-- Lines that are read as they should be, by computing.
use Rattle.std.proofs.Common.{refl, arith}
use Rattle.std.specs.Fmt.{digits}
use Rattle.std.proofs.lemmas.Grind.{common_steps}
use Rattle.mvs_model.specs.ReadingLaws.{FaultExamples, MoreFaults, LineExamples, SpellingExamples}

pub fault_examples : FaultExamples
fault_examples = record { range = refl; missing = refl; twice = refl; both = refl; not_taken = refl; unknown = refl; no_number = refl; first_statement = refl }

pub more_faults : MoreFaults
more_faults = grind (arith, common_steps)

pub line_examples : LineExamples
line_examples = grind (arith, common_steps)

pub spelling_examples : SpellingExamples
unfolding digits
spelling_examples = record { least = record { no_fault = refl; says = refl }; most = record { no_fault = refl; says = refl } }
