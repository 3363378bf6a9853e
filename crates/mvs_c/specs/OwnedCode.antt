-- A code of lists of subpools.
use Rattle.std.specs.Prelude.{List}
use Rattle.std.specs.Coded.{Coded, coded_list}
use Rattle.request_forms.specs.declared.facts.OwnedSubpool.{OwnedSubpool}
use Rattle.request_forms.specs.contracts.facts.OwnedSubpool.{the_row}

-- a code, for a model's value
abbrev pub owned_code : Coded (List OwnedSubpool)
owned_code = coded_list the_row.coded
