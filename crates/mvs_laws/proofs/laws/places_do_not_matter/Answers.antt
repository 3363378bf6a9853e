use Rattle.mvs_laws.proofs.OneLabels as lemmas
use Rattle.mvs_laws.proofs.laws.places_do_not_matter.Goals as goal

pub returns-clause-answers : goal.returns-clause-answers
returns-clause-answers c = lemmas.places_do_not_matter

pub returns-clause-text : goal.returns-clause-text
returns-clause-text c = lemmas.places_are_not_printed
