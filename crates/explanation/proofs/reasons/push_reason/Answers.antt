use Rattle.explanation.proofs.reasons.push_reason.Goals as goal

pub returns-in-InvalidNumber-clause-text : goal.returns-in-InvalidNumber-clause-text
returns-in-InvalidNumber-clause-text c = rw (c.in-InvalidNumber.is) (rw (c.number.ensures) at c.push_number.ensures.text)
