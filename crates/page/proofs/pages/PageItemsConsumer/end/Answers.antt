use Rattle.page.proofs.Paged.{accepts_closed, accepts_exhausted}
use Rattle.page.proofs.pages.PageItemsConsumer.end.Goals as goal

pub returns-in-Closed-clause-accepted : goal.returns-in-Closed-clause-accepted
returns-in-Closed-clause-accepted g c first =
    rw (c.in-Closed.is) (λ history e is in_step follows known. accepts_closed _ _ first c.args.self.now history e c.args.line_number c.in-Closed.ended c.print_end.result is c.print_end.ensures.bytes known)

pub returns-in-Exhausted-clause-accepted : goal.returns-in-Exhausted-clause-accepted
returns-in-Exhausted-clause-accepted g c first =
    rw (c.in-Exhausted.is) (λ history e is in_step follows known. accepts_exhausted _ first c.args.self.now history e {X = Unit {0}} c.args.line_number c.in-Exhausted.field-0 tt is known)
