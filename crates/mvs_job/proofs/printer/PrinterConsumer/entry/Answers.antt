use Rattle.std.proofs.lemmas.Result.{err_from_is_err_and}
use Rattle.mvs_job.proofs.Printed.{prints_front, prints_line}
use Rattle.mvs_job.proofs.printer.PrinterConsumer.entry.Goals as goal

pub returns-clause-accepted : goal.returns-clause-accepted
returns-clause-accepted g c first = prints_line (λ _ _ _ _ _ _ _. Unit {0}) (λ _ _ _. Unit {0}) _ _ first c.args.self.now c.args.self.now c.args.line_number c.args.line.now c.args.walk.now c.args.line_event.now {X = Unit {0}} tt c.in_ok-print_line.ensures.bytes

pub returns-in_err-print_line-clause-accepted : goal.returns-in_err-print_line-clause-accepted
returns-in_err-print_line-clause-accepted g c first =
    let p = err_from_is_err_and c.from_residual.result c.from_residual.ensures.1 in
    rw (p.1, p.2) (prints_front (λ _ _ _ _ _ _ _. Unit {0}) (λ _ _ _. Unit {0}) _ _ first c.args.self.now c.args.self.now c.args.line_number c.args.line.now c.args.walk.now c.args.line_event.now (Unit {0}) c.in_err-print_line.ensures.bytes)
