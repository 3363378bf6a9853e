use Rattle.std.proofs.Common.{◌∙◌, arith, sym, subst}
use Rattle.mvs_model.specs.Reading.{FaultOf, LineOf}
use Rattle.shell.specs.Scripts.{are_blank}
use Rattle.terminal_session.proofs.KeptLines.{accepted_line, line_kept, line_skipped}
use Rattle.terminal_session.proofs.Stepping.{on_ok}
use Rattle.terminal_session.proofs.keeping.keep.Goals as goal

pub append-requires-clause-short : goal.append-requires-clause-short
append-requires-clause-short g c = let a = accepted_line c.is_blank.result c.args.line.now c.read_line.new.read c.in_default.ensures.reading in let s = a.0 in omega (arith, s)

pub append-requires-clause-unended : goal.append-requires-clause-unended
append-requires-clause-unended g c = let a = accepted_line c.is_blank.result c.args.line.now c.read_line.new.read c.in_default.ensures.reading in a.1

pub returns-in-Err : goal.returns-in-Err
returns-in-Err g c = sym (line_skipped c.args.script.now c.args.line.now c.in-Err.fault (subst (λ b. FaultOf b c.args.line.now c.in-Err.fault) c.is_blank.ensures c.in-Err.ensures.reading))

pub returns : goal.returns
returns g c =
    let l = subst (λ b. LineOf b c.args.line.now c.read_line.new.read) c.is_blank.ensures c.in_default.ensures.reading in
    on_ok c.append.result _ _ (λ h. h ∙ sym (line_kept c.args.script.now c.args.line.now c.read_line.new.read l)) c.append.ensures.kept
