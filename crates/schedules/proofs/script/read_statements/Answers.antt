use Rattle.std.proofs.Common.{◌-◌, ◌≤◌, ap, arith, drop, length, take}
use Rattle.std.proofs.lemmas.List.{length-drop}
use Rattle.std.proofs.lemmas.Result.{err_from_is_err_and}
use Rattle.schedules.proofs.Statements.{count_on, first_on, read_all, read_on, read_stops, tail_is}
use Rattle.schedules.proofs.script.read_statements.Goals as goal

pub returns-in_err-add_line-clause-stopped : goal.returns-in_err-add_line-clause-stopped
returns-in_err-add_line-clause-stopped c =
    let script = c.args.script.now in
    let at = c.lines.at in
    let rest = take (length script - at) (drop at script) in
    let p = err_from_is_err_and c.from_residual.result c.from_residual.ensures.1 in
    rw (p.1, p.2) (read_stops script rest c.lines.found.items c.add_line.new.found.items c.lines.number at c.line_end-end.result (tail_is script at) c.line_end-end.ensures.lines _ c.in_err-add_line.ensures.stopped c.lines.invariant.read)

pub lines-preserved : goal.lines-preserved
lines-preserved c =
    let script = c.args.script.now in
    let old = c.lines.found.items in
    let new = c.add_line.new.found.items in
    let at = c.lines.at in
    let end = c.line_end-end.result in
    let rest = take (length script - at) (drop at script) in
    let added = c.in_ok-add_line.ensures.added in
    let short : length rest ≤ length script - at = let long = length-drop at script in let same = ap length (tail_is script at) in omega (arith, long, same) in
    let within = c.line_end-end.ensures.within in
    let below = c.lines-test.true in
    record {
      read = read_on script rest old new c.lines.number at end (tail_is script at) c.line_end-end.ensures.lines added c.lines.invariant.read;
      region = first_on c.lines.number (take end rest) old new added c.lines.invariant.region;
      within = omega (arith, short, within, below);
      number = let before = c.lines.invariant.number in omega (arith, before);
      count = count_on c.lines.number (take end rest) old new at end added c.lines.invariant.count;
      addresses = c.in_ok-add_line.ensures.addresses c.lines.invariant.addresses;
    }

pub returns-clause-statements : goal.returns-clause-statements
returns-clause-statements c = read_all c.args.script.now c.lines.found.items c.lines.number c.lines.at c.lines-test.false c.lines.invariant.read
