use Rattle.std.proofs.Common.{◌≡◌, ◌++◌, ◌∙◌, [], ap, append-nil, arith, map, subst, sym}
use Rattle.std.specs.List.{AllByRecursion}
use Rattle.mvs_model.specs.Lines.{IsUnended, lines_of}
use Rattle.mvs_job.proofs.LineEnd.{none_left}
use Rattle.schedules.proofs.Reordered.{lines_unended}
use Rattle.schedules.proofs.order.lines_in.Goals as goal

pub returns-clause-unended : goal.returns-clause-unended
returns-clause-unended c =
    let script = c.args.script.now in
    let found = map (λ l. l.now) c.lines.lines.items in
    let none = none_left script c.lines.at (omega (arith, c.lines-test.false)) in
    let all : found ≡ lines_of script = sym (append-nil found) ∙ ap (λ x. found ++ x) (sym none) ∙ c.lines.invariant.lines in
    subst (AllByRecursion IsUnended) (sym all) (lines_unended script)
