use Rattle.std.proofs.Common.{[], ◌++◌, ◌∙◌, append-nil, arith, ap, sym, subst}
use Rattle.std.proofs.lemmas.List.{take_rest}
use Rattle.mvs_model.specs.declared.outcome.Outcome.TheVariants.{ScriptFault}
use Rattle.mvs_model.specs.Runs.{IsPrinting}
use Rattle.judge.specs.Deciding.{HasReached}
use Rattle.job_script.proofs.Named.{mapped_ok}
use Rattle.judge.proofs.Rest.{grown_end, grown_on, rest_end, rest_fault, rest_on}
use Rattle.judge.proofs.resting.run_rest.Goals as goal

pub lines-init : goal.lines-init
lines-init c = record {
  stands = λ whole s. s;
  grown = ([], sym (append-nil c.new-writer.result.inner.items));
  within = omega arith;
  number = omega arith;
}

pub lines-preserved : goal.lines-preserved
lines-preserved c =
    let ran = rw (mapped_ok c.run_line.result c.map_err.result _ _ c.map_err.ensures.cases c.in_ok-continues.was) at c.run_line.ensures.ran in
    record {
      stands = λ whole s. rest_on whole c.args.script.now _ _ _ c.lines.at c.line_end-end.result c.lines.walk c.run_line.new.walk (take_rest c.args.script.now c.lines.at) c.line_end-end.ensures.lines (c.lines.invariant.stands whole s) c.run_line.ensures.number _ c.if-not-continues.false ran;
      grown = grown_on _ _ _ c.args.script.now _ c.lines.at c.line_end-end.result c.lines.walk c.run_line.new.walk _ (take_rest c.args.script.now c.lines.at) c.lines.invariant.grown ran;
      within = let e = c.line_end-end.ensures.within in omega (arith, e, c.lines-test.true);
      number = omega (arith, c.run_line.ensures.number, c.lines.invariant.number);
    }

pub returns-then-not-continues-clause-run : goal.returns-then-not-continues-clause-run
returns-then-not-continues-clause-run c = λ whole s.
    let ran = rw (mapped_ok c.run_line.result c.map_err.result _ _ c.map_err.ensures.cases c.in_ok-continues.was) at c.run_line.ensures.ran in
    let begun = subst (λ text. HasReached whole text c.args.walk c.args.script.now) (sym (ap (λ v. v.items) c.new-writer.ensures.inner)) s in
    subst (λ text. IsPrinting whole text ScriptFault) (sym (ap (λ v. v.items) c.into_inner.ensures))
    (rest_fault whole c.args.script.now _ _ _ c.lines.at c.line_end-end.result c.lines.walk c.run_line.new.walk (take_rest c.args.script.now c.lines.at) c.line_end-end.ensures.lines (c.lines.invariant.stands whole begun) _ c.if-not-continues.true ran)

pub returns-clause-run : goal.returns-clause-run
returns-clause-run c = λ whole s.
    let bytes = rw (mapped_ok c.print_closing.result c.map_err-2.result _ _ c.map_err-2.ensures.cases c.in_ok-map_err.was) at c.print_closing.ensures.bytes in
    let begun = subst (λ text. HasReached whole text c.args.walk c.args.script.now) (sym (ap (λ v. v.items) c.new-writer.ensures.inner)) s in
    subst (λ text. IsPrinting whole text c.close-closing.result.outcome) (sym (ap (λ v. v.items) c.into_inner-2.ensures))
    (rest_end whole c.args.script.now _ _ c.lines.at c.lines.walk c.close-closing.result.ended c.close-closing.result.outcome (omega (arith, c.lines-test.false)) (c.lines.invariant.stands whole begun) c.close-closing.ensures (rw (c.number-2.ensures) at bytes))

pub returns-then-not-continues-clause-grown : goal.returns-then-not-continues-clause-grown
returns-then-not-continues-clause-grown c =
    let ran = rw (mapped_ok c.run_line.result c.map_err.result _ _ c.map_err.ensures.cases c.in_ok-continues.was) at c.run_line.ensures.ran in
    let g = grown_on _ _ _ c.args.script.now _ c.lines.at c.line_end-end.result c.lines.walk c.run_line.new.walk _ (take_rest c.args.script.now c.lines.at) c.lines.invariant.grown ran in
    (g.0, ap (λ v. v.items) c.into_inner.ensures ∙ g.1 ∙ ap (λ v. v.items ++ g.0) c.new-writer.ensures.inner)

pub returns-clause-grown : goal.returns-clause-grown
returns-clause-grown c =
    let bytes = rw (mapped_ok c.print_closing.result c.map_err-2.result _ _ c.map_err-2.ensures.cases c.in_ok-map_err.was) at c.print_closing.ensures.bytes in
    let g = grown_end _ _ _ _ c.lines.invariant.grown bytes in
    (g.0, ap (λ v. v.items) c.into_inner-2.ensures ∙ g.1 ∙ ap (λ v. v.items ++ g.0) c.new-writer.ensures.inner)
