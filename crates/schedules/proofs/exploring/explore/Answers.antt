use Rattle.std.proofs.Common.{◌≡◌, ◌+◌, ◌-◌, ◌<◌, ◌≤◌, ◌++◌, ◌∷◌, [], ◌∙◌, ap, arith, drop, length, rules, take, true, subst, sym}
use Rattle.std.specs.Prelude.{IfSome, slice_get}
use Rattle.std.proofs.lemmas.List.{length-drop}
use Rattle.schedules.specs.Scripts.{AreSteps}
use Rattle.job_script.proofs.Named.{mapped_ok}
use Rattle.schedules.proofs.Statements.{some_at_place, steps_all, steps_next, tail_is}
use Rattle.schedules.proofs.exploring.explore.Goals as goal

pub steps-preserved : goal.steps-preserved
steps-preserved c =
    let lines = c.in_ok-lines.lines.items in
    let at = c.steps.at in
    let end = c.before_region-end.result in
    let slice = c.deref.result.now in
    let others = take (length slice - (at + 1)) (drop (at + 1) slice) in
    let rest : others ≡ drop (at + 1) lines = tail_is slice (at + 1) ∙ ap (drop (at + 1)) c.deref.ensures.value in
    let within : at < length lines = let count = c.len.ensures in let test = c.steps-test.true in omega (arith, count, test, c.in_ok-lines.lines.ok.0) in
    let short : end ≤ length lines - (at + 1) = let long = length-drop (at + 1) lines in let same = ap length rest in let inside = c.before_region-end.ensures.within in omega (arith, long, same, inside) in
    let pushed : c.push.new.self.items ≡ c.steps.steps.items ++ c.in_ok-step.step ∷ [] = search rules in
    let region : IfSome (slice_get (drop (at + 1) lines) end) (λ x. x.is_region ≡ true) = subst (λ x. IfSome (slice_get x end) (λ x. x.is_region ≡ true)) rest c.before_region-end.ensures.region in
    let searched = rw (mapped_ok c.search_step.result c.map_err.result _ _ c.map_err.ensures.cases c.in_ok-step.was) at c.search_step.ensures in
    let steps = steps_next c.args.most lines c.steps.steps.items at end c.index.result.now others c.in_ok-step.step within c.index.ensures rest c.steps.invariant.region c.before_region-end.ensures.none searched c.steps.invariant.steps in
    record {
      within = omega (arith, within, short);
      region = some_at_place (λ x. x.is_region ≡ true) lines (at + 1) end (at + (end + 1)) (omega arith) region;
      steps = λ more h. subst (λ x. AreSteps c.args.most lines (x ++ more)) (sym pushed) (steps more h);
    }

pub returns-clause-steps : goal.returns-clause-steps
returns-clause-steps c =
    let lines = c.in_ok-lines.lines.items in
    let end : length lines ≤ c.steps.at = let count = c.len.ensures in let test = c.steps-test.false in omega (arith, count, test, c.in_ok-lines.lines.ok.0) in
    steps_all c.args.most lines c.steps.steps.items c.steps.at end c.steps.invariant.steps
