use Rattle.std.proofs.Common.{◌≡◌, ◌++◌, ◌∷◌, [], ◌∙◌, ap, inr, rules, subst, true}
use Rattle.mvs_model.specs.Reading.{is_empty}
use Rattle.schedules.specs.Scripts.{IsStepLine}
use Rattle.schedules.proofs.script.add_line.Goals as goal

pub returns-clause-added : goal.returns-clause-added
returns-clause-added c =
    let old = c.args.found.now.items in
    let line = c.in-Some.line in
    let first = c.is_first-first.result in
    let before : first ≡ is_empty old = c.is_first-first.ensures ∙ ap is_empty c.deref.ensures.value in
    let pushed : c.push.new.self.items ≡ old ++ line ∷ [] = search rules in
    let is : IsStepLine first c.args.number c.args.bytes.now line = rw c.in-Some.is at c.in_ok-line.ensures.read in
    let region : first ≡ true → line.is_region ≡ true = rw c.in-Some.is at c.in_ok-line.ensures.region in
    inr (line, subst (λ b. IsStepLine b c.args.number c.args.bytes.now line) before is, λ h. region (before ∙ h), pushed)
