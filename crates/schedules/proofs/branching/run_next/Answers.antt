use Rattle.std.proofs.Common.{◌≡◌, ◌+◌, ◌++◌, ◌∷◌, [], ◌∙◌, suc, ap, arith, drop, rules, subst, take}
use Rattle.schedules.specs.Schedules.{RunsLine}
use Rattle.schedules.proofs.branching.run_next.Goals as goal

pub returns : goal.returns
returns c =
    let branch = c.args.branch in
    let at = c.args.at in
    let left = branch.left.items in
    let answer = c.in_ok-answer.answer in
    let pushed : c.push.new.self.items ≡ branch.begun.items ++ answer ∷ [] = search rules in
    let next : suc at ≡ at + 1 = omega arith in
    record {
      answer = answer;
      runs = (c.args.line.now, c.requires.line, subst (λ w. RunsLine c.args.line.now w answer c.run_line.new.walk) c.deref_mut.ensures.value c.in_ok-answer.ensures.runs);
      left = c.remove.ensures.items ∙ ap (λ n. take at left ++ drop n left) next;
      begun = pushed;
    }
