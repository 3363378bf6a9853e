use Rattle.std.proofs.Common.{◌≡◌, ◌++◌, ◌-◌, ap, drop, length, subst, sym, take}
use Rattle.std.specs.Prelude.{◌↔◌}
use Rattle.std.proofs.lemmas.List.{take_rest}
use Rattle.mvs_model.specs.Runs.{IsPrinting}
use Rattle.judge.specs.declared.Finding.TheVariants.{Accepted}
use Rattle.judge.specs.Deciding.{HasReached}
use Rattle.judge.proofs.Found.{followed_ended, found_ended, printed_along}
use Rattle.judge.proofs.judge_along.Goals as goal

pub returns-in-Some-clause-agrees : goal.returns-in-Some-clause-agrees
returns-in-Some-clause-agrees c =
    let f = c.in_ok-followed.followed in
    let ended = followed_ended c.args.script.now c.args.output.now c.follow.new.walk f.at f.text.items f.passes f.ended f.open_line c.in-Some.outcome c.in-Some.is c.in_ok-followed.ensures in
    let said = found_ended c.args.script.now c.args.output.now f.text.items c.in-Some.outcome f.passes ended in
    subst (λ x. (x ≡ Accepted) ↔ (f.text.items ≡ c.args.output.now)) (sym c.finding_of.ensures) said.2

pub returns-clause-found : goal.returns-clause-found
returns-clause-found c =
    let script = c.args.script.now in
    let output = c.args.output.now in
    let f = c.in_ok-followed.followed in
    let text = f.text.items in
    let w = c.follow.new.walk in
    let front = subst (λ x. output ≡ x ++ drop (length x) output) c.as_slice.ensures.value (c.begins.ensures.yes c.if-not-begins.false) in
    printed_along script output text (drop (length text) output) w f.at f.passes f.ended c.in_ok-outcome.field-0 f.open_line c.in-Some-2.outcome c.in_default.is c.in_ok-followed.ensures front (λ s.
    c.in_ok-outcome.ensures script
    (subst (λ n. HasReached script (take n output) w (take (length script - f.at) (drop f.at script))) (ap length (sym c.as_slice-front.ensures.value))
    (subst (HasReached script (take (length text) output) w) (sym (take_rest script f.at)) s))) c.in-Some-2.is

pub returns-clause-run : goal.returns-clause-run
returns-clause-run c = subst (λ t. IsPrinting c.args.script.now t c.in-Some-2.outcome) (sym c.in_ok-copied.ensures) (returns-clause-found c)
